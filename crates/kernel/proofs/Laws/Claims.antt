-- The claims of the general call.
use mathlib.Core.Path.{◌≡◌, refl, sym, ap, ◌∙◌, subst}
use mathlib.Core.List.{List}
use mathlib.Core.Bool.{Bool, true, false, not}
use Prim.Native.Nat.{ℕ}
use lib.Dec.{eqb}
use Rattle.std.specs.Prelude.{if◌then◌else◌}
use Rattle.lines.proofs.Laws.Logic.{by_choice}
use Rattle.scheduler.specs.Orders.{line_at}
use Rattle.scheduler.proofs.Laws.Choosing
use Rattle.calls.specs.Statuses as Statuses
use Rattle.calls.specs.declared.call.Request.{Request}
use Rattle.kernel.specs.declared.Kernel.{Kernel}
use Rattle.kernel.specs.declared.Answer.{Answer}
use Rattle.kernel.specs.Tables.{with_scheduler}
use Rattle.kernel.specs.Answers.{Outcome, answer_of, refused}
use Rattle.kernel.specs.Sound.{soundb, Sound}
use Rattle.kernel.specs.Edits.{applied, carried_out}
use Rattle.kernel.specs.General.{step, unsound, call}
use Rattle.kernel.specs.Claims.{doneb, Unchanged, Does, Claims}
use Rattle.kernel.specs.Claims.Does.{refuses, carries}
use Rattle.kernel.proofs.Laws.Arms.{on_sound}
use Rattle.kernel.proofs.Laws.Sound.{tested, passes, started_sound}
use Rattle.kernel.proofs.Laws.Lines
use Rattle.kernel.proofs.Laws.Does as Steps
use Rattle.kernel.proofs.Laws.Services

-- ---- sound tables
sound-after : (k : Kernel) → Sound k → (n a b c : ℕ) (messages : List ℕ) (o : Outcome) → Steps.Step k n a b c messages o → Sound o.kernel
unfolding refused carried_out with_scheduler
sound-after k S n a b c messages o (Steps.refuses s z is) = subst (λ (x : Outcome). Sound x.kernel) (sym is) S
sound-after k S n a b c messages o (Steps.carries e is P role) =
    subst (λ (x : Outcome). Sound x.kernel) (sym is)
    (record { fit = Steps.chosen_fit k n a e P; runs = (Choosing.rescheduled_sound (applied k e.edits).scheduler P.fit.steady e.relinquishes).runs })

-- a step that is carried out or refused leaves them sound
pub step_sound : (k : Kernel) → Sound k → (q : Request) (messages : List ℕ) → Sound (step k q messages).kernel
step_sound k S q messages = sound-after k S q.number _ q.b q.c messages _ (Services.step-does k q messages S)

-- and does what its effect says
step-does : (k : Kernel) → Sound k → (n a b c : ℕ) (messages : List ℕ) (o : Outcome) → Steps.Step k n a b c messages o → Does k n a b c messages o
step-does k S n a b c messages o (Steps.refuses s z is) = refuses s is
step-does k S n a b c messages o (Steps.carries e is P role) =
    carries e (record {
      is = is;
      may = P.may;
      once = P.once;
      line = λ p. ap (λ (x : Outcome). line_at x.kernel.scheduler p) is ∙ Steps.chosen-line k n a e P p ∙ Lines.line_after k S.fit.steady e.edits P.requires p;
      role = role;
    })

-- ---- the general call
module _ (k : Kernel) (q : Request) (messages : List ℕ) where
  call-refused : doneb (call k q messages).status ≡ false → Unchanged k (call k q messages)
  unfolding call unsound answer_of
  call-refused =
      by_choice (λ (r : Answer). doneb r.status ≡ false → Unchanged k r) (soundb k) (answer_of (step k q messages)) (unsound k)
      (λ e. Services.step-refused k q messages) (λ e u. record { kernel = refl; words = refl; ended = refl; next = refl })

  status-unsound : eqb (call k q messages).status Statuses.tables_unsound ≡ not (soundb k)
  unfolding call unsound answer_of
  status-unsound = go (soundb k)
    where
      go : (b : Bool) → eqb (if b then answer_of (step k q messages) else unsound k).status Statuses.tables_unsound ≡ not b
      go true = Services.step_known k q messages
      go false = refl

  call_sound_lem : Sound k → Sound (call k q messages).kernel
  unfolding answer_of
  call_sound_lem S = subst (λ (r : Answer). Sound r.kernel) (on_sound k q messages refl (ap not (passes k S))) (step_sound k S q messages)

pub claims : Claims
claims =
    record {
      test_sound = tested;
      sound_test = passes;
      start_sound = started_sound;
      call_sound = λ k S q messages. call_sound_lem k q messages S;
      refused_same = call-refused;
      unsound_status = status-unsound;
      does = λ k S q messages. step-does k S q.number _ q.b q.c messages _ (Services.step-does k q messages S);
    }
