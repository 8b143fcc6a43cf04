-- One call of a list: on sound tables it is refused or carries out an effect.
use mathlib.Core.Path.{◌≡◌, sym, ap, subst}
use mathlib.Core.Bool.{Bool, false}
use Prim.Native.Nat.{ℕ, min}
use lib.Dec.{eqb}
use Rattle.std.specs.Prelude.{if◌then◌else◌}
use Rattle.kernel.specs.General as General
use Rattle.kernel.proofs.Laws.Sound.{passes}
use Rattle.kernel.proofs.Laws.Claims.{claims}
use Rattle.kernel.proofs.Laws.Does.{Proper, Step, refuses, carries}
use Rattle.kernel.proofs.Laws.Services.{step-does}
use Rattle.kernel.specs.declared.Kernel.{Kernel}
use Rattle.kernel.specs.declared.Answer.{Answer}
use Rattle.kernel.specs.Answers.{Outcome, answer_of, refused}
use Rattle.kernel.specs.Sound.{Sound}
use Rattle.kernel.specs.Edits.{status_of, Effect, carried_out}
use Rattle.kernel.specs.Roles.{limit_of}
use Rattle.kernel.specs.Uses.{Role}
use Rattle.claims.specs.Lists.{Made, answer, next}

-- its first argument, past the last number of an object or thread the one that stands for none
abbrev pub target : Made → ℕ
target m = min m.request.a (limit_of m.request.number)

module _ (k : Kernel) (S : Sound k) (m : Made) where
  abbrev stepped : Outcome
  stepped = General.step k m.request m.messages

  -- on sound tables the general call is the step
  pub answer_is : answer k m ≡ answer_of stepped
  unfolding answer General.call
  answer_is = ap (λ (b : Bool). if b then answer_of stepped else General.unsound k) (passes k S)

  pub next_sound : Sound (next k m)
  unfolding next answer
  next_sound = claims.call_sound k S m.request m.messages

  -- what holds of its status and tables where it is refused, and where it is carried out
  pub by-step : (P : ℕ → Kernel → Type 0) → ((s : ℕ) → eqb s 0 ≡ false → P s k)
      → ((e : Effect) → Proper k m.request.number (target m) e → Role k m.request.number (target m) m.request.b m.request.c m.messages e → P (status_of e.success) (carried_out k e).kernel) → P (answer k m).status (next k m)
  unfolding next answer_of refused carried_out
  by-step P f g = subst (λ (y : Answer). P y.status y.kernel) (sym answer_is) (go stepped (step-does k m.request m.messages S))
    where
      go : (o : Outcome) → Step k m.request.number (target m) m.request.b m.request.c m.messages o → P o.status o.kernel
      go o (refuses s z r) = subst (λ (y : Outcome). P y.status y.kernel) (sym r) (f s z)
      go o (carries e r E R) = subst (λ (y : Outcome). P y.status y.kernel) (sym r) (g e E R)
