-- What a call does: it is refused for a reason, or it carries out an effect. What follows from that for every call.
use mathlib.Core.Path.{◌≡◌, refl, sym, ap, ◌∙◌, subst}
use mathlib.Core.List.{List, [], ◌∷◌}
use mathlib.Core.Bool.{Bool, true, false}
use Prim.Native.Nat.{ℕ, ◌<◌, ◌≤◌}
use Prim.{Unit, tt}
use native.Mathlib.Omega.{arith}
use lib.Dec.{eqb}
use borrow.Author.Tests.{ne_eqb}
use Rattle.lines.specs.Lists.{count}
use Rattle.lines.proofs.Laws.Logic.{by_eq, by_choice, never}
use Rattle.scheduler.specs.declared.thread.Thread.{Thread}
use Rattle.scheduler.specs.declared.thread.Place.{Place}
use Rattle.scheduler.specs.Orders.{line_at}
use Rattle.scheduler.specs.Choice.{with_mark}
use Rattle.scheduler.proofs.Laws.Choosing
use Rattle.calls.specs.Statuses as Statuses
use Rattle.kernel.specs.declared.Kernel.{Kernel}
use Rattle.kernel.specs.Tables.{thread_of, runner_of, held_at, with_scheduler}
use Rattle.kernel.specs.Answers.{Outcome, answer_of, refused}
use Rattle.kernel.specs.Kinds.{Kind, table_of}
use Rattle.kernel.specs.Sound.{Fit, Sound}
use Rattle.kernel.specs.Edits.{Move, Edit, applied, movers, anyb, startsb, Success, status_of, Effect, carried_out, guarded}
use Rattle.kernel.specs.Edits.Edit.{moves, alters}
use Rattle.kernel.specs.Edits.Success.{done, lifted, waits}
use Rattle.kernel.specs.Roles.{mayb, allb}
use Rattle.kernel.specs.Uses.{When, Role}
use Rattle.kernel.specs.Claims.{doneb, Unchanged}
use Rattle.kernel.proofs.Laws.Answers.{is-refused, is_carried}
use Rattle.kernel.proofs.Laws.Objects
use Rattle.kernel.proofs.Laws.Fits
use Rattle.kernel.proofs.Laws.Lines
use Rattle.kernel.proofs.Laws.Changes

-- ---- one call
-- with 0x101 the caller waits and nothing else happens, with 0x19 one record changes, with 0x00 nobody begins to wait
abbrev pub Shape : Success → List Edit → Type 0
Shape done es = allb Lines.unstartedb es ≡ true
Shape lifted es = (t : ℕ) × (f : Thread → Thread) × (es ≡ alters t f ∷ [])
Shape waits es = (t : ℕ) × (m : Move) × (startsb m ≡ true) × (es ≡ moves t m ∷ [])

-- an effect of the call of number n with first argument a: what each edit requires holds, the tables are sound but for the runner at the end, nobody
-- moves twice, and the edits are such as a call of that number may do
pub record Proper (k : Kernel) (n a : ℕ) (e : Effect) : Type 0 where
  pub requires : Fits.RequiresAll k e.edits
  pub fit : Fit (applied k e.edits)
  pub once : (u : ℕ) → count u (movers anyb e.edits) ≤ 1
  pub may : allb (mayb n a) e.edits ≡ true
  pub shape : Shape e.success e.edits

-- the one theorem of a call that is refused for a reason or carries out an effect
pub record Does (k : Kernel) (caller n a b c : ℕ) (messages : List ℕ) (reason : ℕ) (effect : Effect) : Type 0 where
  pub proper : Sound k → (eqb caller 2 ≡ true → runner_of k < 32) → reason ≡ 0 → Proper k n a effect
  pub role : Sound k → reason ≡ 0 → Role k n a b c messages effect

-- a call whose effect comes to another, of which the theorem is
pub record Acts (k : Kernel) (caller n a b c : ℕ) (messages : List ℕ) (reason : ℕ) (effect : Effect) : Type 0 where
  pub other : Effect
  pub same : carried_out k effect ≡ carried_out k other
  pub does : Does k caller n a b c messages reason other

pub itself : {k : Kernel} {caller n a b c : ℕ} {messages : List ℕ} {reason : ℕ} {effect : Effect} → Does k caller n a b c messages reason effect → Acts k caller n a b c messages reason effect
itself {effect = effect} D = record { other = effect; same = refl; does = D }

-- what is asked of a role, and a call that has none
pub when : {b : Bool} {A : Type 0} → When b A → b ≡ true → A
when {b} {A} w e = subst (λ (x : Bool). When x A) e w

-- a call whose role asks nothing of the tables
pub plain : {k : Kernel} {caller n a b c : ℕ} {messages : List ℕ} {reason : ℕ} {e : Effect} → Role k n a b c messages e → (Sound k → (eqb caller 2 ≡ true → runner_of k < 32) → reason ≡ 0 → Proper k n a e) → Does k caller n a b c messages reason e
plain r p = record { proper = p; role = λ S z. r }

abbrev pub none : Unit {0} × Unit {0} × Unit {0} × Unit {0} × Unit {0} × Unit {0} × Unit {0}
none = (tt, tt, tt, tt, tt, tt, tt)

-- ---- any call on sound tables
pub data Step (k : Kernel) (n a b c : ℕ) (messages : List ℕ) (o : Outcome) : Type 0 where
  refuses : (s : ℕ) → eqb s 0 ≡ false → o ≡ refused k s → Step k n a b c messages o
  carries : (e : Effect) → o ≡ carried_out k e → Proper k n a e → Role k n a b c messages e → Step k n a b c messages o

pub step-of : (k : Kernel) → Sound k → (caller n a b c : ℕ) (messages : List ℕ) (reason : ℕ) (e : Effect) → (eqb caller 2 ≡ true → runner_of k < 32) → Acts k caller n a b c messages reason e
    → Step k n a b c messages (guarded k reason e)
step-of k S caller n a b c messages reason e runs A =
    by_eq reason 0
    (λ z. carries A.other (is_carried k reason e z ∙ A.same) (A.does.proper S runs z) (A.does.role S z))
    (λ z. refuses reason (ne_eqb reason 0 z) (is-refused k reason e z))

-- to wait is not to be done
done_of : Success → Bool
done_of done = true
done_of lifted = false
done_of waits = false

pub waits-not_done : {P : Type 0} → waits ≡ done → P
unfolding done_of
waits-not_done e = never {b = done_of done} refl (ap done_of (sym e))

-- ---- a refused call changes nothing, on any tables
done-status : (s : Success) → doneb (status_of s) ≡ true
unfolding doneb status_of
done-status done = refl
done-status lifted = refl
done-status waits = refl

success_known : (s : Success) → eqb (status_of s) Statuses.tables_unsound ≡ false
unfolding status_of
success_known done = refl
success_known lifted = refl
success_known waits = refl

pub guarded-refused : (k : Kernel) (reason : ℕ) (e : Effect) → eqb reason Statuses.tables_unsound ≡ false → doneb (guarded k reason e).status ≡ false → Unchanged k (answer_of (guarded k reason e))
unfolding guarded refused carried_out answer_of
guarded-refused k reason e known =
    by_choice (λ (o : Outcome). doneb o.status ≡ false → Unchanged k (answer_of o)) (eqb reason 0) (carried_out k e) (refused k reason)
    (λ z u. never (done-status e.success) u) (λ z u. record { kernel = refl; words = refl; ended = refl; next = rw known })

-- and none gives 0x100 but for that reason
pub guarded_known : (k : Kernel) (reason : ℕ) (e : Effect) → eqb reason Statuses.tables_unsound ≡ false → eqb (guarded k reason e).status Statuses.tables_unsound ≡ false
unfolding guarded refused carried_out status_of
guarded_known k reason e known =
    by_choice (λ (o : Outcome). eqb o.status Statuses.tables_unsound ≡ false) (eqb reason 0) (carried_out k e) (refused k reason)
    (λ z. success_known e.success) (λ z. known)

-- ---- after the choice
module _ (k : Kernel) (n a : ℕ) (e : Effect) (P : Proper k n a e) where
  abbrev x : Kernel
  x = (carried_out k e).kernel

  pub chosen_fit : Fit x
  unfolding carried_out
  chosen_fit = Fits.fit_chosen (applied k e.edits) P.fit e.relinquishes

  pub chosen-line : (p : Place) → line_at x.scheduler p ≡ line_at (applied k e.edits).scheduler p
  unfolding carried_out with_scheduler
  chosen-line p = Choosing.rescheduled-line (applied k e.edits).scheduler P.fit.steady e.relinquishes p

  mark-ticks : (b : Bool) (th : Thread) → (with_mark b th).ticks ≡ th.ticks
  unfolding with_mark
  mark-ticks b th = refl

  pub chosen_kept : (u : ℕ) → Changes.Kept (applied k e.edits) x u 0
  unfolding carried_out with_scheduler held_at
  chosen_kept u =
      record {
        held = refl;
        seen = Choosing.rescheduled-keeps (applied k e.edits).scheduler P.fit.steady Fits.seen Fits.mark_seen e.relinquishes u;
        ticks = (let q = Choosing.rescheduled-keeps (applied k e.edits).scheduler P.fit.steady (λ y. y.ticks) mark-ticks e.relinquishes u in omega (arith, q));
      }

  pub chosen_levels : (u : ℕ) → Fits.levels (thread_of x u) ≡ Fits.levels (thread_of (applied k e.edits) u)
  unfolding carried_out with_scheduler
  chosen_levels u = Choosing.rescheduled-keeps (applied k e.edits).scheduler P.fit.steady Fits.levels Fits.mark_levels e.relinquishes u

  pub chosen_table : (d : Kind) → table_of d x ≡ table_of d (applied k e.edits)
  unfolding carried_out
  chosen_table d = Objects.table-scheduler (applied k e.edits) _ d
