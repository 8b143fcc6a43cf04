-- Laws of answers by the arms of the code: of the general call, by what is found before the service, and of a service, refused or carried out.
use mathlib.Core.Path.{◌≡◌, sym, ap, ◌∙◌, subst}
use mathlib.Core.List.{List}
use mathlib.Core.Bool.{Bool, true, false, not}
use Prim.Native.Nat.{ℕ}
use native.Mathlib.Omega.{arith}
use lib.ListN.{length}
use borrow.Author.Tests.{not-true, not-false}
use Rattle.std.specs.Prelude.{if◌then◌else◌, Option, Some, None}
use Rattle.scheduler.specs.declared.Scheduler.{Scheduler}
use Rattle.scheduler.specs.Choice.{rescheduled}
use Rattle.calls.specs.Calls.{decoded}
use Rattle.calls.specs.Held.{no_words}
use Rattle.calls.specs.Statuses as Statuses
use Rattle.calls.specs.declared.refusal.Refusal.{Refusal}
use Rattle.calls.specs.Refusals as Reasons
use Rattle.calls.proofs.Laws.Refusals.{status_above}
use Rattle.calls.specs.declared.call.Request.{Request}
use Rattle.calls.specs.declared.call.Call.{Call}
use Rattle.kernel.specs.declared.Kernel.{Kernel}
use Rattle.kernel.specs.declared.Answer.{Answer}
use Rattle.kernel.specs.Tables.{runner_of, with_scheduler}
use Rattle.kernel.specs.Answers.{answer_of, refused}
use Rattle.kernel.specs.Loops.{answered}
use Rattle.kernel.specs.Sound.{soundb}
use Rattle.kernel.specs.Edits.{Edit, applied, movers, endsb, status_of, Effect, carried_out, guarded}
use Rattle.kernel.specs.Effects.{does}
use Rattle.calls.specs.Chains.{nobody_runsb}
use Rattle.kernel.specs.Chains.{chain_of, chained}
use Rattle.kernel.specs.General.{effect_of, step_of, step, unsound, call}
use Rattle.kernel.proofs.Laws.Refusals.{Same, same_reason}
use Rattle.kernel.proofs.Laws.Answers.{is-refused}

-- ---- the general call
module _ (k : Kernel) (q : Request) (ms : List ℕ) where
  -- unsound tables are refused
  pub on-unsound : {s : Bool} → s ≡ soundb k → not s ≡ true → unsound k ≡ call k q ms
  unfolding call
  on-unsound {s} e f = rw (← e, not-true s f)

  -- on sound tables the answer is that of the step
  pub on_sound : {s : Bool} → s ≡ soundb k → not s ≡ false → answer_of (step k q ms) ≡ call k q ms
  unfolding call
  on_sound {s} e f = rw (← e, not-false s f)

  -- the step, by what the request is for: nothing known; or a call, refused or carried out as the code's chain says
  module _ {r : Option Call} (e : r ≡ decoded q) where
    pub on_unknown : r ≡ None → refused k Statuses.unknown_call ≡ step k q ms
    unfolding step step_of
    on_unknown u = rw (← e, u)

    pub on_known : {x : Call} → r ≡ Some x → guarded k (chained k q.caller x ms) (effect_of k x ms) ≡ step k q ms
    unfolding step step_of
    on_known {x} u = known (decoded q) (sym (sym e ∙ u)) (same_reason k q ms)
      where
        known : (y : Option Call) → Some x ≡ y → Same k q.caller q.a q.b q.c q.d ms q.number y → guarded k (chained k q.caller x ms) (effect_of k x ms) ≡ step_of k q y ms
        known y h = subst (λ (z : Option Call). Same k q.caller q.a q.b q.c q.d ms q.number z → guarded k (chained k q.caller x ms) (effect_of k x ms) ≡ step_of k q z ms) h
            (λ w. ap (λ (i : ℕ). guarded k i (effect_of k x ms)) (sym w))

-- a caller is there: a step's outcome is that of the call's own chain
pub on-served : (k : Kernel) (caller : ℕ) (ms : List ℕ) {x y : Call} → nobody_runsb caller (runner_of k) ≡ false → x ≡ y
    → guarded k (chain_of k caller y ms) (effect_of k y ms) ≡ guarded k (chained k caller x ms) (effect_of k x ms)
unfolding chained
on-served k caller ms {y = y} n e =
    ap (λ (b : Bool). guarded k (if b then Statuses.nobody_runs else chain_of k caller y ms) (effect_of k y ms)) (sym n)
    ∙ ap (λ (z : Call). guarded k (if nobody_runsb caller (runner_of k) then Statuses.nobody_runs else chain_of k caller z ms) (effect_of k z ms)) (sym e)

-- ---- services
-- a service that finds a reason is refused for it
pub refused_by : (k : Kernel) {found reason : ℕ} (e : Effect) {r : Answer}
    → r ≡ answer_of (refused k found) → found ≡ reason → (found ≡ 0 → ⊥) → r ≡ answer_of (guarded k reason e)
refused_by k {reason = reason} e p q n = p ∙ ap answer_of (ap (refused k) q ∙ sym (is-refused k reason e (λ w. n (q ∙ w))))

-- a service that is refused for a reason is refused for the first that holds, whose status is not 0
pub refused_for : (k : Kernel) {found reason : ℕ} (e : Effect) (why : Refusal) {r : Answer}
    → r ≡ answer_of (refused k found) → found ≡ Reasons.status_of why → Reasons.status_of why ≡ reason → r ≡ answer_of (guarded k reason e)
refused_for k {reason = reason} e why p q z =
    p ∙ ap answer_of (ap (refused k) (q ∙ z) ∙ sym (is-refused k reason e (λ w. let h = status_above why in absurd (omega (arith, h, z, w)))))

-- a service that is done has carried out edits, and so many waits have ended as they end
pub carried_as : (k self : Kernel) (s : Scheduler) {n : ℕ} (es : List Edit) → with_scheduler self s ≡ applied k es → n ≡ length (movers endsb es) → answered self s 0 no_words n ≡ answer_of (carried_out k (does es))
unfolding answer_of carried_out status_of answered with_scheduler
carried_as k self s es e n =
    λ j. record { status = 0; words = no_words; next = (rescheduled (e j).scheduler false).running; ended = n j; kernel = with_scheduler (e j) (rescheduled (e j).scheduler false) }
