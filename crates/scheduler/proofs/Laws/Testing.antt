-- The test of soundness holds exactly of sound tables.
use mathlib.Core.Path.{◌≡◌, sym, ap, ◌∙◌}
use mathlib.Core.Bool.{Bool, true, false, ◌&&◌, not}
use Prim.Native.Nat.{ℕ, ◌≤◌, ◌<◌}
use native.Mathlib.Omega.{arith}
use lib.ListN.{length}
use lib.Dec.{eqb, ltb, leb}
use borrow.Author.Tests.{ltb-true, ltb-false, leb-true, le-leb, eq-eqb, eqb-true, not-true}
use Rattle.std.specs.Prelude.{if◌then◌else◌}
use Rattle.lines.specs.Logic.{one_if, all_below}
use Rattle.lines.specs.Lists.{count, below}
use Rattle.lines.specs.Lines.{members, cleanb}
use Rattle.lines.proofs.Laws.Logic.{by_test, never, and_left, and_right, and_in, all-at, all_in}
use Rattle.lines.proofs.Laws.Lists.{below_out, below_in}
use Rattle.scheduler.specs.declared.thread.Thread.{Thread}
use Rattle.scheduler.specs.declared.Scheduler.{Scheduler}
use Rattle.scheduler.specs.Threads.{readyb, standsb}
use Rattle.scheduler.specs.Orders.{thread_at, priority_at, threshold_at, runner}
use Rattle.scheduler.specs.Choice.{best_ready}
use Rattle.scheduler.specs.Sound.{fitb, Steady, Runs, Sound, countedb, steadyb, runsb, soundb}
use Rattle.scheduler.proofs.Laws.Threads.{none-at, none_stands, none_unmarked}
use Rattle.scheduler.proofs.Laws.Orders
use Rattle.scheduler.proofs.Laws.Choosing

-- ---- the threads
module _ (s : Scheduler) where
  abbrev low : Bool
  low = below 32 (members s.order)

  abbrev counted : ℕ → Bool
  counted t = countedb (count t (members s.order)) (thread_at s t)

  abbrev stands : ℕ → Bool
  stands t = eqb (count t (members s.order)) (one_if (standsb (thread_at s t)))

  pub steady_tested : length s.threads ≡ 32 → steadyb s ≡ true → Steady s
  unfolding steadyb countedb one_if
  steady_tested z e =
      let first = and_left (cleanb s.order && low) (all_below 32 counted) e in
      let below32 = and_right (cleanb s.order) low first in
      let each = all-at 32 counted (and_right (cleanb s.order && low) (all_below 32 counted) e) in
      record {
        sized = z;
        clean = and_left (cleanb s.order) low first;
        placed = λ t. by_test (ltb t 32)
            (λ w. eqb-true _ _ (and_left (stands t) (fitb (thread_at s t)) (each t (ltb-true t 32 w))))
            (λ w. let o = ltb-false t 32 w in below_out 32 (members s.order) below32 t o ∙ ap one_if (sym none_stands) ∙ ap (λ (th : Thread). one_if (standsb th)) (sym (none-at s t z o)));
        fit = λ t l. and_right (stands t) (fitb (thread_at s t)) (each t l);
      }

  steady_passes : Steady s → steadyb s ≡ true
  unfolding steadyb countedb
  steady_passes S =
      and_in (cleanb s.order && low) (all_below 32 counted)
      (and_in (cleanb s.order) low S.clean (below_in 32 (members s.order) (Orders.out_of_order s S)))
      (all_in 32 counted (λ t l. and_in (stands t) (fitb (thread_at s t)) (eq-eqb _ _ (S.placed t)) (S.fit t l)))

-- ---- the runner
module _ (s : Scheduler) (S : Steady s) where
  abbrev someone : Bool
  someone = readyb (thread_at s (runner s)) && not (thread_at s (runner s)).marked && leb (threshold_at s (runner s)) (priority_at s (best_ready s))

  abbrev none : Bool
  none = eqb (runner s) 32 && eqb (best_ready s) 32

  somebody_tested : runner s < 32 → someone ≡ true → Runs s
  somebody_tested l e =
      let r = readyb (thread_at s (runner s)) in
      let m = not (thread_at s (runner s)).marked in
      let b = leb (threshold_at s (runner s)) (priority_at s (best_ready s)) in
      let rm = and_left (r && m) b e in
      let le = leb-true (threshold_at s (runner s)) (priority_at s (best_ready s)) (and_right (r && m) b e) in
      record {
        known = omega (arith, l);
        ready = λ w. and_left r m rm;
        none = λ q. absurd (omega (arith, q, l));
        best = λ t h. let a = Choosing.best_least s S t h (Choosing.best_some s S t h) in omega (arith, a, le);
        unmarked = not-true (thread_at s (runner s)).marked (and_right r m rm);
      }

  nobody_tested : none ≡ true → Runs s
  nobody_tested e =
      let n = eqb-true (runner s) 32 (and_left (eqb (runner s) 32) (eqb (best_ready s) 32) e) in
      let q = eqb-true (best_ready s) 32 (and_right (eqb (runner s) 32) (eqb (best_ready s) 32) e) in
      let idle : (t : ℕ) → readyb (thread_at s t) ≡ false = λ t. by_test (readyb (thread_at s t)) (λ r. absurd (let l = Choosing.best_some s S t r in omega (arith, l, q))) (λ r. r) in
      record {
        known = omega (arith, n);
        ready = λ l. absurd (omega (arith, n, l));
        none = λ w. idle;
        best = λ t h. never h (idle t);
        unmarked = ap (λ (th : Thread). th.marked) (none-at s (runner s) S.sized (omega (arith, n))) ∙ none_unmarked;
      }

  runs_tested : runsb s ≡ true → Runs s
  unfolding runsb
  runs_tested e =
      by_test (ltb (runner s) 32)
      (λ w. somebody_tested (ltb-true (runner s) 32 w) (sym (ap (λ (b : Bool). if b then someone else none) w) ∙ e))
      (λ w. nobody_tested (sym (ap (λ (b : Bool). if b then someone else none) w) ∙ e))

  runs_passes : Runs s → runsb s ≡ true
  unfolding runsb
  runs_passes R =
      by_test (ltb (runner s) 32)
      (λ w. ap (λ (b : Bool). if b then someone else none) w ∙ somebody (ltb-true (runner s) 32 w))
      (λ w. ap (λ (b : Bool). if b then someone else none) w ∙ nobody (ltb-false (runner s) 32 w))
    where
      somebody : runner s < 32 → someone ≡ true
      somebody l =
          let r = R.ready l in
          let p = Choosing.best_some s S (runner s) r in
          and_in (readyb (thread_at s (runner s)) && not (thread_at s (runner s)).marked) (leb (threshold_at s (runner s)) (priority_at s (best_ready s)))
          (and_in (readyb (thread_at s (runner s))) (not (thread_at s (runner s)).marked) r (ap not R.unmarked))
          (le-leb (threshold_at s (runner s)) (priority_at s (best_ready s)) (R.best (best_ready s) (Choosing.best_is-ready s S p)))

      nobody : 32 ≤ runner s → none ≡ true
      nobody o =
          let k = R.known in
          let e : runner s ≡ 32 = omega (arith, o, k) in
          and_in (eqb (runner s) 32) (eqb (best_ready s) 32) (eq-eqb (runner s) 32 e)
          (eq-eqb (best_ready s) 32
          (by_test (ltb (best_ready s) 32)
          (λ w. never (Choosing.best_is-ready s S (ltb-true (best_ready s) 32 w)) (R.none e (best_ready s)))
          (λ w. let l = ltb-false (best_ready s) 32 w in let b = Choosing.best_known s S in omega (arith, l, b))))

-- ---- both
pub tested : (s : Scheduler) → length s.threads ≡ 32 → soundb s ≡ true → Sound s
unfolding soundb
tested s z e =
    let S = steady_tested s z (and_left (steadyb s) (runsb s) e) in
    record { steady = S; runs = runs_tested s S (and_right (steadyb s) (runsb s) e) }

pub passes : (s : Scheduler) → Sound s → soundb s ≡ true
unfolding soundb
passes s S = and_in (steadyb s) (runsb s) (steady_passes s S.steady) (runs_passes s S.steady S.runs)
