-- The choice after a call, case by case.
use mathlib.Core.Path.{◌≡◌, refl, sym, ap, ◌∙◌}
use mathlib.Core.Bool.{Bool, true, false, ◌&&◌, ◌||◌, not}
use Prim.Native.Nat.{ℕ, ◌<◌}
use lib.Dec.{ltb}
use borrow.Author.Tests.{ltb-true}
use Rattle.numbers.specs.Numbers.{nobody}
use Rattle.std.specs.Prelude.{if◌then◌else◌}
use Rattle.lines.proofs.Laws.Logic.{by_test}
use Rattle.scheduler.specs.declared.thread.Thread.{Thread}
use Rattle.scheduler.specs.declared.Scheduler.{Scheduler}
use Rattle.scheduler.specs.Threads.{readyb}
use Rattle.scheduler.specs.Orders.{thread_at, priority_at, threshold_at, runner}
use Rattle.scheduler.specs.Choice.{best_ready, best_marked, staysb, overtakesb, next_of, replaced, dispatched, rescheduled}

module _ (s : Scheduler) (b : Bool) where
  -- the runner and the next thread, by the two tests of each case
  abbrev outcome : Bool → Bool → Bool → Scheduler
  outcome stays over past =
      dispatched (if stays && over then replaced s else s)
      (if stays then (if over then best_ready s else runner s) else (if past then best_ready s else best_marked s))

  by_outcome : (x y z : Bool) → staysb s b ≡ x → overtakesb s (runner s) ≡ y → overtakesb s (best_marked s) ≡ z → rescheduled s b ≡ outcome x y z
  unfolding rescheduled next_of
  by_outcome x y z e f g = λ i. outcome (e i) (f i) (g i)

  -- a runner that stays is replaced, or goes on
  pub is-replaced : staysb s b ≡ true → overtakesb s (runner s) ≡ true → rescheduled s b ≡ dispatched (replaced s) (best_ready s)
  is-replaced e f = by_outcome true true (overtakesb s (best_marked s)) e f refl

  pub goes_on_lem : staysb s b ≡ true → overtakesb s (runner s) ≡ false → rescheduled s b ≡ dispatched s (runner s)
  goes_on_lem e f = by_outcome true false (overtakesb s (best_marked s)) e f refl

  -- a runner that leaves is followed by the best ready thread, or by the marked one
  pub best_follows : staysb s b ≡ false → overtakesb s (best_marked s) ≡ true → rescheduled s b ≡ dispatched s (best_ready s)
  best_follows e g = by_outcome false (overtakesb s (runner s)) true e refl g

  pub marked_follows : staysb s b ≡ false → overtakesb s (best_marked s) ≡ false → rescheduled s b ≡ dispatched s (best_marked s)
  marked_follows e g = by_outcome false (overtakesb s (runner s)) false e refl g

-- ---- the choice on what was read before
pub stays_from : (s : Scheduler) (b : Bool) (th : Thread) → th ≡ thread_at s (runner s) → (readyb th && not b) ≡ staysb s b
unfolding staysb
stays_from s b th e = ap (λ (x : Thread). readyb x && not b) e

-- the best ready thread's priority counts only where there is one
pub overtakes_from : (s : Scheduler) (t h u p : ℕ) (th : Thread) → h ≡ best_ready s → u ≡ t → (best_ready s < 32 → p ≡ priority_at s (best_ready s))
    → th ≡ thread_at s u → (ltb h nobody && (not (ltb u nobody) || ltb p th.threshold)) ≡ overtakesb s t
unfolding overtakesb
overtakes_from s t h u p th e f k a =
    ap (λ (x : Thread). ltb h nobody && (not (ltb u nobody) || ltb p x.threshold)) a
    ∙ (λ i. ltb (e i) nobody && (not (ltb (f i) nobody) || ltb p (threshold_at s (f i))))
    ∙ by_test (ltb (best_ready s) nobody)
    (λ w. let q = k (ltb-true (best_ready s) nobody w) in ap (λ (n : ℕ). ltb (best_ready s) nobody && (not (ltb t nobody) || ltb n (threshold_at s t))) q)
    (λ w. ap (λ (x : Bool). x && (not (ltb t nobody) || ltb p (threshold_at s t))) w
    ∙ sym (ap (λ (x : Bool). x && (not (ltb t nobody) || ltb (priority_at s (best_ready s)) (threshold_at s t))) w))

-- thread t goes on unless it is overtaken: the runner where it stays, else the best marked thread
module _ (s : Scheduler) (b : Bool) (t : ℕ) where
  pub over_runs : (x : Bool) → staysb s b ≡ x → t ≡ (if x then runner s else best_marked s) → overtakesb s t ≡ true
      → rescheduled s b ≡ dispatched (if x then replaced s else s) (best_ready s)
  over_runs true e f o = is-replaced s b e (ap (overtakesb s) (sym f) ∙ o)
  over_runs false e f o = best_follows s b e (ap (overtakesb s) (sym f) ∙ o)

  pub t_runs : (x : Bool) → staysb s b ≡ x → t ≡ (if x then runner s else best_marked s) → overtakesb s t ≡ false → rescheduled s b ≡ dispatched s t
  t_runs true e f o = goes_on_lem s b e (ap (overtakesb s) (sym f) ∙ o) ∙ ap (dispatched s) (sym f)
  t_runs false e f o = marked_follows s b e (ap (overtakesb s) (sym f) ∙ o) ∙ ap (dispatched s) (sym f)
