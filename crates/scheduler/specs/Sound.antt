-- Sound threads and orders: the scheduler's part of sound tables (rules 12.1 to 12.4, 12.7).
use Rattle.std.specs.Prelude.{if◌then◌else◌, ◌≡◌, Bool, true, false, ◌&&◌, ◌||◌, not, ℕ, ◌<◌, ◌≤◌, length, eqb, ltb, leb}
use Rattle.lines.specs.Logic.{one_if, all_below, implies}
use Rattle.numbers.specs.Numbers.{threads, nobody, priorities}
use Rattle.lines.specs.Lists.{count, below}
use Rattle.lines.specs.Lines.{members, cleanb}
use Rattle.scheduler.specs.declared.thread.Thread.{Thread}
use Rattle.scheduler.specs.declared.Scheduler.{Scheduler}
use Rattle.scheduler.specs.Threads.{on_block, readyb, waitsb, pausedb, standsb}
use Rattle.scheduler.specs.Orders.{thread_at, priority_at, threshold_at, runner}
use Rattle.scheduler.specs.Choice.{best_ready}

-- ---- one record
-- rules 1.1, 12.2: a known state, a priority from 0 to 31, a threshold not over it
unfoldable pub limitsb : Thread → Bool
limitsb th = leb th.state on_block && ltb th.priority priorities && leb th.threshold th.priority

-- rule 12.2: only a ready thread whose threshold is below its priority is marked
unfoldable pub mark_fitb : Thread → Bool
mark_fitb th = implies th.marked (readyb th && ltb th.threshold th.priority)

-- rule 12.4: only a waiter or sleeper holds a suspension
unfoldable pub suspension_fitb : Thread → Bool
suspension_fitb th = implies th.suspending (pausedb th)

-- rule 12.4: a waiter or sleeper has a tick left, where the largest number stands for no end, and nobody else has ticks
unfoldable pub ticks_fitb : Thread → Bool
ticks_fitb th = implies (pausedb th) (ltb 0 th.ticks) && (pausedb th || eqb th.ticks 0)

-- rule 12.7: only a waiter has an object
unfoldable pub object_fitb : Thread → Bool
object_fitb th = waitsb th || eqb th.object 0

-- rule 12.7: the record of a thread that is not created is zero
unfoldable pub zerob : Thread → Bool
zerob th =
    eqb th.state 0 && eqb th.priority 0 && eqb th.threshold 0 && not th.marked && not th.suspending
    && eqb th.object 0 && eqb th.ticks 0

-- rules 12.2, 12.4, 12.7: a record is fit in itself
unfoldable pub fitb : Thread → Bool
fitb th = if th.created then (limitsb th && mark_fitb th && suspension_fitb th && ticks_fitb th && object_fitb th) else zerob th

-- ---- all records and the orders
-- rule 12.1: sound but for the runner
pub record Steady (s : Scheduler) : Type 0 where
  -- the table has its size, as every value of its type has
  pub sized : length s.threads ≡ threads
  -- rule 12.7: at most 32 stand in the line, and the slots behind them are zero
  pub clean : cleanb s.order ≡ true
  -- rule 12.1: each thread that is ready or waits stands once, and nobody else
  pub placed : (t : ℕ) → count t (members s.order) ≡ one_if (standsb (thread_at s t))
  -- every record is fit
  pub fit : (t : ℕ) → t < nobody → fitb (thread_at s t) ≡ true

-- ---- the runner
-- rules 12.2, 12.3: what is asked of whoever runs
pub record Runs (s : Scheduler) : Type 0 where
  -- rule 12.3: the runner is a ready thread, or nobody
  pub known : runner s ≤ nobody
  pub ready : runner s < nobody → readyb (thread_at s (runner s)) ≡ true
  -- rule 12.3: nobody runs only while nobody is ready
  pub none : runner s ≡ nobody → (t : ℕ) → readyb (thread_at s t) ≡ false
  -- rule 12.3: no ready thread has a number below the runner's threshold
  pub best : (t : ℕ) → readyb (thread_at s t) ≡ true → threshold_at s (runner s) ≤ priority_at s t
  -- rule 12.2: the runner has no mark
  pub unmarked : (thread_at s (runner s)).marked ≡ false

-- rule 12.9: sound threads and orders
pub record Sound (s : Scheduler) : Type 0 where
  pub steady : Steady s
  pub runs : Runs s

-- ---- the test, one pass over the line and one over the threads
-- rule 12.1: a thread that stands n times stands as often as its record says, and the record is fit
unfoldable pub countedb : ℕ → Thread → Bool
countedb n th = eqb n (one_if (standsb th)) && fitb th

-- all of it but what is asked of the runner
unfoldable pub steadyb : Scheduler → Bool
steadyb s =
    cleanb s.order && below nobody (members s.order) && all_below threads (λ t. countedb (count t (members s.order)) (thread_at s t))

-- rules 12.2, 12.3: what is asked of the runner; that no ready thread is below its threshold is asked of the best one
unfoldable pub runsb : Scheduler → Bool
runsb s =
    if ltb (runner s) nobody
    then (readyb (thread_at s (runner s)) && not (thread_at s (runner s)).marked
    && leb (threshold_at s (runner s)) (priority_at s (best_ready s)))
    else (eqb (runner s) nobody && eqb (best_ready s) nobody)

-- rule 12.9: the test of threads and orders
unfoldable pub soundb : Scheduler → Bool
soundb s = steadyb s && runsb s
