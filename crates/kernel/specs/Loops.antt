-- What a helper of the services returns, and one of the test of soundness. No rule stands on it: a service's own contract is its effect,
-- carried out, and that of the test is `soundb`.
use Rattle.std.specs.Prelude.{List, Bool, false, ◌&&◌, ℕ}
use Rattle.lines.specs.Logic.{implies}
use Rattle.scheduler.specs.declared.thread.Thread.{Thread}
use Rattle.scheduler.specs.Threads.{on_queue, on_semaphore, on_flags, on_block}
use Rattle.scheduler.specs.declared.Scheduler.{Scheduler}
use Rattle.scheduler.specs.Choice.{rescheduled}
use Rattle.calls.specs.declared.held.Held.{Held}
use Rattle.waiting.specs.Fit.{waits_onb, queue_waitb, semaphore_waitb, group_waitb, pool_waitb}
use Rattle.kernel.specs.declared.Kernel.{Kernel}
use Rattle.kernel.specs.declared.Answer.{Answer}
use Rattle.kernel.specs.Tables.{with_scheduler, queue_at, semaphore_at, group_at, pool_at}

-- rule 4.7: the answer of a call that is carried out with the scheduler s and so many ended waits: the choice is made, and the new runner
-- is next
unfoldable pub answered : Kernel → Scheduler → ℕ → List ℕ → ℕ → Answer
answered k s status words ended =
    record {
      status = status;
      words = words;
      next = (rescheduled s false).running;
      ended = ended;
      kernel = with_scheduler k (rescheduled s false);
    }

-- rule 12.5: `wait_fitb` of a thread with this record that holds h
unfoldable pub asks_fitb : Kernel → Thread → Held → Bool
asks_fitb k th h =
    implies (waits_onb on_queue th) (queue_waitb h (queue_at k th.object))
    && implies (waits_onb on_semaphore th) (semaphore_waitb (semaphore_at k th.object))
    && implies (waits_onb on_flags th) (group_waitb h (group_at k th.object))
    && implies (waits_onb on_block th) (pool_waitb (pool_at k th.object))
