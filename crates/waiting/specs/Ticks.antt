-- The clock's next time, and the ticks that are left of one thread's wait or sleep.
use Rattle.std.specs.Prelude.{if◌then◌else◌, ℕ, ◌+◌, ◌-◌, ◌%◌, Bool, not, ◌&&◌, ◌==◌}
use Rattle.scheduler.specs.declared.thread.Thread.{Thread}
use Rattle.scheduler.specs.Threads.{asleep, on_queue, on_semaphore, on_flags, pausedb}
use Rattle.calls.specs.declared.held.Held.{Held}
use Rattle.calls.specs.Statuses as Statuses

-- rule 6.10: the clock after a tick: after 4,294,967,295 comes 0
unfoldable pub next_time : ℕ → ℕ
next_time time = (time + 1) % 4294967296

-- rule 5.1: a wait or sleep without end
abbrev pub forever : ℕ
forever = 0xFFFFFFFF

-- rule 5.1: a wait or sleep with a number of ticks left
unfoldable pub timedb : Thread → Bool
timedb th = pausedb th && not (th.ticks == forever)

-- rule 5.5: what a wait or sleep whose ticks are over leaves: by what was waited for
unfoldable pub timeout_status : Thread → Held → ℕ
timeout_status th h =
    if th.state == asleep then Statuses.success
    else if th.state == on_queue then (if h.sending then Statuses.queue_full else Statuses.queue_empty)
    else if th.state == on_semaphore then Statuses.no_instance
    else if th.state == on_flags then Statuses.no_events
    else Statuses.no_memory

-- rule 6.10: another number of ticks left
unfoldable pub with_ticks : ℕ → Thread → Thread
with_ticks n th =
    record {
      created = th.created;
      state = th.state;
      priority = th.priority;
      threshold = th.threshold;
      marked = th.marked;
      suspending = th.suspending;
      object = th.object;
      ticks = n;
    }

-- rule 6.10: one tick less
abbrev pub one_tick_less : Thread → Thread
one_tick_less th = with_ticks (th.ticks - 1) th

-- rule 6.10: a wait or sleep with no tick left
unfoldable pub at_zerob : Thread → Bool
at_zerob th = pausedb th && th.ticks == 0

-- rule 6.10: a timed wait or sleep that has no tick left when one is taken
unfoldable pub last_tickb : Thread → Bool
last_tickb th = timedb th && at_zerob (one_tick_less th)
