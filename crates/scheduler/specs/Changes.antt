-- Priority change and preemption change (rules 6.6, 6.7). The choice that follows is not part of them.
use Rattle.std.specs.Prelude.{if◌then◌else◌, ◌&&◌, ℕ, ltb}
use Rattle.scheduler.specs.declared.thread.Thread.{Thread}
use Rattle.scheduler.specs.declared.Scheduler.{Scheduler}
use Rattle.scheduler.specs.Threads.{readyb}
use Rattle.scheduler.specs.Orders.{thread_at, with_thread, moved}

-- rule 4.5: another priority and threshold; a mark lasts while the threshold is below the priority
unfoldable pub with_levels : ℕ → ℕ → Thread → Thread
with_levels p h th =
    record {
      created = th.created;
      state = th.state;
      priority = p;
      threshold = h;
      marked = th.marked && ltb h p;
      suspending = th.suspending;
      object = th.object;
      ticks = th.ticks;
    }

-- rule 6.6: another priority, which is the threshold too
abbrev pub with_priority : ℕ → Thread → Thread
with_priority p th = with_levels p p th

-- rule 6.6: a ready thread joins the end of its new order, any other keeps its place
unfoldable pub priority_changed : Scheduler → ℕ → ℕ → Scheduler
priority_changed s t p =
    if readyb (thread_at s t)
    then moved s t (with_priority p (thread_at s t))
    else with_thread s t (with_priority p (thread_at s t))

-- rule 6.7: another threshold, and no place changes
unfoldable pub preemption_changed : Scheduler → ℕ → ℕ → Scheduler
preemption_changed s t h = with_thread s t (with_levels (thread_at s t).priority h (thread_at s t))
