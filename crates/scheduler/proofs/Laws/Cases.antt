-- The worked cases, computed.
use mathlib.Core.Path.{refl}
use Rattle.lines.specs.Lists.{filter, without, first, first_with, leastb, best_of}
use Rattle.lines.specs.Lines.{members, pad, line_of}
use Rattle.scheduler.specs.Threads.{uncreated, created, in_state, readyb, waitsb, markedb, standsb, number_of, placedb}
use Rattle.scheduler.specs.Orders.{thread_at, line_at, with_thread, with_order, with_runner, idle, moved}
use Rattle.scheduler.specs.Choice.{best_among, best_ready, best_marked, staysb, overtakesb, next_of, with_mark, replaced, dispatched, rescheduled, relinquished}
use Rattle.scheduler.specs.Changes.{with_levels, priority_changed, preemption_changed}
use Rattle.scheduler.specs.Cases.{resumes, finishes, changes_priority, changes_threshold, unreplaced, plain, preempted, twice, lowered, Cases}

pub cases : Cases
unfolding resumes finishes changes_priority changes_threshold unreplaced plain preempted twice lowered created in_state filter without first first_with leastb best_of members pad line_of uncreated readyb waitsb markedb standsb number_of placedb thread_at line_at with_thread with_order with_runner idle moved best_among best_ready best_marked staysb overtakesb next_of with_mark replaced dispatched rescheduled relinquished with_levels priority_changed preemption_changed
cases =
    record {
      keeps_place = (refl, refl);
      marks = (refl, refl, refl);
      own_call = (refl, refl);
      not_asked = refl;
      gives_way = (refl, refl);
      one_asked = (refl, refl, refl);
      relinquish = (refl, refl, refl);
      to_the_end = (refl, refl);
      gave_way = (refl, refl, refl, refl);
      equal = refl;
      given_up = refl;
      lasts = (refl, refl, refl);
      ends = (refl, refl, refl, refl);
      idle = refl;
    }
