-- The threads, the one line of all that stand, the orders of the places in it, and the moves.
use Rattle.std.specs.Prelude.{if◌then◌else◌, List, [], ◌++◌, Bool, ℕ, get_or, set, replicate}
use Rattle.numbers.specs.Numbers.{threads, nobody}
use Rattle.lines.specs.Lists.{filter, without, only_if, first, best_of, fronted}
use Rattle.lines.specs.Lines.{members, line_of}
use Rattle.scheduler.specs.declared.thread.Thread.{Thread}
use Rattle.scheduler.specs.declared.thread.Place.{Place}
use Rattle.scheduler.specs.declared.Scheduler.{Scheduler}
use Rattle.scheduler.specs.Threads.{uncreated, standsb, placedb, awake}

-- ---- reads
-- rule 1.5: a thread's record; past the table one that is not created
unfoldable pub thread_at : Scheduler → ℕ → Thread
thread_at s t = get_or s.threads t uncreated

-- a thread's priority
abbrev pub priority_at : Scheduler → ℕ → ℕ
priority_at s t = (thread_at s t).priority

-- a thread's threshold
abbrev pub threshold_at : Scheduler → ℕ → ℕ
threshold_at s t = (thread_at s t).threshold

-- who runs
abbrev pub runner : Scheduler → ℕ
runner s = s.running.0

-- rule 4.8: the order of a place: those of the one line who are there, in the line's order
unfoldable pub line_at : Scheduler → Place → List ℕ
line_at s p = filter (λ t. placedb p (thread_at s t)) (members s.order)

-- rule 4.8: who is first there
unfoldable pub first_at : Scheduler → Place → ℕ
first_at s p = first (line_at s p)

-- ---- stores
-- rule 1.5: a thread with another record; past the table nothing changes
unfoldable pub with_thread : Scheduler → ℕ → Thread → Scheduler
with_thread s t th = record { running = s.running; order = s.order; threads = set s.threads t th }

-- another line of all that stand
unfoldable pub with_order : Scheduler → List ℕ → Scheduler
with_order s xs = record { running = s.running; order = line_of xs; threads = s.threads }

-- another runner
unfoldable pub with_runner : Scheduler → ℕ → Scheduler
with_runner s t = record { running = record { 0 = t }; order = s.order; threads = s.threads }

-- rule 1.2: no thread is created, and nobody runs
unfoldable pub idle : Scheduler
idle = record { running = record { 0 = nobody }; order = line_of []; threads = replicate threads uncreated }

-- ---- moves
-- rule 4.1: thread t gets the record th, leaves its order, and joins the end of the order that th puts it in, if any
unfoldable pub moved : Scheduler → ℕ → Thread → Scheduler
moved s t th = with_order (with_thread s t th) (without t (members s.order) ++ only_if (standsb th) t)

-- rule 5.2: the same, and it joins at the front
unfoldable pub moved_front : Scheduler → ℕ → Thread → Scheduler
moved_front s t th = with_order (with_thread s t th) (only_if (standsb th) t ++ without t (members s.order))

-- rule 5.2: it joins at the front, as a front sender does, or at the end
unfoldable pub joined : Scheduler → Bool → ℕ → Thread → Scheduler
joined s front t th = if front then moved_front s t th else moved s t th

-- rule 4.1: the wait or sleep of thread t ends: where it is then ready, it joins the end of its order
unfoldable pub woken : Scheduler → ℕ → Scheduler
woken s t = moved s t (awake (thread_at s t))

-- rule 5.8: of those at a place that have the best priority, the first goes to the front, and nothing else changes
unfoldable pub prioritised_at : Scheduler → Place → Scheduler
prioritised_at s p = with_order s (fronted (best_of (priority_at s) (line_at s p)) (members s.order))
