-- Who runs next: the choice that is made once after each call that is carried out (rules 4.2 to 4.7).
use Rattle.std.specs.Prelude.{if◌then◌else◌, Bool, false, true, ◌&&◌, ◌||◌, not, ℕ, ltb}
use Rattle.numbers.specs.Numbers.{nobody}
use Rattle.lines.specs.Lists.{filter, best_of}
use Rattle.lines.specs.Lines.{members}
use Rattle.scheduler.specs.declared.thread.Thread.{Thread}
use Rattle.scheduler.specs.declared.Scheduler.{Scheduler}
use Rattle.scheduler.specs.Threads.{readyb, markedb}
use Rattle.scheduler.specs.Orders.{thread_at, priority_at, threshold_at, runner, with_thread, with_runner, moved}

-- rule 4.4: the first of the best priority among those who stand and for whom a test of their records holds
unfoldable pub best_among : (Thread → Bool) → Scheduler → ℕ
best_among f s = best_of (priority_at s) (filter (λ t. f (thread_at s t)) (members s.order))

-- rule 4.4: the first ready thread of the best priority
unfoldable pub best_ready : Scheduler → ℕ
best_ready = best_among readyb

-- rule 4.4: the first marked thread of the best marked priority
unfoldable pub best_marked : Scheduler → ℕ
best_marked = best_among markedb

-- rule 4.2: the runner is still ready and did not relinquish
unfoldable pub staysb : Scheduler → Bool → Bool
staysb s relinquished = readyb (thread_at s (runner s)) && not relinquished

-- rules 4.2, 4.4: the first ready thread of the best priority runs in place of t: there is one, and t is nobody or has a threshold over
-- that thread's priority number
unfoldable pub overtakesb : Scheduler → ℕ → Bool
overtakesb s t = ltb (best_ready s) nobody && (not (ltb t nobody) || ltb (priority_at s (best_ready s)) (threshold_at s t))

-- rules 4.2, 4.4: who runs next: a runner that stays, else the first marked thread, unless the best ready thread overtakes it; nobody
-- where nobody is ready
unfoldable pub next_of : Scheduler → Bool → ℕ
next_of s relinquished =
    if staysb s relinquished
    then (if overtakesb s (runner s) then best_ready s else runner s)
    else (if overtakesb s (best_marked s) then best_ready s else best_marked s)

-- a mark set, or ended
unfoldable pub with_mark : Bool → Thread → Thread
with_mark b th =
    record {
      created = th.created;
      state = th.state;
      priority = th.priority;
      threshold = th.threshold;
      marked = b;
      suspending = th.suspending;
      object = th.object;
      ticks = th.ticks;
    }

-- rule 4.3: a runner that is replaced keeps its place, and is marked where its threshold is below its priority
unfoldable pub replaced : Scheduler → Scheduler
replaced s = with_thread s (runner s) (with_mark (ltb (threshold_at s (runner s)) (priority_at s (runner s))) (thread_at s (runner s)))

-- rule 4.5: thread t runs, and its mark ends
unfoldable pub dispatched : Scheduler → ℕ → Scheduler
dispatched s t = with_runner (with_thread s t (with_mark false (thread_at s t))) t

-- rules 4.3, 4.6, 4.7: the choice; only a runner that is still ready and did not relinquish can be replaced, so a relinquish never marks
unfoldable pub rescheduled : Scheduler → Bool → Scheduler
rescheduled s relinquished =
    dispatched (if staysb s relinquished && overtakesb s (runner s) then replaced s else s) (next_of s relinquished)

-- rule 4.6: relinquish moves the runner to the end of its order, and then the choice is made
unfoldable pub relinquished : Scheduler → Scheduler
relinquished s = rescheduled (moved s (runner s) (thread_at s (runner s))) true
