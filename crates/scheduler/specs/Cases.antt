-- Worked cases of who runs next (chapter 4 of the rules), as equations that the definitions compute. Proved as `cases` of
-- proofs/Laws/Cases.antt.
use Rattle.std.specs.Prelude.{◌≡◌, [], ◌∷◌, true, false, ℕ}
use Rattle.numbers.specs.Numbers.{nobody}
use Rattle.scheduler.specs.declared.Scheduler.{Scheduler}
use Rattle.scheduler.specs.Threads.{ready, completed, ready_at, at_rest, created}
use Rattle.scheduler.specs.Orders.{thread_at, runner, line_at, idle, moved}
use Rattle.scheduler.specs.Choice.{rescheduled, relinquished}
use Rattle.scheduler.specs.Changes.{priority_changed, preemption_changed}

-- a call makes thread t ready, with a priority and a threshold
unfoldable pub resumes : Scheduler → ℕ → ℕ → ℕ → Scheduler
resumes s t priority threshold = rescheduled (moved s t (created ready priority threshold)) false

-- the running thread finishes
unfoldable pub finishes : Scheduler → Scheduler
finishes s = rescheduled (moved s (runner s) (at_rest completed (thread_at s (runner s)))) false

-- a call changes the priority of thread t
unfoldable pub changes_priority : Scheduler → ℕ → ℕ → Scheduler
changes_priority s t p = rescheduled (priority_changed s t p) false

-- a call changes the threshold of thread t
unfoldable pub changes_threshold : Scheduler → ℕ → ℕ → Scheduler
changes_threshold s t h = rescheduled (preemption_changed s t h) false

-- runner 0 of priority 10 and threshold 5, which 1 of priority 7 does not replace
unfoldable pub unreplaced : Scheduler
unreplaced = resumes (resumes idle 0 10 5) 1 7 7

-- runner 0 of priority 10 and threshold 10, 1 behind it, replaced by 2 of priority 4
unfoldable pub plain : Scheduler
plain = resumes (resumes (resumes idle 0 10 10) 1 10 10) 2 4 4

-- runner 0 of priority 10 and threshold 5, 1 behind it, replaced by 2 of priority 4 and so marked
unfoldable pub preempted : Scheduler
preempted = resumes (resumes (resumes idle 0 10 5) 1 10 10) 2 4 4

-- two marked: 0 of priority 10 and threshold 3, replaced by 4, and 1 of priority 8 and threshold 6, which runs once 4 has lowered itself,
-- replaced by 2; 3 of priority 5 is ready
unfoldable pub twice : Scheduler
twice = resumes (resumes (changes_priority (resumes (resumes (resumes idle 0 10 3) 4 2 2) 1 8 6) 4 20) 2 2 2) 3 5 5

-- runner 0 of priority 5 and threshold 2 is lowered to 10, where 1 stands already, while 2 of priority 7 is ready
unfoldable pub lowered : Scheduler
lowered = changes_priority (resumes (resumes (resumes idle 0 5 2) 1 10 10) 2 7 7) 0 10

-- rules 4.2 to 4.6, 6.6, 15.16: the cases
pub record Cases : Type 0 where
  -- rule 4.3: a replaced runner keeps its place, marked or not
  pub keeps_place : (line_at plain (ready_at 10) ≡ 0 ∷ 1 ∷ []) × (line_at preempted (ready_at 10) ≡ 0 ∷ 1 ∷ [])
  -- rules 4.3, 4.5: with its threshold equal to its priority it is not marked, else it is; the mark ends when it runs
  pub marks : ((thread_at plain 0).marked ≡ false) × ((thread_at preempted 0).marked ≡ true)
      × ((thread_at (finishes preempted) 0).marked ≡ false)
  -- rule 4.3: marked also where its own call lets the other one by, by the threshold after the call
  pub own_call : (runner (changes_threshold unreplaced 0 8) ≡ 1) × ((thread_at (changes_threshold unreplaced 0 8) 0).marked ≡ true)
  -- rule 4.2: while the runner is ready and did not relinquish, marks are not asked: 2, now of priority 6, goes on though 0 has threshold 5
  pub not_asked : runner (changes_priority preempted 2 6) ≡ 2
  -- rule 4.4: a marked thread that must give way stays marked
  pub gives_way : (runner (finishes (resumes preempted 3 4 4)) ≡ 3)
      × ((thread_at (finishes (resumes preempted 3 4 4)) 0).marked ≡ true)
  -- rule 4.4: one marked thread alone is asked, that of the best priority: 5 is below its threshold 6, and runs
  pub one_asked : ((thread_at twice 0).marked ≡ true) × ((thread_at twice 1).marked ≡ true) × (runner (finishes twice) ≡ 3)
  -- rule 4.6: relinquish gives up the threshold, asks marks, and never marks
  pub relinquish : (runner (relinquished unreplaced) ≡ 1) × ((thread_at (relinquished unreplaced) 0).marked ≡ false)
      × (runner (relinquished (changes_priority preempted 2 6)) ≡ 0)
  -- rule 6.6: priority change moves a ready thread to the end of its order also at the same priority, the runner too, which goes on
  pub to_the_end : (line_at (changes_priority (finishes plain) 0 10) (ready_at 10) ≡ 1 ∷ 0 ∷ [])
      × (runner (changes_priority (finishes plain) 0 10) ≡ 0)
  -- rules 4.2, 4.3, 6.6: a lowered runner gives way at once, is not marked, and stands behind the equal that was there, which then runs first
  pub gave_way : (runner lowered ≡ 2) × ((thread_at lowered 0).marked ≡ false) × (line_at lowered (ready_at 10) ≡ 1 ∷ 0 ∷ [])
      × (runner (finishes lowered) ≡ 1)
  -- rule 6.6: an equal does not replace a lowered runner
  pub equal : runner (changes_priority (resumes (resumes idle 0 5 5) 1 10 10) 0 10) ≡ 0
  -- rule 6.6: a threshold below the priority is given up, also where the priority stays
  pub given_up : runner (changes_priority unreplaced 0 10) ≡ 1
  -- rule 4.5: a mark lasts while the threshold stays below the priority; lowering a threshold never marks
  pub lasts : ((thread_at (changes_threshold preempted 0 9) 0).marked ≡ true) × (runner (finishes (changes_threshold preempted 0 9)) ≡ 0)
      × ((thread_at (changes_threshold preempted 1 3) 1).marked ≡ false)
  -- rules 4.5, 6.6: it ends where the threshold equals the priority, so with every priority change, also to the same one
  pub ends : ((thread_at (changes_threshold preempted 0 10) 0).marked ≡ false) × ((thread_at (changes_priority preempted 0 12) 0).marked ≡ false)
      × ((thread_at (changes_priority preempted 0 10) 0).marked ≡ false) × (runner (finishes (changes_priority preempted 0 10)) ≡ 1)
  -- rule 4.4: with nobody ready, nobody runs
  pub idle : runner (finishes (resumes idle 0 10 10)) ≡ nobody
