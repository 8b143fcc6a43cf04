-- What is proved of the scheduler's definitions, in one record. Its proof is `claims` of proofs/Laws/Claims.antt.
use Rattle.std.specs.Prelude.{◌≡◌, List, ◌∷◌, ◌++◌, Bool, true, false, ℕ, ◌<◌, ◌≤◌, length}
use Rattle.lines.specs.Logic.{one_if}
use Rattle.numbers.specs.Numbers.{threads, nobody, priorities}
use Rattle.lines.specs.Lists.{without, only_if, count, prioritised, Begins}
use Rattle.scheduler.specs.declared.thread.Thread.{Thread}
use Rattle.scheduler.specs.declared.thread.Place.{Place}
use Rattle.scheduler.specs.declared.Scheduler.{Scheduler}
use Rattle.scheduler.specs.Threads.{readyb, standsb, placedb}
use Rattle.scheduler.specs.Orders.{
  thread_at,
  priority_at,
  threshold_at,
  runner,
  line_at,
  first_at,
  with_thread,
  idle,
  moved,
  moved_front,
  prioritised_at,
}
use Rattle.scheduler.specs.Choice.{rescheduled, relinquished}
use Rattle.scheduler.specs.Changes.{with_levels, priority_changed, preemption_changed}
use Rattle.scheduler.specs.Sound.{fitb, soundb, Steady, Sound}

-- rule 6.6: what priority change of thread t to p makes of s, once the choice is made
pub record AfterPriorityChange (s : Scheduler) (t p : ℕ) (x : Scheduler) : Type 0 where
  -- its priority and its threshold are p, and it has no mark
  pub priority : priority_at x t ≡ p
  pub threshold : threshold_at x t ≡ p
  pub unmarked : (thread_at x t).marked ≡ false
  -- nobody else's change
  pub others : (u : ℕ) → (u ≡ t → ⊥) → (priority_at x u ≡ priority_at s u) × (threshold_at x u ≡ threshold_at s u)
  -- but for priority, threshold and mark every record is as it was
  pub kept : (u : ℕ) → with_levels 0 0 (thread_at x u) ≡ with_levels 0 0 (thread_at s u)
  -- if it is ready it stands last in the order of its new place, and all others stand as they stood
  pub joins : readyb (thread_at s t) ≡ true → (q : Place) → line_at x q ≡ without t (line_at s q) ++ only_if (placedb q (thread_at x t)) t
  -- if not it keeps its place, as everybody does
  pub keeps_place : readyb (thread_at s t) ≡ false → (q : Place) → line_at x q ≡ line_at s q
  -- if it ran, it gives way where another ready thread is better than p, to one at least as good
  pub gives_way : runner s ≡ t → (u : ℕ) → (u ≡ t → ⊥) → readyb (thread_at s u) ≡ true → priority_at s u < p
      → (runner x ≡ t → ⊥) × (priority_at x (runner x) ≤ priority_at s u)
  -- and goes on where none is, beside equals too
  pub goes_on : runner s ≡ t → ((u : ℕ) → (u ≡ t → ⊥) → readyb (thread_at s u) ≡ true → p ≤ priority_at s u) → runner x ≡ t

-- rules 4.8, 5.8, 6.6, 6.7, 12.1, 12.9: what is claimed
pub record Claims : Type 0 where
  -- ---- soundness
  -- rule 12.9: the test passes exactly the sound tables
  pub test_sound : (s : Scheduler) → length s.threads ≡ threads → soundb s ≡ true → Sound s
  pub sound_test : (s : Scheduler) → Sound s → soundb s ≡ true
  -- rule 12.9: with no thread created they are sound
  pub start_sound : Sound idle
  -- rule 12.1: a thread that is ready or waits stands once in the order of its own place, and in no other
  pub stands_once : (s : Scheduler) → Steady s → (t : ℕ) (p : Place) → count t (line_at s p) ≡ one_if (placedb p (thread_at s t))
  -- moves of a thread to a fit record, prioritise, and the changes of a created thread keep all but what is asked of the runner
  pub moved_steady : (s : Scheduler) → Steady s → (t : ℕ) (th : Thread) → t < nobody → fitb th ≡ true → Steady (moved s t th)
  pub front_steady : (s : Scheduler) → Steady s → (t : ℕ) (th : Thread) → t < nobody → fitb th ≡ true → Steady (moved_front s t th)
  pub kept_steady : (s : Scheduler) → Steady s → (t : ℕ) (th : Thread) → t < nobody → fitb th ≡ true
      → standsb th ≡ standsb (thread_at s t) → Steady (with_thread s t th)
  pub prioritised_steady : (s : Scheduler) → Steady s → (p : Place) → Steady (prioritised_at s p)
  pub priority_steady : (s : Scheduler) → Steady s → (t p : ℕ) → t < nobody → (thread_at s t).created ≡ true → p < priorities
      → Steady (priority_changed s t p)
  pub preemption_steady : (s : Scheduler) → Steady s → (t h : ℕ) → t < nobody → (thread_at s t).created ≡ true → h ≤ priority_at s t
      → Steady (preemption_changed s t h)
  -- the choice that follows makes the tables sound
  pub choice_sound : (s : Scheduler) → Steady s → (b : Bool) → Sound (rescheduled s b)
  pub relinquish_sound : (s : Scheduler) → Sound s → runner s < nobody → Sound (relinquished s)
  -- ---- the order of every place after a move
  pub moved_line : (s : Scheduler) → Steady s → (t : ℕ) (th : Thread) → t < nobody → fitb th ≡ true
      → (p : Place) → line_at (moved s t th) p ≡ without t (line_at s p) ++ only_if (placedb p th) t
  pub front_line : (s : Scheduler) → Steady s → (t : ℕ) (th : Thread) → t < nobody → fitb th ≡ true
      → (p : Place) → line_at (moved_front s t th) p ≡ only_if (placedb p th) t ++ without t (line_at s p)
  -- a record that changes and leaves its thread at its place changes no order
  pub kept_line : (s : Scheduler) → Steady s → (t : ℕ) (th : Thread) → t < nobody
      → (p : Place) → placedb p th ≡ placedb p (thread_at s t) → line_at (with_thread s t th) p ≡ line_at s p
  -- rule 5.8: prioritise moves the first of the best priority to the front of its place, and nothing else
  pub prioritised_here : (s : Scheduler) → Steady s → (p : Place) → line_at (prioritised_at s p) p ≡ prioritised (priority_at s) (line_at s p)
  pub prioritised_elsewhere : (s : Scheduler) → Steady s → (p q : Place) → (q ≡ p → ⊥) → line_at (prioritised_at s p) q ≡ line_at s q
  -- rule 6.6: what priority change makes of the thread's levels, its mark and its place, and of a runner
  pub after_priority_change : (s : Scheduler) → Sound s → (t p : ℕ) → t < nobody → (thread_at s t).created ≡ true → p < priorities
      → AfterPriorityChange s t p (rescheduled (priority_changed s t p) false)
  -- rule 6.7: preemption change moves nobody, and neither does the choice
  pub preemption_line : (s : Scheduler) → Steady s → (t h : ℕ) → t < nobody → (thread_at s t).created ≡ true
      → (q : Place) → line_at (preemption_changed s t h) q ≡ line_at s q
  pub choice_line : (s : Scheduler) → Steady s → (b : Bool) (p : Place) → line_at (rescheduled s b) p ≡ line_at s p
  -- ---- first come, first served: an order that begins with r still does, less the moved thread
  -- after a move to the end of any place, or out of every order
  pub moved_begins : (s : Scheduler) → Steady s → (p : Place) (r : List ℕ) → Begins r (line_at s p)
      → (t : ℕ) (th : Thread) → t < nobody → fitb th ≡ true → Begins (without t r) (line_at (moved s t th) p)
  -- after a move to the front of another place
  pub front_begins : (s : Scheduler) → Steady s → (p : Place) (r : List ℕ) → Begins r (line_at s p)
      → (t : ℕ) (th : Thread) → t < nobody → fitb th ≡ true → placedb p th ≡ false → Begins (without t r) (line_at (moved_front s t th) p)
  -- who leaves a place stands there no more
  pub moved_gone : (s : Scheduler) → Steady s → (p : Place) → (t : ℕ) (th : Thread) → t < nobody → fitb th ≡ true
      → placedb p th ≡ false → count t (line_at (moved s t th) p) ≡ 0
  -- the first of the beginning is the first of the place, and when it moves on the rest begins the order
  pub first_served : (s : Scheduler) → Steady s → (p : Place) (x : ℕ) (r : List ℕ) → Begins (x ∷ r) (line_at s p)
      → (first_at s p ≡ x) × ((th : Thread) → x < nobody → fitb th ≡ true → Begins r (line_at (moved s x th) p))
