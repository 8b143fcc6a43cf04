-- The calls of each kind of object, by number, and what a call of a number may do.
use Rattle.std.specs.Prelude.{if◌then◌else◌, List, [], ◌∷◌, Bool, true, ◌&&◌, ◌||◌, ℕ, eqb, ltb}
use Rattle.numbers.specs.Numbers.{threads}
use Rattle.lines.specs.Logic.{implies}
use Rattle.scheduler.specs.Threads.{on_queue}
use Rattle.calls.specs.Services.{
  thread_resume,
  thread_suspend,
  thread_terminate,
  thread_wait_abort,
  thread_priority_change,
  thread_preemption_change,
  time_set,
  tick,
  semaphore_create,
  semaphore_delete,
  semaphore_get,
  semaphore_put,
  semaphore_ceiling_put,
  semaphore_prioritize,
  queue_create,
  queue_delete,
  queue_send,
  queue_front_send,
  queue_receive,
  queue_flush,
  queue_prioritize,
  event_flags_create,
  event_flags_delete,
  event_flags_set,
  event_flags_get,
  block_pool_create,
  block_pool_delete,
  block_allocate,
  block_release,
  block_pool_prioritize,
}
use Rattle.calls.specs.Callers.{one_of}
use Rattle.kernel.specs.Kinds.{Kind, size_of}
use Rattle.kernel.specs.Kinds.Kind.{semaphore, queue, group, pool}
use Rattle.kernel.specs.Edits.{Move, Edit}
use Rattle.kernel.specs.Edits.Cause.{served, deleted, timed_out, aborted}
use Rattle.kernel.specs.Edits.Move.{ends, starts, stops, turns}
use Rattle.kernel.specs.Edits.Edit.{moves, alters, counts, ranks, stores, sets}

-- rule 2.11: the calls that create an object, delete it, take from it, give to it, prioritise its line, empty it
pub record Row : Type 0 where
  pub creates : List ℕ
  pub deletes : List ℕ
  pub takes : List ℕ
  pub gives : List ℕ
  pub prioritises : List ℕ
  pub empties : List ℕ

-- rules 2.11, 13.2: these calls of each kind, by number
abbrev pub row_of : Kind → Row
row_of semaphore =
    record {
      creates = semaphore_create ∷ [];
      deletes = semaphore_delete ∷ [];
      takes = semaphore_get ∷ [];
      gives = semaphore_put ∷ semaphore_ceiling_put ∷ [];
      prioritises = semaphore_prioritize ∷ [];
      empties = [];
    }
row_of queue =
    record {
      creates = queue_create ∷ [];
      deletes = queue_delete ∷ [];
      takes = queue_receive ∷ [];
      gives = queue_send ∷ queue_front_send ∷ [];
      prioritises = queue_prioritize ∷ [];
      empties = queue_flush ∷ [];
    }
row_of group =
    record {
      creates = event_flags_create ∷ [];
      deletes = event_flags_delete ∷ [];
      takes = event_flags_get ∷ [];
      gives = event_flags_set ∷ [];
      prioritises = [];
      empties = [];
    }
row_of pool =
    record {
      creates = block_pool_create ∷ [];
      deletes = block_pool_delete ∷ [];
      takes = block_allocate ∷ [];
      gives = block_release ∷ [];
      prioritises = block_pool_prioritize ∷ [];
      empties = [];
    }

-- the kind of object that the first argument of calls 16 to 37 names; no row has any other number
abbrev pub kind_of : ℕ → Kind
kind_of n = if ltb n 22 then semaphore else if ltb n 29 then queue else if ltb n 33 then group else pool

-- rule 2.11: how many objects of that kind there are, for calls 16 to 37; for all others how many threads
unfoldable pub limit_of : ℕ → ℕ
limit_of n = if ltb n 16 then threads else if ltb n 38 then size_of (kind_of n) else threads

-- ---- what a call may do
-- rule 2.11: a move of thread t by the call of number n whose first argument is a
unfoldable pub may_moveb : ℕ → ℕ → ℕ → Move → Bool
-- a wait ends as served only by a call that gives to the object, takes from it (a sender's) or empties it
may_moveb n a t (ends (served d i) words) = eqb i a && (one_of n (row_of d).gives || one_of n (row_of d).takes || one_of n (row_of d).empties)
may_moveb n a t (ends (deleted d i) words) = eqb i a && one_of n (row_of d).deletes
may_moveb n a t (ends timed_out words) = eqb n tick
may_moveb n a t (ends aborted words) = eqb n thread_wait_abort && eqb t a
-- only a front sender joins a line at the front
may_moveb n a t (starts front state object ticks h) = implies front (eqb n queue_front_send && eqb state on_queue && eqb object a)
may_moveb n a t stops = eqb n thread_terminate && eqb t a
may_moveb n a t (turns f g) = true

-- rule 2.11: an edit by that call
unfoldable pub mayb : ℕ → ℕ → Edit → Bool
mayb n a (moves t m) = may_moveb n a t m
mayb n a (alters t f) = eqb t a && one_of n (thread_resume ∷ thread_suspend ∷ thread_priority_change ∷ thread_preemption_change ∷ [])
mayb n a (counts t) = eqb n tick
mayb n a (ranks d i) = eqb i a && one_of n (row_of d).prioritises
mayb n a (stores d i x) =
    eqb i a
    && (one_of n (row_of d).creates
    || one_of n (row_of d).deletes
    || one_of n (row_of d).takes
    || one_of n (row_of d).gives
    || one_of n (row_of d).empties)
mayb n a (sets c) = eqb n time_set || eqb n tick

-- rule 2.11: a test of every edit
unfoldable pub allb : (Edit → Bool) → List Edit → Bool
allb f [] = true
allb f (e ∷ es) = f e && allb f es
