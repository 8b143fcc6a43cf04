-- The table of refusals: each row a status, the calls that it is for, and when it is given, in the order in which the rows are tried
-- (chapter 3 of the rules).
use Rattle.std.specs.Prelude.{if◌then◌else◌, List, [], ◌∷◌, Bool, true, ◌&&◌, ◌||◌, not, ℕ, ◌+◌, min, eqb, ltb, leb, length}
use Rattle.numbers.specs.Numbers.{nobody, priorities}
use Rattle.scheduler.specs.Threads.{suspended, pausedb, finishedb}
use Rattle.objects.specs.Semaphores.{largest_count}
use Rattle.objects.specs.Queues.{emptyb, roomb, sizes_fitb}
use Rattle.objects.specs.Groups.{metb}
use Rattle.blocks.specs.Pools.{block_sizesb, usedb}
use Rattle.calls.specs.Services.{
  thread_create,
  thread_delete,
  thread_resume,
  thread_suspend,
  thread_terminate,
  thread_reset,
  thread_wait_abort,
  thread_priority_change,
  thread_preemption_change,
  semaphore_create,
  semaphore_delete,
  semaphore_get,
  semaphore_put,
  semaphore_ceiling_put,
  semaphore_prioritize,
  queue_create,
  queue_delete,
  queue_send,
  queue_front_send,
  queue_receive,
  queue_flush,
  queue_prioritize,
  event_flags_create,
  event_flags_delete,
  event_flags_set,
  event_flags_get,
  block_pool_create,
  block_pool_delete,
  block_allocate,
  block_release,
  block_pool_prioritize,
  thread_state_read,
  thread_words_read,
}
use Rattle.calls.specs.Callers.{thread, one_of, allowedb}
use Rattle.calls.specs.Calls.{block_number}
use Rattle.calls.specs.Statuses as Statuses
use Rattle.calls.specs.declared.call.Request.{Request}
use Rattle.kernel.specs.declared.Kernel.{Kernel}
use Rattle.kernel.specs.Tables.{thread_of, runner_of, semaphore_at, queue_at, group_at, pool_at}
use Rattle.kernel.specs.Kinds.{Kind, size_of, object_at, createdb}
use Rattle.kernel.specs.Kinds.Kind.{semaphore, queue, group, pool}
use Rattle.kernel.specs.Roles.{limit_of}

-- rule 2.7: a row: a status, the calls that may get it, and when they get it
pub record Reason : Type 0 where
  pub status : ℕ
  pub calls : ℕ → Bool
  pub when : Kernel → Request → List ℕ → Bool

-- a row of its three parts
abbrev row : ℕ → (ℕ → Bool) → (Kernel → Request → List ℕ → Bool) → Reason
row status calls when = record { status = status; calls = calls; when = when }

-- a row for all calls
abbrev every : ℕ → Bool
every n = true

-- a row for the calls of a list
abbrev of : List ℕ → ℕ → Bool
of ns n = one_of n ns

-- ---- what the rows ask
-- rule 3.15: the number of the thread or object that the first argument names; every number past the last names none
abbrev named : Request → ℕ
named q = min q.a (limit_of q.number)

-- rule 3.1: there is no such thread: out of range or not created
abbrev no_threadb : Kernel → Request → List ℕ → Bool
no_threadb k q messages = not (thread_of k (named q)).created

-- rule 3.1: there is no such object: out of range or not created
abbrev no_objectb : Kind → Kernel → Request → List ℕ → Bool
no_objectb d k q messages = not (createdb d (object_at d k (named q)))

-- rule 3.1: no number for a new thread: out of range or taken
abbrev thread_takenb : Kernel → Request → List ℕ → Bool
thread_takenb k q messages = not (ltb (named q) nobody) || (thread_of k (named q)).created

-- rule 3.1: no number for a new object: out of range or taken
abbrev takenb : Kind → Kernel → Request → List ℕ → Bool
takenb d k q messages = not (ltb (named q) (size_of d)) || createdb d (object_at d k (named q))

-- rules 3.9, 3.10: the thread named is completed or terminated
abbrev overb : Kernel → Request → Bool
overb k q = finishedb (thread_of k (named q))

-- rule 3.7: the wait is not 0, and the caller is no thread
abbrev stranger_waitsb : ℕ → Request → Bool
stranger_waitsb wait q = not (eqb wait 0) && not (eqb q.caller thread)

-- ---- the table
-- rules 2.6, 3.1 to 3.12: the reasons in their order
unfoldable pub refusals : List Reason
refusals =
    -- rule 2.6: a thread calls and nobody runs
    row Statuses.nobody_runs every (λ k q m. eqb q.caller thread && not (ltb (runner_of k) nobody)) ∷
    -- rule 3.1: the number of a thread, semaphore, queue, group or pool, at its create and at every other call on it
    row Statuses.thread_error (of (thread_create ∷ [])) thread_takenb ∷
    row Statuses.thread_error
    (of (thread_delete ∷ thread_resume ∷ thread_suspend ∷ thread_terminate ∷ thread_reset ∷ thread_wait_abort ∷
    thread_priority_change ∷ thread_preemption_change ∷ thread_state_read ∷ thread_words_read ∷ []))
    no_threadb ∷
    row Statuses.semaphore_error (of (semaphore_create ∷ [])) (takenb semaphore) ∷
    row Statuses.semaphore_error
    (of (semaphore_delete ∷ semaphore_get ∷ semaphore_put ∷ semaphore_ceiling_put ∷ semaphore_prioritize ∷ [])) (no_objectb semaphore) ∷
    row Statuses.queue_error (of (queue_create ∷ [])) (takenb queue) ∷
    row Statuses.queue_error
    (of (queue_delete ∷ queue_send ∷ queue_front_send ∷ queue_receive ∷ queue_flush ∷ queue_prioritize ∷ [])) (no_objectb queue) ∷
    row Statuses.group_error (of (event_flags_create ∷ [])) (takenb group) ∷
    row Statuses.group_error (of (event_flags_delete ∷ event_flags_set ∷ event_flags_get ∷ [])) (no_objectb group) ∷
    row Statuses.pool_error (of (block_pool_create ∷ [])) (takenb pool) ∷
    row Statuses.pool_error (of (block_pool_delete ∷ block_allocate ∷ block_release ∷ block_pool_prioritize ∷ [])) (no_objectb pool) ∷
    -- rule 3.2: a priority over 31; a threshold over the priority, at preemption change the present one; a start other than 0 and 1
    row Statuses.priority_error (of (thread_create ∷ thread_priority_change ∷ [])) (λ k q m. leb priorities q.b) ∷
    row Statuses.thresh_error (of (thread_create ∷ [])) (λ k q m. ltb q.b q.c) ∷
    row Statuses.thresh_error (of (thread_preemption_change ∷ [])) (λ k q m. ltb (thread_of k (named q)).priority q.b) ∷
    row Statuses.start_error (of (thread_create ∷ [])) (λ k q m. not (eqb q.d 0 || eqb q.d 1)) ∷
    -- rule 3.3: sizes of a queue's messages and storage, or of a pool's blocks and area, that do not fit
    row Statuses.size_error (of (queue_create ∷ [])) (λ k q m. not (sizes_fitb q.b q.c)) ∷
    row Statuses.size_error (of (block_pool_create ∷ [])) (λ k q m. not (block_sizesb q.b q.c)) ∷
    -- rule 3.4: an option of set other than 0 and 2, one of get over 3
    row Statuses.option_error (of (event_flags_set ∷ [])) (λ k q m. not (eqb q.c 0 || eqb q.c 2)) ∷
    row Statuses.option_error (of (event_flags_get ∷ [])) (λ k q m. ltb 3 q.c) ∷
    -- rule 3.5: a ceiling of 0
    row Statuses.invalid_ceiling (of (semaphore_ceiling_put ∷ [])) (λ k q m. eqb q.b 0) ∷
    -- rule 3.6: a message that does not lie wholly inside the lent words; a block that is out of range or free
    row Statuses.ptr_error (of (queue_send ∷ queue_front_send ∷ [])) (λ k q m. ltb (length m) (q.c + (queue_at k (named q)).words)) ∷
    row Statuses.ptr_error (of (block_release ∷ [])) (λ k q m. not (usedb (pool_at k (named q)) (block_number q.b))) ∷
    -- rule 3.7: a wait that is not 0 by a caller that is no thread; the get of flags has its wait last
    row Statuses.wait_error (of (semaphore_get ∷ queue_send ∷ queue_front_send ∷ queue_receive ∷ block_allocate ∷ []))
    (λ k q m. stranger_waitsb q.b q) ∷
    row Statuses.wait_error (of (event_flags_get ∷ [])) (λ k q m. stranger_waitsb q.d q) ∷
    -- rule 3.8: a caller that the call does not allow
    row Statuses.caller_error every (λ k q m. not (allowedb q.number q.caller)) ∷
    -- rule 3.9: delete and reset of a thread that is neither completed nor terminated
    row Statuses.delete_error (of (thread_delete ∷ [])) (λ k q m. not (overb k q)) ∷
    row Statuses.not_done (of (thread_reset ∷ [])) (λ k q m. not (overb k q)) ∷
    -- rule 3.10: resume of a thread that is not suspended and holds no suspension; suspend of one that is completed or terminated; wait
    -- abort of one that neither waits nor sleeps
    row Statuses.resume_error (of (thread_resume ∷ []))
    (λ k q m. not (eqb (thread_of k (named q)).state suspended || (thread_of k (named q)).suspending)) ∷
    row Statuses.suspend_error (of (thread_suspend ∷ [])) (λ k q m. overb k q) ∷
    row Statuses.wait_abort_error (of (thread_wait_abort ∷ [])) (λ k q m. not (pausedb (thread_of k (named q)))) ∷
    -- rule 3.11: a count that has reached the largest, or the ceiling
    row Statuses.ceiling_exceeded (of (semaphore_put ∷ [])) (λ k q m. leb largest_count (semaphore_at k (named q)).count) ∷
    row Statuses.ceiling_exceeded (of (semaphore_ceiling_put ∷ [])) (λ k q m. leb q.b (semaphore_at k (named q)).count) ∷
    -- rule 3.12: a wait of 0, and no instance, no message, no room, flags that do not meet the request, no free block
    row Statuses.no_instance (of (semaphore_get ∷ [])) (λ k q m. eqb q.b 0 && eqb (semaphore_at k (named q)).count 0) ∷
    row Statuses.queue_empty (of (queue_receive ∷ [])) (λ k q m. eqb q.b 0 && emptyb (queue_at k (named q))) ∷
    row Statuses.queue_full (of (queue_send ∷ queue_front_send ∷ [])) (λ k q m. eqb q.b 0 && not (roomb (queue_at k (named q)))) ∷
    row Statuses.no_events (of (event_flags_get ∷ [])) (λ k q m. eqb q.d 0 && not (metb (group_at k (named q)).flags q.b q.c)) ∷
    row Statuses.no_memory (of (block_allocate ∷ [])) (λ k q m. eqb q.b 0 && eqb (pool_at k (named q)).free 0) ∷
    []

-- ---- the first reason
-- rules 2.7, 3.13: that of the first row that is for the call and holds; 0 where none does
unfoldable pub first_reason : List Reason → Kernel → Request → List ℕ → ℕ
first_reason [] k q messages = 0
first_reason (r ∷ rs) k q messages = if r.calls q.number && r.when k q messages then r.status else first_reason rs k q messages

-- rule 2.7: why a request for a known call is refused; 0 where it is not
unfoldable pub reason_of : Kernel → Request → List ℕ → ℕ
reason_of = first_reason refusals
