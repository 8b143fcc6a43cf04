-- Who calls, and whom each call allows (rules 2.1, 3.8).
use Rattle.std.specs.Prelude.{if◌then◌else◌, List, [], ◌∷◌, Bool, true, false, ◌||◌, ℕ, eqb}
use Rattle.calls.specs.Services.{
  thread_create,
  thread_delete,
  thread_terminate,
  thread_reset,
  thread_finish,
  thread_relinquish,
  thread_sleep,
  thread_priority_change,
  thread_preemption_change,
  tick,
  semaphore_create,
  semaphore_delete,
  queue_create,
  queue_delete,
  event_flags_create,
  event_flags_delete,
  block_pool_create,
  block_pool_delete,
}

-- rule 2.1: the caller is start-up
abbrev pub startup : ℕ
startup = 0

-- rule 2.1: the caller is an interrupt
abbrev pub interrupt : ℕ
interrupt = 1

-- rule 2.1: the caller is the running thread
abbrev pub thread : ℕ
thread = 2

-- ---- what a call may allow
-- rule 3.8: start-up and threads
abbrev pub startup_or_thread : ℕ → Bool
startup_or_thread caller = eqb caller startup || eqb caller thread

-- rule 3.8: threads
abbrev pub thread_only : ℕ → Bool
thread_only caller = eqb caller thread

-- rule 3.8: interrupts
abbrev pub interrupt_only : ℕ → Bool
interrupt_only caller = eqb caller interrupt

-- rule 3.8: a number is one of a list
abbrev pub one_of : ℕ → List ℕ → Bool
one_of n [] = false
one_of n (m ∷ ms) = eqb n m || one_of n ms

-- rule 3.8: the creates: thread, semaphore, queue, event flags group, block pool
abbrev pub creates : List ℕ
creates = thread_create ∷ semaphore_create ∷ queue_create ∷ event_flags_create ∷ block_pool_create ∷ []

-- rule 3.8: the calls for threads: delete, terminate, reset, finish, relinquish, sleep and both changes of a thread, and the deletes of
-- objects
abbrev pub thread_calls : List ℕ
thread_calls =
    thread_delete ∷ thread_terminate ∷ thread_reset ∷ thread_finish ∷ thread_relinquish ∷ thread_sleep ∷
    thread_priority_change ∷ thread_preemption_change ∷
    semaphore_delete ∷ queue_delete ∷ event_flags_delete ∷ block_pool_delete ∷ []

-- rule 3.8: whether a call of this number allows the caller: creates, calls for threads, the tick, and all others, which allow everybody
unfoldable pub allowedb : ℕ → ℕ → Bool
allowedb number caller =
    if one_of number creates then startup_or_thread caller
    else if one_of number thread_calls then thread_only caller
    else if eqb number tick then interrupt_only caller
    else true
