-- The calls: numbers, callers and arguments (rule 2.1).
use Rattle.std.specs.Prelude.{if◌then◌else◌, ℕ, min, eqb, ltb, Option, Some, None}
use Rattle.numbers.specs.Numbers.{slots, thread_number, semaphore_number, queue_number, group_number, pool_number}
use Rattle.calls.specs.declared.call.Call.TheVariants.{
  ThreadCreate,
  ThreadDelete,
  ThreadResume,
  ThreadSuspend,
  ThreadTerminate,
  ThreadReset,
  ThreadFinish,
  ThreadRelinquish,
  ThreadSleep,
  ThreadWaitAbort,
  ThreadPriorityChange,
  ThreadPreemptionChange,
  TimeGet,
  TimeSet,
  Tick,
  SemaphoreCreate,
  SemaphoreDelete,
  SemaphoreGet,
  SemaphorePut,
  SemaphoreCeilingPut,
  SemaphorePrioritize,
  QueueCreate,
  QueueDelete,
  QueueSend,
  QueueFrontSend,
  QueueReceive,
  QueueFlush,
  QueuePrioritize,
  EventFlagsCreate,
  EventFlagsDelete,
  EventFlagsSet,
  EventFlagsGet,
  BlockPoolCreate,
  BlockPoolDelete,
  BlockAllocate,
  BlockRelease,
  BlockPoolPrioritize,
  ThreadStateRead,
  ThreadWordsRead,
}
use Rattle.calls.specs.Services.{
  thread_create,
  thread_delete,
  thread_resume,
  thread_suspend,
  thread_terminate,
  thread_reset,
  thread_finish,
  thread_relinquish,
  thread_sleep,
  thread_wait_abort,
  thread_priority_change,
  thread_preemption_change,
  time_get,
  time_set,
  tick,
  semaphore_create,
  semaphore_delete,
  semaphore_get,
  semaphore_put,
  semaphore_ceiling_put,
  semaphore_prioritize,
  queue_create,
  queue_delete,
  queue_send,
  queue_front_send,
  queue_receive,
  queue_flush,
  queue_prioritize,
  event_flags_create,
  event_flags_delete,
  event_flags_set,
  event_flags_get,
  block_pool_create,
  block_pool_delete,
  block_allocate,
  block_release,
  block_pool_prioritize,
  thread_state_read,
  thread_words_read,
}
use Rattle.calls.specs.Callers.{thread}
use Rattle.calls.specs.declared.call.Request.{Request}
use Rattle.calls.specs.declared.call.Call.{Call}

-- rules 1.5, 3.15: blocks are numbered from 0 and no pool has more than 64, so every number from 64 on is taken for 64
abbrev pub block_number : ℕ → ℕ
block_number b = min b slots

-- rule 2.1: the call of each number; arguments that it does not use are left out
unfoldable pub known_call : ℕ → ℕ → ℕ → ℕ → ℕ → Option Call
known_call n a b c d =
    if eqb n thread_create then Some (ThreadCreate (thread_number a) b c d)
    else if eqb n thread_delete then Some (ThreadDelete (thread_number a))
    else if eqb n thread_resume then Some (ThreadResume (thread_number a))
    else if eqb n thread_suspend then Some (ThreadSuspend (thread_number a))
    else if eqb n thread_terminate then Some (ThreadTerminate (thread_number a))
    else if eqb n thread_reset then Some (ThreadReset (thread_number a))
    else if eqb n thread_finish then Some ThreadFinish
    else if eqb n thread_relinquish then Some ThreadRelinquish
    else if eqb n thread_sleep then Some (ThreadSleep a)
    else if eqb n thread_wait_abort then Some (ThreadWaitAbort (thread_number a))
    else if eqb n thread_priority_change then Some (ThreadPriorityChange (thread_number a) b)
    else if eqb n thread_preemption_change then Some (ThreadPreemptionChange (thread_number a) b)
    else if eqb n time_get then Some TimeGet
    else if eqb n time_set then Some (TimeSet a)
    else if eqb n tick then Some Tick
    else if eqb n semaphore_create then Some (SemaphoreCreate (semaphore_number a) b)
    else if eqb n semaphore_delete then Some (SemaphoreDelete (semaphore_number a))
    else if eqb n semaphore_get then Some (SemaphoreGet (semaphore_number a) b)
    else if eqb n semaphore_put then Some (SemaphorePut (semaphore_number a))
    else if eqb n semaphore_ceiling_put then Some (SemaphoreCeilingPut (semaphore_number a) b)
    else if eqb n semaphore_prioritize then Some (SemaphorePrioritize (semaphore_number a))
    else if eqb n queue_create then Some (QueueCreate (queue_number a) b c)
    else if eqb n queue_delete then Some (QueueDelete (queue_number a))
    else if eqb n queue_send then Some (QueueSend (queue_number a) b c)
    else if eqb n queue_front_send then Some (QueueFrontSend (queue_number a) b c)
    else if eqb n queue_receive then Some (QueueReceive (queue_number a) b)
    else if eqb n queue_flush then Some (QueueFlush (queue_number a))
    else if eqb n queue_prioritize then Some (QueuePrioritize (queue_number a))
    else if eqb n event_flags_create then Some (EventFlagsCreate (group_number a))
    else if eqb n event_flags_delete then Some (EventFlagsDelete (group_number a))
    else if eqb n event_flags_set then Some (EventFlagsSet (group_number a) b c)
    else if eqb n event_flags_get then Some (EventFlagsGet (group_number a) b c d)
    else if eqb n block_pool_create then Some (BlockPoolCreate (pool_number a) b c)
    else if eqb n block_pool_delete then Some (BlockPoolDelete (pool_number a))
    else if eqb n block_allocate then Some (BlockAllocate (pool_number a) b)
    else if eqb n block_release then Some (BlockRelease (pool_number a) (block_number b))
    else if eqb n block_pool_prioritize then Some (BlockPoolPrioritize (pool_number a))
    else if eqb n thread_state_read then Some (ThreadStateRead (thread_number a))
    else if eqb n thread_words_read then Some (ThreadWordsRead (thread_number a))
    else None

-- rules 2.1, 2.6: a request is for a known call, or it is unknown for its number or its caller
unfoldable pub decoded : Request → Option Call
decoded q = if ltb thread q.caller then None else known_call q.number q.a q.b q.c q.d
