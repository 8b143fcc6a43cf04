-- The general call: the effect of each call, and the answer to a request (rules 2.5 to 2.7).
use Rattle.std.specs.Prelude.{if◌then◌else◌, List, true, false, ℕ, Option, Some, None}
use Rattle.numbers.specs.Numbers.{nobody}
use Rattle.scheduler.specs.Threads.{completed, suspended}
use Rattle.objects.specs.Queues.{empty_queue}
use Rattle.objects.specs.Groups.{group_with}
use Rattle.blocks.specs.Pools.{fresh_pool}
use Rattle.calls.specs.Held.{no_words}
use Rattle.calls.specs.Messages.{message_in}
use Rattle.calls.specs.Calls.{decoded}
use Rattle.calls.specs.Statuses as Statuses
use Rattle.calls.specs.declared.call.Request.{Request}
use Rattle.calls.specs.declared.call.Call.{Call}
use Rattle.calls.specs.declared.call.Call.TheVariants.{
  ThreadCreate,
  ThreadDelete,
  ThreadResume,
  ThreadSuspend,
  ThreadTerminate,
  ThreadReset,
  ThreadFinish,
  ThreadRelinquish,
  ThreadSleep,
  ThreadWaitAbort,
  ThreadPriorityChange,
  ThreadPreemptionChange,
  TimeGet,
  TimeSet,
  Tick,
  SemaphoreCreate,
  SemaphoreDelete,
  SemaphoreGet,
  SemaphorePut,
  SemaphoreCeilingPut,
  SemaphorePrioritize,
  QueueCreate,
  QueueDelete,
  QueueSend,
  QueueFrontSend,
  QueueReceive,
  QueueFlush,
  QueuePrioritize,
  EventFlagsCreate,
  EventFlagsDelete,
  EventFlagsSet,
  EventFlagsGet,
  BlockPoolCreate,
  BlockPoolDelete,
  BlockAllocate,
  BlockRelease,
  BlockPoolPrioritize,
  ThreadStateRead,
  ThreadWordsRead,
}
use Rattle.kernel.specs.declared.Kernel.{Kernel}
use Rattle.kernel.specs.declared.Answer.{Answer}
use Rattle.kernel.specs.Sound.{soundb}
use Rattle.kernel.specs.Tables.{runner_of, queue_at}
use Rattle.kernel.specs.Answers.{Outcome, answer_of, refused}
use Rattle.kernel.specs.Refusals.{reason_of}
use Rattle.kernel.specs.Kinds.Kind.{semaphore, queue, group, pool}
use Rattle.kernel.specs.Edits.{Effect, guarded}
use Rattle.kernel.specs.Effects.{store_effect, remove_effect, rank_effect, counting}
use Rattle.kernel.specs.Threads.{
  create_effect,
  delete_effect,
  resume_effect,
  suspend_effect,
  terminate_effect,
  rest_effect,
  relinquish_effect,
  sleep_effect,
  abort_effect,
  priority_effect,
  preemption_effect,
  state_effect,
  words_effect,
}
use Rattle.kernel.specs.Clock.{clock_effect, clock_set_effect, tick_effect}
use Rattle.kernel.specs.Semaphores.{semaphore_get_effect, put_effect}
use Rattle.kernel.specs.Queues.{send_effect, receive_effect, flush_effect}
use Rattle.kernel.specs.Groups.{set_effect, flags_get_effect}
use Rattle.kernel.specs.Pools.{allocate_effect, release_effect}

-- ---- effects
-- rule 2.7: what a call does that is not refused; a send takes its message from the lent words
unfoldable pub effect_of : Kernel → Call → List ℕ → Effect
effect_of k (ThreadCreate t p h start) messages = create_effect t.0 p h start
effect_of k (ThreadDelete t) messages = delete_effect t.0
effect_of k (ThreadResume t) messages = resume_effect k t.0
effect_of k (ThreadSuspend t) messages = suspend_effect k t.0
effect_of k (ThreadTerminate t) messages = terminate_effect k t.0
effect_of k (ThreadReset t) messages = rest_effect t.0 suspended
effect_of k ThreadFinish messages = rest_effect (runner_of k) completed
effect_of k ThreadRelinquish messages = relinquish_effect k
effect_of k (ThreadSleep ticks) messages = sleep_effect k ticks
effect_of k (ThreadWaitAbort t) messages = abort_effect t.0
effect_of k (ThreadPriorityChange t p) messages = priority_effect k t.0 p
effect_of k (ThreadPreemptionChange t h) messages = preemption_effect k t.0 h
effect_of k TimeGet messages = clock_effect k
effect_of k (TimeSet time) messages = clock_set_effect time
effect_of k Tick messages = tick_effect k
effect_of k (SemaphoreCreate n count) messages = store_effect semaphore n.0 (counting count)
effect_of k (SemaphoreDelete n) messages = remove_effect k semaphore n.0
effect_of k (SemaphoreGet n wait) messages = semaphore_get_effect k n.0 wait
effect_of k (SemaphorePut n) messages = put_effect k n.0
effect_of k (SemaphoreCeilingPut n ceiling) messages = put_effect k n.0
effect_of k (SemaphorePrioritize n) messages = rank_effect semaphore n.0
effect_of k (QueueCreate n words storage) messages = store_effect queue n.0 (empty_queue words storage)
effect_of k (QueueDelete n) messages = remove_effect k queue n.0
effect_of k (QueueSend n wait index) messages = send_effect k n.0 wait false (message_in messages index (queue_at k n.0).words)
effect_of k (QueueFrontSend n wait index) messages = send_effect k n.0 wait true (message_in messages index (queue_at k n.0).words)
effect_of k (QueueReceive n wait) messages = receive_effect k n.0 wait
effect_of k (QueueFlush n) messages = flush_effect k n.0
effect_of k (QueuePrioritize n) messages = rank_effect queue n.0
effect_of k (EventFlagsCreate n) messages = store_effect group n.0 (group_with 0)
effect_of k (EventFlagsDelete n) messages = remove_effect k group n.0
effect_of k (EventFlagsSet n flags option) messages = set_effect k n.0 flags option
effect_of k (EventFlagsGet n request option wait) messages = flags_get_effect k n.0 request option wait
effect_of k (BlockPoolCreate n block total) messages = store_effect pool n.0 (fresh_pool block total)
effect_of k (BlockPoolDelete n) messages = remove_effect k pool n.0
effect_of k (BlockAllocate n wait) messages = allocate_effect k n.0 wait
effect_of k (BlockRelease n block) messages = release_effect k n.0 block
effect_of k (BlockPoolPrioritize n) messages = rank_effect pool n.0
effect_of k (ThreadStateRead t) messages = state_effect k t.0
effect_of k (ThreadWordsRead t) messages = words_effect k t.0

-- ---- the answer
-- rules 2.6, 2.7: a request for a known call is refused for the first reason of the table that holds, else the call's effect is carried
-- out and the next thread chosen once; any other request is refused as unknown
unfoldable pub step_of : Kernel → Request → Option Call → List ℕ → Outcome
step_of k q (Some call) messages = guarded k (reason_of k q messages) (effect_of k call messages)
step_of k q None messages = refused k Statuses.unknown_call

-- rule 2.6: one call on sound tables: a request and the lent message words
unfoldable pub step : Kernel → Request → List ℕ → Outcome
step k q messages = step_of k q (decoded q) messages

-- rule 2.5: unsound tables are handed back as they are, and nobody runs next
unfoldable pub unsound : Kernel → Answer
unsound k = record { status = Statuses.tables_unsound; words = no_words; next = record { 0 = nobody }; ended = 0; kernel = k }

-- rule 2.5: the general call: unsound tables are refused before anything else
unfoldable pub call : Kernel → Request → List ℕ → Answer
call k q messages = if soundb k then answer_of (step k q messages) else unsound k
