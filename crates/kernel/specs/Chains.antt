-- What the code's step finds: the chains of the calls, each the call's own part of the table of refusals. Nothing here needs to be
-- believed: that the table says the same is proved (proofs/Laws/Refusals.antt).
use Rattle.std.specs.Prelude.{if◌then◌else◌, List, ℕ, length}
use Rattle.calls.specs.Statuses as Statuses
use Rattle.calls.specs.Chains.{
  nobody_runsb,
  create_refusal,
  delete_refusal,
  resume_refusal,
  suspend_refusal,
  terminate_refusal,
  reset_refusal,
  set_refusal,
  thread_only_refusal,
  abort_refusal,
  priority_refusal,
  preemption_refusal,
  tick_refusal,
  semaphore_create_refusal,
  semaphore_delete_refusal,
  semaphore_get_refusal,
  put_refusal,
  ceiling_refusal,
  semaphore_refusal,
  queue_create_refusal,
  queue_delete_refusal,
  send_refusal,
  receive_refusal,
  queue_refusal,
  group_create_refusal,
  group_delete_refusal,
  get_refusal,
  pool_create_refusal,
  pool_delete_refusal,
  allocate_refusal,
  release_refusal,
  pool_refusal,
  read_refusal,
}
use Rattle.calls.specs.declared.call.Call.{Call}
use Rattle.calls.specs.declared.call.Call.TheVariants.{
  ThreadCreate,
  ThreadDelete,
  ThreadResume,
  ThreadSuspend,
  ThreadTerminate,
  ThreadReset,
  ThreadFinish,
  ThreadRelinquish,
  ThreadSleep,
  ThreadWaitAbort,
  ThreadPriorityChange,
  ThreadPreemptionChange,
  TimeGet,
  TimeSet,
  Tick,
  SemaphoreCreate,
  SemaphoreDelete,
  SemaphoreGet,
  SemaphorePut,
  SemaphoreCeilingPut,
  SemaphorePrioritize,
  QueueCreate,
  QueueDelete,
  QueueSend,
  QueueFrontSend,
  QueueReceive,
  QueueFlush,
  QueuePrioritize,
  EventFlagsCreate,
  EventFlagsDelete,
  EventFlagsSet,
  EventFlagsGet,
  BlockPoolCreate,
  BlockPoolDelete,
  BlockAllocate,
  BlockRelease,
  BlockPoolPrioritize,
  ThreadStateRead,
  ThreadWordsRead,
}
use Rattle.kernel.specs.declared.Kernel.{Kernel}
use Rattle.kernel.specs.Tables.{thread_of, runner_of, semaphore_at, queue_at, group_at, pool_at}

-- the call's chain, for a known caller
unfoldable pub chain_of : Kernel → ℕ → Call → List ℕ → ℕ
chain_of k caller (ThreadCreate t p h start) messages = create_refusal t.0 (thread_of k t.0) p h start caller
chain_of k caller (ThreadDelete t) messages = delete_refusal (thread_of k t.0) caller
chain_of k caller (ThreadResume t) messages = resume_refusal (thread_of k t.0)
chain_of k caller (ThreadSuspend t) messages = suspend_refusal (thread_of k t.0)
chain_of k caller (ThreadTerminate t) messages = terminate_refusal (thread_of k t.0) caller
chain_of k caller (ThreadReset t) messages = reset_refusal (thread_of k t.0) caller
chain_of k caller ThreadFinish messages = thread_only_refusal caller
chain_of k caller ThreadRelinquish messages = thread_only_refusal caller
chain_of k caller (ThreadSleep ticks) messages = thread_only_refusal caller
chain_of k caller (ThreadWaitAbort t) messages = abort_refusal (thread_of k t.0)
chain_of k caller (ThreadPriorityChange t p) messages = priority_refusal (thread_of k t.0) p caller
chain_of k caller (ThreadPreemptionChange t h) messages = preemption_refusal (thread_of k t.0) h caller
chain_of k caller TimeGet messages = 0
chain_of k caller (TimeSet time) messages = 0
chain_of k caller Tick messages = tick_refusal caller
chain_of k caller (SemaphoreCreate n count) messages = semaphore_create_refusal n.0 (semaphore_at k n.0) caller
chain_of k caller (SemaphoreDelete n) messages = semaphore_delete_refusal (semaphore_at k n.0) caller
chain_of k caller (SemaphoreGet n wait) messages = semaphore_get_refusal (semaphore_at k n.0) wait caller
chain_of k caller (SemaphorePut n) messages = put_refusal (semaphore_at k n.0)
chain_of k caller (SemaphoreCeilingPut n ceiling) messages = ceiling_refusal (semaphore_at k n.0) ceiling
chain_of k caller (SemaphorePrioritize n) messages = semaphore_refusal (semaphore_at k n.0)
chain_of k caller (QueueCreate n words storage) messages = queue_create_refusal n.0 (queue_at k n.0) words storage caller
chain_of k caller (QueueDelete n) messages = queue_delete_refusal (queue_at k n.0) caller
chain_of k caller (QueueSend n wait index) messages = send_refusal (queue_at k n.0) index (length messages) wait caller
chain_of k caller (QueueFrontSend n wait index) messages = send_refusal (queue_at k n.0) index (length messages) wait caller
chain_of k caller (QueueReceive n wait) messages = receive_refusal (queue_at k n.0) wait caller
chain_of k caller (QueueFlush n) messages = queue_refusal (queue_at k n.0)
chain_of k caller (QueuePrioritize n) messages = queue_refusal (queue_at k n.0)
chain_of k caller (EventFlagsCreate n) messages = group_create_refusal n.0 (group_at k n.0) caller
chain_of k caller (EventFlagsDelete n) messages = group_delete_refusal (group_at k n.0) caller
chain_of k caller (EventFlagsSet n flags option) messages = set_refusal (group_at k n.0) option
chain_of k caller (EventFlagsGet n request option wait) messages = get_refusal (group_at k n.0) request option wait caller
chain_of k caller (BlockPoolCreate n block total) messages = pool_create_refusal n.0 (pool_at k n.0) block total caller
chain_of k caller (BlockPoolDelete n) messages = pool_delete_refusal (pool_at k n.0) caller
chain_of k caller (BlockAllocate n wait) messages = allocate_refusal (pool_at k n.0) wait caller
chain_of k caller (BlockRelease n block) messages = release_refusal (pool_at k n.0) block
chain_of k caller (BlockPoolPrioritize n) messages = pool_refusal (pool_at k n.0)
chain_of k caller (ThreadStateRead t) messages = read_refusal (thread_of k t.0)
chain_of k caller (ThreadWordsRead t) messages = read_refusal (thread_of k t.0)

-- that nobody runs comes before the chain
unfoldable pub chained : Kernel → ℕ → Call → List ℕ → ℕ
chained k caller call messages = if nobody_runsb caller (runner_of k) then Statuses.nobody_runs else chain_of k caller call messages
