-- The reasons that refuse a call, as the source names them, and their statuses.
use Rattle.std.specs.Prelude.{ℕ, Result, Ok, Err, ⊤}
use Rattle.calls.specs.declared.refusal.Refusal.{Refusal}
use Rattle.calls.specs.declared.refusal.Refusal.TheVariants.{
  ThreadError,
  PriorityError,
  ThreshError,
  StartError,
  CallerError,
  DeleteError,
  ResumeError,
  SuspendError,
  WaitAbortError,
  NotDone,
  SemaphoreError,
  WaitError,
  NoInstance,
  CeilingExceeded,
  InvalidCeiling,
  QueueError,
  SizeError,
  PtrError,
  QueueFull,
  QueueEmpty,
  GroupError,
  OptionError,
  NoEvents,
  PoolError,
  NoMemory,
}
use Rattle.calls.specs.Statuses as Statuses

-- the status of a reason
abbrev pub status_of : Refusal → ℕ
status_of ThreadError = Statuses.thread_error
status_of PriorityError = Statuses.priority_error
status_of ThreshError = Statuses.thresh_error
status_of StartError = Statuses.start_error
status_of CallerError = Statuses.caller_error
status_of DeleteError = Statuses.delete_error
status_of ResumeError = Statuses.resume_error
status_of SuspendError = Statuses.suspend_error
status_of WaitAbortError = Statuses.wait_abort_error
status_of NotDone = Statuses.not_done
status_of SemaphoreError = Statuses.semaphore_error
status_of WaitError = Statuses.wait_error
status_of NoInstance = Statuses.no_instance
status_of CeilingExceeded = Statuses.ceiling_exceeded
status_of InvalidCeiling = Statuses.invalid_ceiling
status_of QueueError = Statuses.queue_error
status_of SizeError = Statuses.size_error
status_of PtrError = Statuses.ptr_error
status_of QueueFull = Statuses.queue_full
status_of QueueEmpty = Statuses.queue_empty
status_of GroupError = Statuses.group_error
status_of OptionError = Statuses.option_error
status_of NoEvents = Statuses.no_events
status_of PoolError = Statuses.pool_error
status_of NoMemory = Statuses.no_memory

-- what a function of refusal.rt answers, as a number: 0 where no reason refuses the call, else the status of the first that does
abbrev pub reason_of : Result ⊤ Refusal → ℕ
reason_of (Ok u) = 0
reason_of (Err e) = status_of e
