use mathlib.Core.Path.{◌≡◌, refl, sym, ap, ◌∙◌}
use mathlib.Core.List.{List}
use mathlib.Core.Bool.{false}
use Prim.Native.Nat.{ℕ}
use Rattle.calls.specs.Chains.{nobody_runsb}
use Rattle.kernel.specs.Tables.{runner_of}
use Rattle.calls.specs.declared.call.Call.{Call}
use Rattle.kernel.specs.Answers.{answer_of}
use Rattle.kernel.specs.Edits.{guarded}
use Rattle.kernel.specs.Chains.{chain_of, chained}
use Rattle.kernel.specs.General.{effect_of}
use Rattle.kernel.proofs.Laws.Arms.{on-served}
use Rattle.kernel.specs.declared.Kernel.{Kernel}
use Rattle.kernel.proofs.Kernel.step.Goals as goal

-- a caller is there: the answer is that of the service
served : (k : Kernel) (caller : ℕ) (ms : List ℕ) {x y : Call} → nobody_runsb caller (runner_of k) ≡ false → x ≡ y
    → answer_of (guarded k (chain_of k caller y ms) (effect_of k y ms)) ≡ answer_of (guarded k (chained k caller x ms) (effect_of k x ms))
served k caller ms n e = ap answer_of (on-served k caller ms n e)

pub returns-then-nobody_runs : goal.returns-then-nobody_runs
unfolding chain_of effect_of chained guarded
returns-then-nobody_runs c = c.refused.ensures ∙ rw (sym c.nobody_runs.ensures ∙ c.if-nobody_runs.true) refl

pub returns-in-ThreadCreate : goal.returns-in-ThreadCreate
unfolding chain_of effect_of chained guarded
returns-in-ThreadCreate c = c.thread_create.ensures ∙ served c.args.self c.args.caller c.args.messages.now (sym c.nobody_runs.ensures ∙ c.if-nobody_runs.false) c.in-ThreadCreate.is

pub returns-in-ThreadDelete : goal.returns-in-ThreadDelete
unfolding chain_of effect_of chained guarded
returns-in-ThreadDelete c = c.thread_delete.ensures ∙ served c.args.self c.args.caller c.args.messages.now (sym c.nobody_runs.ensures ∙ c.if-nobody_runs.false) c.in-ThreadDelete.is

pub returns-in-ThreadResume : goal.returns-in-ThreadResume
unfolding chain_of effect_of chained guarded
returns-in-ThreadResume c = c.thread_resume.ensures ∙ served c.args.self c.args.caller c.args.messages.now (sym c.nobody_runs.ensures ∙ c.if-nobody_runs.false) c.in-ThreadResume.is

pub returns-in-ThreadSuspend : goal.returns-in-ThreadSuspend
unfolding chain_of effect_of chained guarded
returns-in-ThreadSuspend c = c.thread_suspend.ensures ∙ served c.args.self c.args.caller c.args.messages.now (sym c.nobody_runs.ensures ∙ c.if-nobody_runs.false) c.in-ThreadSuspend.is

pub returns-in-ThreadTerminate : goal.returns-in-ThreadTerminate
unfolding chain_of effect_of chained guarded
returns-in-ThreadTerminate c = c.thread_terminate.ensures ∙ served c.args.self c.args.caller c.args.messages.now (sym c.nobody_runs.ensures ∙ c.if-nobody_runs.false) c.in-ThreadTerminate.is

pub returns-in-ThreadReset : goal.returns-in-ThreadReset
unfolding chain_of effect_of chained guarded
returns-in-ThreadReset c = c.thread_reset.ensures ∙ served c.args.self c.args.caller c.args.messages.now (sym c.nobody_runs.ensures ∙ c.if-nobody_runs.false) c.in-ThreadReset.is

pub returns-in-ThreadFinish : goal.returns-in-ThreadFinish
unfolding chain_of effect_of chained guarded
returns-in-ThreadFinish c = c.thread_finish.ensures ∙ served c.args.self c.args.caller c.args.messages.now (sym c.nobody_runs.ensures ∙ c.if-nobody_runs.false) c.in-ThreadFinish.is

pub returns-in-ThreadRelinquish : goal.returns-in-ThreadRelinquish
unfolding chain_of effect_of chained guarded
returns-in-ThreadRelinquish c = c.thread_relinquish.ensures ∙ served c.args.self c.args.caller c.args.messages.now (sym c.nobody_runs.ensures ∙ c.if-nobody_runs.false) c.in-ThreadRelinquish.is

pub returns-in-ThreadSleep : goal.returns-in-ThreadSleep
unfolding chain_of effect_of chained guarded
returns-in-ThreadSleep c = c.thread_sleep.ensures ∙ served c.args.self c.args.caller c.args.messages.now (sym c.nobody_runs.ensures ∙ c.if-nobody_runs.false) c.in-ThreadSleep.is

pub returns-in-ThreadWaitAbort : goal.returns-in-ThreadWaitAbort
unfolding chain_of effect_of chained guarded
returns-in-ThreadWaitAbort c = c.thread_wait_abort.ensures ∙ served c.args.self c.args.caller c.args.messages.now (sym c.nobody_runs.ensures ∙ c.if-nobody_runs.false) c.in-ThreadWaitAbort.is

pub returns-in-ThreadPriorityChange : goal.returns-in-ThreadPriorityChange
unfolding chain_of effect_of chained guarded
returns-in-ThreadPriorityChange c = c.thread_priority_change.ensures ∙ served c.args.self c.args.caller c.args.messages.now (sym c.nobody_runs.ensures ∙ c.if-nobody_runs.false) c.in-ThreadPriorityChange.is

pub returns-in-ThreadPreemptionChange : goal.returns-in-ThreadPreemptionChange
unfolding chain_of effect_of chained guarded
returns-in-ThreadPreemptionChange c = c.thread_preemption_change.ensures ∙ served c.args.self c.args.caller c.args.messages.now (sym c.nobody_runs.ensures ∙ c.if-nobody_runs.false) c.in-ThreadPreemptionChange.is

pub returns-in-TimeGet : goal.returns-in-TimeGet
unfolding chain_of effect_of chained guarded
returns-in-TimeGet c = c.time_get.ensures ∙ served c.args.self c.args.caller c.args.messages.now (sym c.nobody_runs.ensures ∙ c.if-nobody_runs.false) c.in-TimeGet.is

pub returns-in-TimeSet : goal.returns-in-TimeSet
unfolding chain_of effect_of chained guarded
returns-in-TimeSet c = c.time_set.ensures ∙ served c.args.self c.args.caller c.args.messages.now (sym c.nobody_runs.ensures ∙ c.if-nobody_runs.false) c.in-TimeSet.is

pub returns-in-Tick : goal.returns-in-Tick
unfolding chain_of effect_of chained guarded
returns-in-Tick c = c.tick.ensures ∙ served c.args.self c.args.caller c.args.messages.now (sym c.nobody_runs.ensures ∙ c.if-nobody_runs.false) c.in-Tick.is

pub returns-in-SemaphoreCreate : goal.returns-in-SemaphoreCreate
unfolding chain_of effect_of chained guarded
returns-in-SemaphoreCreate c = c.semaphore_create.ensures ∙ served c.args.self c.args.caller c.args.messages.now (sym c.nobody_runs.ensures ∙ c.if-nobody_runs.false) c.in-SemaphoreCreate.is

pub returns-in-SemaphoreDelete : goal.returns-in-SemaphoreDelete
unfolding chain_of effect_of chained guarded
returns-in-SemaphoreDelete c = c.semaphore_delete.ensures ∙ served c.args.self c.args.caller c.args.messages.now (sym c.nobody_runs.ensures ∙ c.if-nobody_runs.false) c.in-SemaphoreDelete.is

pub returns-in-SemaphoreGet : goal.returns-in-SemaphoreGet
unfolding chain_of effect_of chained guarded
returns-in-SemaphoreGet c = c.semaphore_get.ensures ∙ served c.args.self c.args.caller c.args.messages.now (sym c.nobody_runs.ensures ∙ c.if-nobody_runs.false) c.in-SemaphoreGet.is

pub returns-in-SemaphorePut : goal.returns-in-SemaphorePut
unfolding chain_of effect_of chained guarded
returns-in-SemaphorePut c = c.semaphore_put.ensures ∙ served c.args.self c.args.caller c.args.messages.now (sym c.nobody_runs.ensures ∙ c.if-nobody_runs.false) c.in-SemaphorePut.is

pub returns-in-SemaphoreCeilingPut : goal.returns-in-SemaphoreCeilingPut
unfolding chain_of effect_of chained guarded
returns-in-SemaphoreCeilingPut c = c.semaphore_ceiling_put.ensures ∙ served c.args.self c.args.caller c.args.messages.now (sym c.nobody_runs.ensures ∙ c.if-nobody_runs.false) c.in-SemaphoreCeilingPut.is

pub returns-in-SemaphorePrioritize : goal.returns-in-SemaphorePrioritize
unfolding chain_of effect_of chained guarded
returns-in-SemaphorePrioritize c = c.semaphore_prioritize.ensures ∙ served c.args.self c.args.caller c.args.messages.now (sym c.nobody_runs.ensures ∙ c.if-nobody_runs.false) c.in-SemaphorePrioritize.is

pub returns-in-QueueCreate : goal.returns-in-QueueCreate
unfolding chain_of effect_of chained guarded
returns-in-QueueCreate c = c.queue_create.ensures ∙ served c.args.self c.args.caller c.args.messages.now (sym c.nobody_runs.ensures ∙ c.if-nobody_runs.false) c.in-QueueCreate.is

pub returns-in-QueueDelete : goal.returns-in-QueueDelete
unfolding chain_of effect_of chained guarded
returns-in-QueueDelete c = c.queue_delete.ensures ∙ served c.args.self c.args.caller c.args.messages.now (sym c.nobody_runs.ensures ∙ c.if-nobody_runs.false) c.in-QueueDelete.is

pub returns-in-QueueSend : goal.returns-in-QueueSend
unfolding chain_of effect_of chained guarded
returns-in-QueueSend c = c.queue_send.ensures ∙ served c.args.self c.args.caller c.args.messages.now (sym c.nobody_runs.ensures ∙ c.if-nobody_runs.false) c.in-QueueSend.is

pub returns-in-QueueFrontSend : goal.returns-in-QueueFrontSend
unfolding chain_of effect_of chained guarded
returns-in-QueueFrontSend c = c.queue_send-in-QueueFrontSend.ensures ∙ served c.args.self c.args.caller c.args.messages.now (sym c.nobody_runs.ensures ∙ c.if-nobody_runs.false) c.in-QueueFrontSend.is

pub returns-in-QueueReceive : goal.returns-in-QueueReceive
unfolding chain_of effect_of chained guarded
returns-in-QueueReceive c = c.queue_receive.ensures ∙ served c.args.self c.args.caller c.args.messages.now (sym c.nobody_runs.ensures ∙ c.if-nobody_runs.false) c.in-QueueReceive.is

pub returns-in-QueueFlush : goal.returns-in-QueueFlush
unfolding chain_of effect_of chained guarded
returns-in-QueueFlush c = c.queue_flush.ensures ∙ served c.args.self c.args.caller c.args.messages.now (sym c.nobody_runs.ensures ∙ c.if-nobody_runs.false) c.in-QueueFlush.is

pub returns-in-QueuePrioritize : goal.returns-in-QueuePrioritize
unfolding chain_of effect_of chained guarded
returns-in-QueuePrioritize c = c.queue_prioritize.ensures ∙ served c.args.self c.args.caller c.args.messages.now (sym c.nobody_runs.ensures ∙ c.if-nobody_runs.false) c.in-QueuePrioritize.is

pub returns-in-EventFlagsCreate : goal.returns-in-EventFlagsCreate
unfolding chain_of effect_of chained guarded
returns-in-EventFlagsCreate c = c.event_flags_create.ensures ∙ served c.args.self c.args.caller c.args.messages.now (sym c.nobody_runs.ensures ∙ c.if-nobody_runs.false) c.in-EventFlagsCreate.is

pub returns-in-EventFlagsDelete : goal.returns-in-EventFlagsDelete
unfolding chain_of effect_of chained guarded
returns-in-EventFlagsDelete c = c.event_flags_delete.ensures ∙ served c.args.self c.args.caller c.args.messages.now (sym c.nobody_runs.ensures ∙ c.if-nobody_runs.false) c.in-EventFlagsDelete.is

pub returns-in-EventFlagsSet : goal.returns-in-EventFlagsSet
unfolding chain_of effect_of chained guarded
returns-in-EventFlagsSet c = c.event_flags_set.ensures ∙ served c.args.self c.args.caller c.args.messages.now (sym c.nobody_runs.ensures ∙ c.if-nobody_runs.false) c.in-EventFlagsSet.is

pub returns-in-EventFlagsGet : goal.returns-in-EventFlagsGet
unfolding chain_of effect_of chained guarded
returns-in-EventFlagsGet c = c.event_flags_get.ensures ∙ served c.args.self c.args.caller c.args.messages.now (sym c.nobody_runs.ensures ∙ c.if-nobody_runs.false) c.in-EventFlagsGet.is

pub returns-in-BlockPoolCreate : goal.returns-in-BlockPoolCreate
unfolding chain_of effect_of chained guarded
returns-in-BlockPoolCreate c = c.block_pool_create.ensures ∙ served c.args.self c.args.caller c.args.messages.now (sym c.nobody_runs.ensures ∙ c.if-nobody_runs.false) c.in-BlockPoolCreate.is

pub returns-in-BlockPoolDelete : goal.returns-in-BlockPoolDelete
unfolding chain_of effect_of chained guarded
returns-in-BlockPoolDelete c = c.block_pool_delete.ensures ∙ served c.args.self c.args.caller c.args.messages.now (sym c.nobody_runs.ensures ∙ c.if-nobody_runs.false) c.in-BlockPoolDelete.is

pub returns-in-BlockAllocate : goal.returns-in-BlockAllocate
unfolding chain_of effect_of chained guarded
returns-in-BlockAllocate c = c.block_allocate.ensures ∙ served c.args.self c.args.caller c.args.messages.now (sym c.nobody_runs.ensures ∙ c.if-nobody_runs.false) c.in-BlockAllocate.is

pub returns-in-BlockRelease : goal.returns-in-BlockRelease
unfolding chain_of effect_of chained guarded
returns-in-BlockRelease c = c.block_release.ensures ∙ served c.args.self c.args.caller c.args.messages.now (sym c.nobody_runs.ensures ∙ c.if-nobody_runs.false) c.in-BlockRelease.is

pub returns-in-BlockPoolPrioritize : goal.returns-in-BlockPoolPrioritize
unfolding chain_of effect_of chained guarded
returns-in-BlockPoolPrioritize c = c.block_pool_prioritize.ensures ∙ served c.args.self c.args.caller c.args.messages.now (sym c.nobody_runs.ensures ∙ c.if-nobody_runs.false) c.in-BlockPoolPrioritize.is

pub returns-in-ThreadStateRead : goal.returns-in-ThreadStateRead
unfolding chain_of effect_of chained guarded
returns-in-ThreadStateRead c = c.thread_state_read.ensures ∙ served c.args.self c.args.caller c.args.messages.now (sym c.nobody_runs.ensures ∙ c.if-nobody_runs.false) c.in-ThreadStateRead.is

pub returns-in-ThreadWordsRead : goal.returns-in-ThreadWordsRead
unfolding chain_of effect_of chained guarded
returns-in-ThreadWordsRead c = c.thread_words_read.ensures ∙ served c.args.self c.args.caller c.args.messages.now (sym c.nobody_runs.ensures ∙ c.if-nobody_runs.false) c.in-ThreadWordsRead.is
