-- The example tape and a refused one, computed.
use mathlib.Core.Path.{refl}
use Rattle.lines.specs.Lines as LinesLines
use Rattle.lines.specs.Lists as LinesLists
use Rattle.lines.specs.Logic as LinesLogic
use Rattle.lines.specs.Slots as LinesSlots
use Rattle.scheduler.specs.Choice as SchedulerChoice
use Rattle.scheduler.specs.Orders as SchedulerOrders
use Rattle.scheduler.specs.Sound as SchedulerSound
use Rattle.scheduler.specs.Threads as SchedulerThreads
use Rattle.objects.specs.Groups as ObjectsGroups
use Rattle.objects.specs.Queues as ObjectsQueues
use Rattle.objects.specs.Semaphores as ObjectsSemaphores
use Rattle.blocks.specs.Pools as BlocksPools
use Rattle.calls.specs.Calls as CallsCalls
use Rattle.calls.specs.Held as CallsHeld
use Rattle.calls.specs.Callers as CallsCallers
use Rattle.waiting.specs.Fit as WaitingFit
use Rattle.kernel.specs.Answers as KernelAnswers
use Rattle.kernel.specs.Edits as KernelEdits
use Rattle.kernel.specs.Effects as KernelEffects
use Rattle.kernel.specs.Threads as KernelThreads
use Rattle.kernel.specs.Semaphores as KernelSemaphores
use Rattle.kernel.specs.Refusals as KernelRefusals
use Rattle.kernel.specs.Roles as KernelRoles
use Rattle.kernel.specs.General as KernelGeneral
use Rattle.kernel.specs.Sound as KernelSound
use Rattle.kernel.specs.Tables as KernelTables
use Rattle.tape.specs.Tapes as TapeTapes
use Rattle.kernel.specs.Runs as KernelRuns
use Rattle.output.specs.Texts as OutputTexts
use Rattle.text.specs.Texts as TextTexts
use Rattle.text.specs.Records as TextRecords
use Rattle.replay.specs.Replay.{record_text, answer_text, count_text, calls_text, replay_text}
use Rattle.replay.specs.Cases.{example, Cases}

pub cases : Cases
unfolding example record_text answer_text TextRecords.records_text count_text calls_text replay_text OutputTexts.decimal_in OutputTexts.decimal_of TextTexts.field_text TextTexts.thread_text TextTexts.refused_text TapeTapes.word_at TapeTapes.records_end TapeTapes.tape_end TapeTapes.refusedb TapeTapes.count_of TapeTapes.message_count_of TapeTapes.record_from TapeTapes.record_at TapeTapes.message_at TapeTapes.records_of TapeTapes.messages_of KernelRuns.after_record LinesLines.members LinesLines.pad LinesLines.line_of LinesLines.cleanb LinesLists.numbers_from LinesLists.filter LinesLists.without LinesLists.count LinesLists.below LinesLists.first LinesLists.first_with LinesLists.leastb LinesLists.best_of LinesLogic.one_if LinesLogic.implies LinesLogic.all_below LinesSlots.zero_from SchedulerChoice.best_among SchedulerChoice.best_ready SchedulerChoice.best_marked SchedulerChoice.staysb SchedulerChoice.overtakesb SchedulerChoice.next_of SchedulerChoice.with_mark SchedulerChoice.replaced SchedulerChoice.dispatched SchedulerChoice.rescheduled SchedulerOrders.thread_at SchedulerOrders.line_at SchedulerOrders.first_at SchedulerOrders.with_thread SchedulerOrders.with_order SchedulerOrders.with_runner SchedulerOrders.idle SchedulerOrders.moved SchedulerOrders.joined SchedulerSound.limitsb SchedulerSound.mark_fitb SchedulerSound.suspension_fitb SchedulerSound.ticks_fitb SchedulerSound.object_fitb SchedulerSound.zerob SchedulerSound.fitb SchedulerSound.countedb SchedulerSound.steadyb SchedulerSound.runsb SchedulerSound.soundb SchedulerThreads.uncreated SchedulerThreads.readyb SchedulerThreads.sleepsb SchedulerThreads.waitsb SchedulerThreads.pausedb SchedulerThreads.markedb SchedulerThreads.standsb SchedulerThreads.number_of SchedulerThreads.placedb SchedulerThreads.in_state SchedulerThreads.created ObjectsGroups.no_group ObjectsQueues.no_queue ObjectsQueues.capacity_of ObjectsQueues.emptyb ObjectsQueues.fullb ObjectsQueues.used_words ObjectsQueues.sizes_fitb ObjectsQueues.queue_limitsb ObjectsQueues.store_fitb ObjectsQueues.queue_zerob ObjectsQueues.queue_fitb ObjectsSemaphores.no_semaphore BlocksPools.no_pool BlocksPools.blocks_of BlocksPools.free_blocks BlocksPools.block_sizesb BlocksPools.pool_limitsb BlocksPools.onceb BlocksPools.listingb BlocksPools.list_fitb BlocksPools.pool_zerob BlocksPools.pool_fitb CallsCalls.known_call CallsCalls.decoded CallsHeld.held_words CallsHeld.message_of CallsHeld.holding WaitingFit.blank_from WaitingFit.waits_onb WaitingFit.sendsb WaitingFit.status_fitb WaitingFit.words_fitb WaitingFit.sender_fitb WaitingFit.request_fitb WaitingFit.unheld_fitb WaitingFit.held_fitb WaitingFit.semaphore_waitb WaitingFit.queue_waitb WaitingFit.group_waitb WaitingFit.pool_waitb WaitingFit.semaphores_fitb WaitingFit.queues_fitb WaitingFit.groups_fitb WaitingFit.pools_fitb KernelAnswers.answer_of KernelAnswers.refused KernelEdits.status_by KernelEdits.record_by KernelEdits.held_by KernelEdits.frontb KernelEdits.edited KernelEdits.applied KernelEdits.gathered KernelEdits.endsb KernelEdits.status_of KernelEdits.carried_out KernelEdits.guarded KernelEffects.store_effect KernelEffects.counting KernelEffects.take_effect KernelThreads.create_effect KernelSemaphores.semaphore_get_effect CallsCallers.allowedb KernelRoles.limit_of KernelRefusals.refusals KernelRefusals.first_reason KernelRefusals.reason_of KernelGeneral.effect_of KernelGeneral.step_of KernelGeneral.step KernelGeneral.call KernelSound.wait_fitb KernelSound.soundb KernelTables.started KernelTables.held_at KernelTables.semaphore_at KernelTables.queue_at KernelTables.group_at KernelTables.pool_at KernelTables.with_scheduler KernelTables.with_held KernelTables.with_semaphore
cases = record { example = refl; refused = refl }
