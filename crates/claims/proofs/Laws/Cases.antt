-- The worked cases and the witnesses of first come, first served, computed.
use mathlib.Core.Path.{◌≡◌, refl}
use mathlib.Core.List.{List, [], ◌∷◌, ◌++◌}
use mathlib.Core.Bool.{true, false}
use Rattle.lines.proofs.Laws.Logic.{never}
use Rattle.calls.specs.Statuses as Statuses
use Rattle.kernel.specs.declared.Kernel.{Kernel}
use Rattle.kernel.specs.Kinds.{Kind}
use Rattle.kernel.specs.Sound.{Sound}
use Rattle.kernel.specs.Kinds.Kind.{semaphore, queue, pool}
use Rattle.kernel.specs.Uses.{rolledb}
use Rattle.kernel.proofs.Laws.Sound.{started_sound}
use Rattle.lines.specs.Lines as LinesLines
use Rattle.lines.specs.Lists as LinesLists
use Rattle.lines.specs.Logic as LinesLogic
use Rattle.lines.specs.Slots as LinesSlots
use Rattle.scheduler.specs.Changes as SchedulerChanges
use Rattle.scheduler.specs.Choice as SchedulerChoice
use Rattle.scheduler.specs.Orders as SchedulerOrders
use Rattle.scheduler.specs.Sound as SchedulerSound
use Rattle.scheduler.specs.Threads as SchedulerThreads
use Rattle.objects.specs.Groups as ObjectsGroups
use Rattle.objects.specs.Queues as ObjectsQueues
use Rattle.objects.specs.Semaphores as ObjectsSemaphores
use Rattle.blocks.specs.Pools as BlocksPools
use Rattle.blocks.specs.Views as BlocksViews
use Rattle.calls.specs.Calls as CallsCalls
use Rattle.calls.specs.Held as CallsHeld
use Rattle.calls.specs.Messages as CallsMessages
use Rattle.calls.specs.Callers as CallsCallers
use Rattle.waiting.specs.Fit as WaitingFit
use Rattle.waiting.specs.Ticks as WaitingTicks
use Rattle.kernel.specs.Answers as KernelAnswers
use Rattle.kernel.specs.Loops as KernelLoops
use Rattle.kernel.specs.Edits as KernelEdits
use Rattle.kernel.specs.Effects as KernelEffects
use Rattle.kernel.specs.Threads as KernelThreads
use Rattle.kernel.specs.Clock as KernelClock
use Rattle.kernel.specs.Semaphores as KernelSemaphores
use Rattle.kernel.specs.Queues as KernelQueues
use Rattle.kernel.specs.Groups as KernelGroups
use Rattle.kernel.specs.Pools as KernelPools
use Rattle.kernel.specs.Refusals as KernelRefusals
use Rattle.kernel.specs.Roles as KernelRoles
use Rattle.kernel.specs.General as KernelGeneral
use Rattle.kernel.specs.Sound as KernelSound
use Rattle.kernel.specs.Tables as KernelTables
use Rattle.kernel.specs.Views as KernelViews
use Rattle.claims.specs.Lists.{Made, answer, next, after}
use Rattle.claims.specs.Rolls as Rolls
use Rattle.claims.specs.Cases.{called, said, made, with_count, p3a, p3b, waits, p9, asks, p4, p4set, p5, p6, p7, receive, p8, timed_out_get, timed_out, suspended_get, changes_own_priority, Cases}
use Rattle.claims.specs.Witnesses.{emptied, take_call, give_call, queued, waiting_on, refused_call, before_last, Met, Witnesses}
use Rattle.claims.proofs.Laws.Steps.{next_sound}
use Rattle.claims.proofs.Laws.Claims.{first_come_first_served}

-- what is computed of the tables in which the threads wait
record Facts (d : Kind) : Type 0 where
  line : Rolls.waiters_of d 0 (waiting_on d) ≡ 0 ∷ 1 ∷ 2 ∷ []
  takes : (KernelTables.held_at (waiting_on d) 2).sending ≡ false
  calm : Rolls.NoPrioritiseOrDelete d 0 (waiting_on d) (before_last d ++ (give_call d 2 ∷ []))
  refused : (answer (next (waiting_on d) (give_call d 0)) refused_call).status ≡ Statuses.thread_error
  undisturbed : Rolls.Undisturbed d 0 (waiting_on d) (Rolls.start_roll (waiting_on d) (0 ∷ 1 ∷ []) 2) (before_last d)
  gave : Rolls.gave d 0 (waiting_on d) (before_last d) ≡ 2
  gives : Rolls.givesb d 0 (give_call d 2) ≡ true
  done : Rolls.succeedsb (answer (after (waiting_on d) (before_last d)) (give_call d 2)) ≡ true

-- all that a general call takes to compute, by one name
general : Unit {0}
unfolding answer next after LinesLines.members LinesLines.pad LinesLines.line_of LinesLines.cleanb LinesLists.numbers_from LinesLists.filter LinesLists.without LinesLists.to_end LinesLists.to_front LinesLists.count LinesLists.below LinesLists.first LinesLists.first_with LinesLists.leastb LinesLists.fronted LinesLists.best_of LinesLists.prioritised LinesLists.union_of LinesLogic.one_if LinesLogic.implies LinesLogic.all_below LinesSlots.zero_from SchedulerChanges.with_levels SchedulerChanges.priority_changed SchedulerChanges.preemption_changed SchedulerChoice.best_among SchedulerChoice.best_ready SchedulerChoice.best_marked SchedulerChoice.staysb SchedulerChoice.overtakesb SchedulerChoice.next_of SchedulerChoice.with_mark SchedulerChoice.replaced SchedulerChoice.dispatched SchedulerChoice.rescheduled SchedulerChoice.relinquished SchedulerOrders.thread_at SchedulerOrders.line_at SchedulerOrders.first_at SchedulerOrders.with_thread SchedulerOrders.with_order SchedulerOrders.with_runner SchedulerOrders.idle SchedulerOrders.moved SchedulerOrders.moved_front SchedulerOrders.joined SchedulerOrders.woken SchedulerOrders.prioritised_at SchedulerSound.limitsb SchedulerSound.mark_fitb SchedulerSound.suspension_fitb SchedulerSound.ticks_fitb SchedulerSound.object_fitb SchedulerSound.zerob SchedulerSound.fitb SchedulerSound.countedb SchedulerSound.steadyb SchedulerSound.runsb SchedulerSound.soundb SchedulerThreads.uncreated SchedulerThreads.readyb SchedulerThreads.sleepsb SchedulerThreads.waitsb SchedulerThreads.pausedb SchedulerThreads.markedb SchedulerThreads.standsb SchedulerThreads.number_of SchedulerThreads.placedb SchedulerThreads.in_state SchedulerThreads.awake SchedulerThreads.with_suspension SchedulerThreads.created ObjectsGroups.no_group ObjectsGroups.group_with ObjectsGroups.or_optionb ObjectsGroups.some_setb ObjectsGroups.all_setb ObjectsGroups.metb ObjectsGroups.clearsb ObjectsGroups.clear_of ObjectsGroups.less_flags ObjectsQueues.no_queue ObjectsQueues.capacity_of ObjectsQueues.emptyb ObjectsQueues.fullb ObjectsQueues.roomb ObjectsQueues.used_words ObjectsQueues.sizes_fitb ObjectsQueues.queue_limitsb ObjectsQueues.store_fitb ObjectsQueues.queue_zerob ObjectsQueues.queue_fitb ObjectsQueues.empty_queue ObjectsQueues.stored_words ObjectsQueues.storing ObjectsQueues.oldest ObjectsQueues.without_oldest ObjectsQueues.with_last ObjectsQueues.with_first ObjectsQueues.with_sent ObjectsQueues.given_past ObjectsQueues.left_past ObjectsQueues.flushed ObjectsSemaphores.no_semaphore BlocksPools.no_pool BlocksPools.blocks_of BlocksPools.free_blocks BlocksPools.block_sizesb BlocksPools.pool_limitsb BlocksPools.onceb BlocksPools.listingb BlocksPools.list_fitb BlocksPools.pool_zerob BlocksPools.pool_fitb BlocksPools.listing BlocksPools.fresh_pool BlocksPools.usedb BlocksPools.next_block BlocksPools.without_next BlocksPools.with_free BlocksPools.block_start BlocksViews.viewedb BlocksViews.extent_of BlocksViews.viewed BlocksViews.onwards BlocksViews.written BlocksViews.p8 BlocksViews.p8_area CallsCalls.known_call CallsCalls.decoded CallsHeld.held_words CallsHeld.message_of CallsHeld.holding CallsHeld.sending CallsHeld.requesting CallsMessages.message_in WaitingFit.blank_from WaitingFit.waits_onb WaitingFit.sendsb WaitingFit.status_fitb WaitingFit.words_fitb WaitingFit.sender_fitb WaitingFit.request_fitb WaitingFit.unheld_fitb WaitingFit.held_fitb WaitingFit.semaphore_waitb WaitingFit.queue_waitb WaitingFit.group_waitb WaitingFit.pool_waitb WaitingFit.semaphores_fitb WaitingFit.queues_fitb WaitingFit.groups_fitb WaitingFit.pools_fitb WaitingTicks.timedb WaitingTicks.timeout_status WaitingTicks.with_ticks KernelAnswers.answer_of KernelAnswers.refused KernelLoops.answered KernelEdits.status_by KernelEdits.record_by KernelEdits.held_by KernelEdits.frontb KernelEdits.edited KernelEdits.applied KernelEdits.gathered KernelEdits.endsb KernelEdits.status_of KernelEdits.carried_out KernelEdits.guarded KernelEffects.ends_each KernelEffects.store_effect KernelEffects.close_effect KernelEffects.rank_effect KernelEffects.serve_effect KernelEffects.give_effect KernelEffects.counting KernelEffects.take_effect KernelThreads.create_effect KernelThreads.delete_effect KernelThreads.resume_effect KernelThreads.suspend_effect KernelThreads.terminate_effect KernelThreads.rest_effect KernelThreads.relinquish_effect KernelThreads.sleep_effect KernelThreads.abort_effect KernelThreads.priority_effect KernelThreads.preemption_effect KernelThreads.state_effect KernelThreads.words_effect KernelClock.clock_effect KernelClock.clock_set_effect KernelClock.tick_effect KernelSemaphores.semaphore_get_effect KernelSemaphores.put_effect KernelQueues.send_effect KernelQueues.past_effect KernelQueues.receive_effect KernelQueues.flush_effect KernelGroups.woken_by KernelGroups.clears_by KernelGroups.set_or_effect KernelGroups.set_effect KernelGroups.flags_get_effect KernelPools.allocate_effect KernelPools.release_effect CallsCallers.allowedb KernelRoles.limit_of KernelRefusals.refusals KernelRefusals.first_reason KernelRefusals.reason_of KernelGeneral.effect_of KernelGeneral.step_of KernelGeneral.step KernelGeneral.unsound KernelGeneral.call KernelSound.wait_fitb KernelSound.soundb KernelTables.started KernelTables.held_at KernelTables.semaphore_at KernelTables.queue_at KernelTables.group_at KernelTables.pool_at KernelTables.with_scheduler KernelTables.with_held KernelTables.with_semaphore KernelTables.with_queue KernelTables.with_group KernelTables.with_pool KernelTables.with_clock KernelViews.viewed_pool KernelViews.block_extent KernelViews.block_view KernelViews.block_written WaitingTicks.next_time KernelClock.counts_each KernelClock.ticks_taken KernelClock.timeouts WaitingTicks.at_zerob
general = tt

pub cases : Cases
unfolding general called said made with_count p3a p3b waits p9 asks p4 p4set p5 p6 p7 receive p8 timed_out_get timed_out suspended_get changes_own_priority
cases =
    record {
      p1 = refl;
      p2 = (refl, refl);
      p2done = (refl, refl);
      p3 = (refl, refl, refl);
      p3mark = (refl, refl, refl);
      p4ended = refl;
      p4ready = (refl, refl);
      p4status = (refl, refl);
      p4held = (refl, refl);
      p4flags = refl;
      p4line = refl;
      p5 = refl;
      p6 = (refl, refl, refl, refl);
      p7 = (refl, refl, refl);
      p8blocks = refl;
      p8view = refl;
      p8released = (refl, refl);
      p9line = refl;
      p10 = (refl, refl);
      timeout = refl;
      interrupt_wait = refl;
      timeouts = (refl, refl, refl, refl, refl, refl);
      suspended_served = (refl, refl);
      lowered = (refl, refl, refl);
      raised = (refl, refl);
    }

-- ---- witnesses
facts : Facts semaphore × Facts queue × Facts pool
unfolding general called emptied take_call give_call queued waiting_on refused_call before_last Rolls.onb Rolls.givesb Rolls.prioritises_or_deletesb Rolls.succeedsb Rolls.names Rolls.roll_of Rolls.each Rolls.rest Rolls.unnamed Rolls.ticked Rolls.strike_out Rolls.rolled Rolls.gave
facts = (
  record {
    line = refl;
    takes = refl;
    calm = (refl, (refl, (refl, (refl, (refl, tt)))));
    refused = refl;
    undisturbed = (λ g. never refl g, (λ g. refl, (λ g. refl, (λ g. never refl g, tt))));
    gave = refl;
    gives = refl;
    done = refl;
  },
  record {
    line = refl;
    takes = refl;
    calm = (refl, (refl, (refl, (refl, (refl, tt)))));
    refused = refl;
    undisturbed = (λ g. never refl g, (λ g. refl, (λ g. refl, (λ g. never refl g, tt))));
    gave = refl;
    gives = refl;
    done = refl;
  },
  record {
    line = refl;
    takes = refl;
    calm = (refl, (refl, (refl, (refl, (refl, tt)))));
    refused = refl;
    undisturbed = (λ g. never refl g, (λ g. refl, (λ g. refl, (λ g. never refl g, tt))));
    gave = refl;
    gives = refl;
    done = refl;
  },
)

after_sound : (ms : List Made) (k : Kernel) → Sound k → Sound (after k ms)
unfolding after
after_sound [] k S = S
after_sound (m ∷ ms) k S = after_sound ms (next k m) (next_sound k S m)

met : (d : Kind) → rolledb d ≡ true → Facts d → Met d
unfolding waiting_on
met d o f =
    let S = after_sound (emptied d ++ queued d) KernelTables.started started_sound in
    let W : Rolls.Waits (waiting_on d) d 0 (0 ∷ 1 ∷ []) 2 = record { object = o; line = ([], f.line); receives = λ q. f.takes } in
    record {
      sound = S;
      waits = W;
      calm = f.calm;
      refused = f.refused;
      undisturbed = f.undisturbed;
      gave = f.gave;
      done = f.done;
      serves = ((first_come_first_served (waiting_on d) S d 0 (0 ∷ 1 ∷ []) 2 W (before_last d ++ (give_call d 2 ∷ [])) f.calm).served (before_last d) (give_call d 2) [] refl f.undisturbed f.gave f.gives f.done).1;
    }

pub witnesses : Witnesses
witnesses = record { of_semaphore = met semaphore refl facts.0; of_queue = met queue refl facts.1; of_pool = met pool refl facts.2 }
