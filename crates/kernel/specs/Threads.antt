-- What calls 1 to 12, 38 and 39 do.
use Rattle.std.specs.Prelude.{if◌then◌else◌, [], ◌∷◌, true, false, ℕ, eqb}
use Rattle.scheduler.specs.Threads.{ready, suspended, asleep, uncreated, readyb, pausedb, finishedb, at_rest, with_suspension, created}
use Rattle.scheduler.specs.Changes.{with_levels, with_priority}
use Rattle.calls.specs.declared.held.Held.{Held}
use Rattle.calls.specs.Held.{no_words, one_word, two_words, no_held, held_waiting, held_words}
use Rattle.kernel.specs.declared.Kernel.{Kernel}
use Rattle.kernel.specs.Tables.{thread_of, runner_of, held_at}
use Rattle.kernel.specs.Edits.{Success, Effect}
use Rattle.kernel.specs.Edits.Cause.{aborted}
use Rattle.kernel.specs.Edits.Move.{ends, stops, turns}
use Rattle.kernel.specs.Edits.Edit.{moves, alters}
use Rattle.kernel.specs.Effects.{gives, does, begins}

-- rule 5.7: a thread keeps what it holds
abbrev pub keeps : Held → Held
keeps h = h

-- rules 6.1, 6.4: it holds nothing any more
abbrev pub clears : Held → Held
clears h = no_held

-- rule 6.1: call 1, create: suspended, or ready where start is 1; nothing held
unfoldable pub create_effect : ℕ → ℕ → ℕ → ℕ → Effect
create_effect t p h start = does (moves t (turns (λ th. created (if eqb start 1 then ready else suspended) p h) clears) ∷ [])

-- rule 6.1: call 2, delete: the record is zero
unfoldable pub delete_effect : ℕ → Effect
delete_effect t = does (moves t (turns (λ th. uncreated) clears) ∷ [])

-- rule 6.2: call 3, resume: a held suspension is lifted, with 0x19; a suspended thread is ready
unfoldable pub resume_effect : Kernel → ℕ → Effect
resume_effect k t =
    if (thread_of k t).suspending
    then record { success = Success.lifted; words = no_words; relinquishes = false; edits = alters t (with_suspension false) ∷ [] }
    else does (moves t (turns (at_rest ready) keeps) ∷ [])

-- rule 6.3: call 4, suspend: of a waiter or sleeper held until its wait ends; a ready thread is suspended at once, a suspended one stays so
unfoldable pub suspend_effect : Kernel → ℕ → Effect
suspend_effect k t =
    if pausedb (thread_of k t) then does (alters t (with_suspension true) ∷ [])
    else if readyb (thread_of k t) then does (moves t (turns (at_rest suspended) keeps) ∷ [])
    else does []

-- rule 6.4: call 5, terminate: no change to a finished thread; any other is terminated, and what it held is cleared
unfoldable pub terminate_effect : Kernel → ℕ → Effect
terminate_effect k t = if finishedb (thread_of k t) then does [] else does (moves t stops ∷ [])

-- rule 6.4: call 6, reset, with the state suspended, and call 7, finish, with completed: priority and threshold are kept, and what the
-- thread held is cleared
unfoldable pub rest_effect : ℕ → ℕ → Effect
rest_effect t state = does (moves t (turns (at_rest state) clears) ∷ [])

-- rule 4.6: call 8, relinquish: to the end of its order, and the runner does not count as staying in the choice that follows
unfoldable pub relinquish_effect : Kernel → Effect
relinquish_effect k =
    record { success = Success.done; words = no_words; relinquishes = true; edits = moves (runner_of k) (turns (λ th. th) keeps) ∷ [] }

-- rule 6.5: call 9, sleep: 0 does nothing
unfoldable pub sleep_effect : Kernel → ℕ → Effect
sleep_effect k ticks = if eqb ticks 0 then does [] else begins k false asleep 0 ticks held_waiting

-- rule 6.11: call 10, wait abort
unfoldable pub abort_effect : ℕ → Effect
abort_effect t = does (moves t (ends aborted no_words) ∷ [])

-- rule 6.6: call 11, priority change: word 0 is the old priority; priority and threshold are the new one; a ready thread joins the end of
-- its new order, another keeps its place
unfoldable pub priority_effect : Kernel → ℕ → ℕ → Effect
priority_effect k t p =
    gives (one_word (thread_of k t).priority)
    (if readyb (thread_of k t) then moves t (turns (with_priority p) keeps) ∷ [] else alters t (with_priority p) ∷ [])

-- rule 6.7: call 12, preemption change: word 0 is the old threshold
unfoldable pub preemption_effect : Kernel → ℕ → ℕ → Effect
preemption_effect k t h = gives (one_word (thread_of k t).threshold) (alters t (λ th. with_levels th.priority h th) ∷ [])

-- rule 6.8: call 38 reads a thread's state and held status
unfoldable pub state_effect : Kernel → ℕ → Effect
state_effect k t = gives (two_words (thread_of k t).state (held_at k t).status) []

-- rule 6.8: call 39 reads a thread's held words
unfoldable pub words_effect : Kernel → ℕ → Effect
words_effect k t = gives (held_words (held_at k t)) []
