-- A thread's record for scheduling, its states, and the place where it stands.
use Rattle.std.specs.Prelude.{if◌then◌else◌, Bool, true, false, ◌&&◌, ◌||◌, ℕ, eqb, ltb}
use Rattle.scheduler.specs.declared.thread.Thread.{Thread}
use Rattle.scheduler.specs.declared.thread.Place.{Place}

-- ---- the states and their numbers
-- rule 1.3: ready
abbrev pub ready : ℕ
ready = 0

-- rule 1.3: completed
abbrev pub completed : ℕ
completed = 1

-- rule 1.3: terminated
abbrev pub terminated : ℕ
terminated = 2

-- rule 1.3: suspended
abbrev pub suspended : ℕ
suspended = 3

-- rule 1.3: asleep
abbrev pub asleep : ℕ
asleep = 4

-- rule 1.3: waits on a queue
abbrev pub on_queue : ℕ
on_queue = 5

-- rule 1.3: waits on a semaphore
abbrev pub on_semaphore : ℕ
on_semaphore = 6

-- rule 1.3: waits on flags
abbrev pub on_flags : ℕ
on_flags = 7

-- rule 1.3: waits on a block
abbrev pub on_block : ℕ
on_block = 8

-- rules 1.5, 6.1: the record of a thread that is not created, which is also read past the table: all zero
unfoldable pub uncreated : Thread
uncreated = record { created = false; state = 0; priority = 0; threshold = 0; marked = false; suspending = false; object = 0; ticks = 0 }

-- ---- tests
-- created and ready
unfoldable pub readyb : Thread → Bool
readyb th = th.created && eqb th.state ready

-- created and asleep
unfoldable pub sleepsb : Thread → Bool
sleepsb th = th.created && eqb th.state asleep

-- created and waiting on an object
unfoldable pub waitsb : Thread → Bool
waitsb th = th.created && ltb asleep th.state

-- a waiter or a sleeper
unfoldable pub pausedb : Thread → Bool
pausedb th = waitsb th || sleepsb th

-- completed, terminated or suspended
unfoldable pub restsb : Thread → Bool
restsb th = th.created && ltb ready th.state && ltb th.state asleep

-- rule 3.9: completed or terminated
abbrev pub finishedb : Thread → Bool
finishedb th = eqb th.state completed || eqb th.state terminated

-- ready and marked
unfoldable pub markedb : Thread → Bool
markedb th = readyb th && th.marked

-- ---- places
-- rule 4.8: a thread stands in an order if it is ready or waits on an object
unfoldable pub standsb : Thread → Bool
standsb th = readyb th || waitsb th

-- rule 4.8: the number beside the state that tells the orders of that state apart: a ready thread's priority, a waiter's object
unfoldable pub number_of : Thread → ℕ
number_of th = if eqb th.state ready then th.priority else th.object

-- rule 4.8: the thread stands in the order of place p: the ready threads of a priority, or the waiters of an object
unfoldable pub placedb : Place → Thread → Bool
placedb p th = standsb th && eqb th.state p.state && eqb (number_of th) p.number

-- rule 4.8: the place of the ready threads of a priority
abbrev pub ready_at : ℕ → Place
ready_at p = record { state = ready; number = p }

-- rule 4.8: the place of those who wait on an object, whose kind the state says
abbrev pub waiters_at : ℕ → ℕ → Place
waiters_at state n = record { state = state; number = n }

-- ---- records of a thread in another state
-- rule 4.5: another state, object and ticks; priority and threshold stay, mark and held suspension end
unfoldable pub in_state : ℕ → ℕ → ℕ → Thread → Thread
in_state state object ticks th =
    record {
      created = th.created;
      state = state;
      priority = th.priority;
      threshold = th.threshold;
      marked = false;
      suspending = false;
      object = object;
      ticks = ticks;
    }

-- a state in which a thread neither waits nor sleeps: no object, no ticks
abbrev pub at_rest : ℕ → Thread → Thread
at_rest state = in_state state 0 0

-- rule 5.6: a wait or sleep has ended: suspended where a suspension was held, else ready
unfoldable pub awake : Thread → Thread
awake th = at_rest (if th.suspending then suspended else ready) th

-- rules 6.2, 6.3: a suspension held, or lifted
unfoldable pub with_suspension : Bool → Thread → Thread
with_suspension b th =
    record {
      created = th.created;
      state = th.state;
      priority = th.priority;
      threshold = th.threshold;
      marked = th.marked;
      suspending = b;
      object = th.object;
      ticks = th.ticks;
    }

-- rule 6.1: the record of a thread that has just been created, in a state, with a priority and a threshold
unfoldable pub created : ℕ → ℕ → ℕ → Thread
created state priority threshold =
    record {
      created = true;
      state = state;
      priority = priority;
      threshold = threshold;
      marked = false;
      suspending = false;
      object = 0;
      ticks = 0;
    }
