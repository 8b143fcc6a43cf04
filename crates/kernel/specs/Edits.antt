-- What a call does to the tables, as a list of edits, each with its cause.
use Rattle.std.specs.Prelude.{if◌then◌else◌, ◌≡◌, List, [], ◌∷◌, ◌++◌, Bool, true, false, ◌&&◌, ℕ, eqb}
use Rattle.lines.specs.Lists.{without, only_if, prioritised}
use Rattle.scheduler.specs.declared.thread.Thread.{Thread}
use Rattle.scheduler.specs.declared.thread.Place.{Place}
use Rattle.scheduler.specs.Threads.{terminated, placedb, awake, in_state, at_rest}
use Rattle.scheduler.specs.Orders.{priority_at, joined, with_thread, prioritised_at}
use Rattle.scheduler.specs.Choice.{rescheduled}
use Rattle.calls.specs.declared.held.Held.{Held}
use Rattle.calls.specs.Held.{no_held, holding}
use Rattle.calls.specs.Statuses as Statuses
use Rattle.waiting.specs.Ticks.{timeout_status, one_tick_less}
use Rattle.kernel.specs.declared.Kernel.{Kernel}
use Rattle.kernel.specs.Tables.{thread_of, held_at, with_scheduler, with_held, with_clock}
use Rattle.kernel.specs.Answers.{Outcome, refused}
use Rattle.kernel.specs.Kinds.{Kind, Object, place_of, with_object}

-- rule 5.4: why a wait ends: its object serves it, its object is deleted, its last tick has passed, it is aborted
pub data Cause : Type 0 where
  served : Kind → ℕ → Cause
  deleted : Kind → ℕ → Cause
  timed_out : Cause
  aborted : Cause

-- rule 5.4: the status that the thread then holds
unfoldable pub status_by : Cause → Thread → Held → ℕ
status_by (served d n) th h = Statuses.success
status_by (deleted d n) th h = Statuses.deleted
status_by timed_out th h = timeout_status th h
status_by aborted th h = Statuses.wait_aborted

-- rule 5.4: whoever has its wait ended for that cause holds this status
abbrev pub Holds : Cause → ℕ → Type 0
Holds c status = (th : Thread) (h : Held) → status_by c th h ≡ status

-- rule 2.10: how a thread changes that leaves its order and joins another, or none
pub data Move : Type 0 where
  -- its wait ends, and it holds the cause's status and words
  ends : Cause → List ℕ → Move
  -- it begins to wait or sleep, at the end of its line or at the front: state, object, ticks, and what it holds
  starts : Bool → ℕ → ℕ → ℕ → Held → Move
  -- it is terminated: a wait, if any, ends with no status
  stops : Move
  -- it does not wait, before or after: another record and something else held
  turns : (Thread → Thread) → (Held → Held) → Move

-- rule 5.6: the record that the thread then has; where a wait ends it is awake, which is ready or suspended
unfoldable pub record_by : Move → Thread → Thread
record_by (ends c words) th = awake th
record_by (starts front state object ticks h) th = in_state state object ticks th
record_by stops th = at_rest terminated th
record_by (turns f g) th = f th

-- rule 5.4: what it then holds
unfoldable pub held_by : Move → Thread → Held → Held
held_by (ends c words) th h = holding (status_by c th h) words
held_by (starts front state object ticks new) th h = new
held_by stops th h = no_held
held_by (turns f g) th h = g h

-- rule 5.2: it joins at the front
unfoldable pub frontb : Move → Bool
frontb (ends c words) = false
frontb (starts front state object ticks h) = front
frontb stops = false
frontb (turns f g) = false

-- rule 2.10: what a call may do to the tables, piece by piece
pub data Edit : Type 0 where
  -- thread t leaves its order and joins the one that its new record puts it in
  moves : ℕ → Move → Edit
  -- thread t gets another record and stays where it stands
  alters : ℕ → (Thread → Thread) → Edit
  -- the timed wait of thread t has one tick less
  counts : ℕ → Edit
  -- the first of the best priority goes to the front of an object's line
  ranks : Kind → ℕ → Edit
  -- an object gets another record
  stores : (d : Kind) → ℕ → Object d → Edit
  -- another clock
  sets : ℕ → Edit

-- rules 2.10, 5.7: the tables after an edit; only a move changes what a thread holds
unfoldable pub edited : Kernel → Edit → Kernel
edited k (moves t m) =
    with_held (with_scheduler k (joined k.scheduler (frontb m) t (record_by m (thread_of k t)))) t (held_by m (thread_of k t) (held_at k t))
edited k (alters t f) = with_scheduler k (with_thread k.scheduler t (f (thread_of k t)))
edited k (counts t) = with_scheduler k (with_thread k.scheduler t (one_tick_less (thread_of k t)))
edited k (ranks d n) = with_scheduler k (prioritised_at k.scheduler (place_of d n))
edited k (stores d n x) = with_object d k n x
edited k (sets c) = with_clock k c

-- rule 2.10: the tables after all edits, in order
unfoldable pub applied : Kernel → List Edit → Kernel
applied k [] = k
applied k (e ∷ es) = applied (edited k e) es

-- what each edit names, in order
unfoldable pub gathered : (Edit → List ℕ) → List Edit → List ℕ
gathered f [] = []
gathered f (e ∷ es) = f e ++ gathered f es

-- rules 2.8, 2.10: who moves in some way by one edit, if anybody
abbrev pub mover : (Move → Bool) → Edit → List ℕ
mover c (moves t m) = only_if (c m) t
mover c (alters t f) = []
mover c (counts t) = []
mover c (ranks d n) = []
mover c (stores d n x) = []
mover c (sets n) = []

-- rules 2.8, 2.10: all who move in some way, in order
abbrev pub movers : (Move → Bool) → List Edit → List ℕ
movers c es = gathered (mover c) es

-- rule 2.10: any move counts
abbrev pub anyb : Move → Bool
anyb m = true

-- whose timed wait one edit takes a tick from, if anybody
abbrev pub counted_by : Edit → List ℕ
counted_by (moves t m) = []
counted_by (alters t f) = []
counted_by (counts t) = t ∷ []
counted_by (ranks d n) = []
counted_by (stores d n x) = []
counted_by (sets n) = []

-- all from whose timed waits a tick is taken
abbrev pub counted : List Edit → List ℕ
counted es = gathered counted_by es

-- rule 2.8: a wait ends with a status, so it is counted; the wait of a thread that is terminated does not
unfoldable pub endsb : Move → Bool
endsb (ends c words) = true
endsb (starts front state object ticks h) = false
endsb stops = false
endsb (turns f g) = false

-- a wait or sleep begins
unfoldable pub startsb : Move → Bool
startsb (ends c words) = false
startsb (starts front state object ticks h) = true
startsb stops = false
startsb (turns f g) = false

-- two places are the same
abbrev pub sameb : Place → Place → Bool
sameb p q = eqb p.state q.state && eqb p.number q.number

-- it may take a waiter out of the line of p; one that ends for another object does not
unfoldable pub leavesb : Place → Move → Bool
leavesb p (ends (served d n) words) = sameb p (place_of d n)
leavesb p (ends (deleted d n) words) = sameb p (place_of d n)
leavesb p (ends timed_out words) = true
leavesb p (ends aborted words) = true
leavesb p (starts front state object ticks h) = false
leavesb p stops = true
leavesb p (turns f g) = false

-- rule 2.10: the line of a place after an edit
unfoldable pub line_by : Kernel → Edit → Place → List ℕ → List ℕ
line_by k (moves t m) p l =
    if frontb m
    then only_if (placedb p (record_by m (thread_of k t))) t ++ without t l
    else without t l ++ only_if (placedb p (record_by m (thread_of k t))) t
line_by k (alters t f) p l = l
line_by k (counts t) p l = l
line_by k (ranks d n) p l = if sameb p (place_of d n) then prioritised (priority_at k.scheduler) l else l
line_by k (stores d n x) p l = l
line_by k (sets c) p l = l

-- rule 2.10: the line of a place after all edits
unfoldable pub lines_by : Kernel → List Edit → Place → List ℕ → List ℕ
lines_by k [] p l = l
lines_by k (e ∷ es) p l = lines_by (edited k e) es p (line_by k e p l)

-- ---- a call that is carried out
-- rule 2.3: how it succeeds: with 0x00, with 0x19 or with 0x101
pub data Success : Type 0 where
  done : Success
  lifted : Success
  waits : Success

-- rule 2.3: its status
unfoldable pub status_of : Success → ℕ
status_of done = Statuses.success
status_of lifted = Statuses.suspend_lifted
status_of waits = Statuses.waiting

-- rule 2.10: how a call succeeds, its words, whether the runner relinquishes, and its edits
pub record Effect : Type 0 where
  pub success : Success
  pub words : List ℕ
  pub relinquishes : Bool
  pub edits : List Edit

-- rules 2.7, 2.8, 2.10, 4.7: the edits, then the choice of the next thread, once; and the threads whose waits ended
unfoldable pub carried_out : Kernel → Effect → Outcome
carried_out k e =
    record {
      status = status_of e.success;
      words = e.words;
      ended = movers endsb e.edits;
      kernel = with_scheduler (applied k e.edits) (rescheduled (applied k e.edits).scheduler e.relinquishes);
    }

-- rules 2.7, 3.13: refused for the first reason that holds, otherwise carried out; 0 stands for no reason
unfoldable pub guarded : Kernel → ℕ → Effect → Outcome
guarded k reason e = if eqb reason 0 then carried_out k e else refused k reason
