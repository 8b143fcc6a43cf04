-- First come, first served, counted (rules 13.1 to 13.4). The roll is kept from the calls and their statuses alone.
use Rattle.std.specs.Prelude.{if◌then◌else◌, ◌≡◌, List, [], ◌∷◌, ◌++◌, Bool, true, false, ◌&&◌, ◌||◌, not, ℕ, ◌+◌, ◌-◌, ◌<◌, ◌≤◌, length, eqb, ltb}
use Rattle.lines.specs.Logic.{one_if}
use Rattle.lines.specs.Lists.{filter, only_if, count, less, Begins}
use Rattle.scheduler.specs.Threads.{ready, suspended, terminated, finishedb}
use Rattle.scheduler.specs.Orders.{line_at}
use Rattle.calls.specs.Services.{thread_terminate, thread_wait_abort, tick}
use Rattle.calls.specs.Held.{no_words, no_held, held_words}
use Rattle.calls.specs.Statuses as Statuses
use Rattle.waiting.specs.Ticks.{forever}
use Rattle.kernel.specs.declared.Kernel.{Kernel}
use Rattle.kernel.specs.declared.Answer.{Answer}
use Rattle.kernel.specs.Tables.{thread_of, held_at, runner_of}
use Rattle.kernel.specs.Sound.{Sound}
use Rattle.kernel.specs.Kinds.{Kind, place_of}
use Rattle.kernel.specs.Kinds.Kind.{semaphore, queue, group, pool}
use Rattle.calls.specs.Callers.{one_of}
use Rattle.kernel.specs.Roles.{row_of}
use Rattle.kernel.specs.Uses.{rolledb, given_words}
use Rattle.claims.specs.Lists.{Made, answer, next, after}

-- ---- the object, by its kind and number: which calls are its own is in the table of roles
-- rule 13.2: a call on object n whose number is in a column of its kind's row
unfoldable pub onb : ℕ → Made → List ℕ → Bool
onb n m calls = eqb m.request.a n && one_of m.request.number calls

-- rule 13.2: a call that gives to the object: 19 or 20, 24 or 25, 36
unfoldable pub givesb : Kind → ℕ → Made → Bool
givesb d n m = onb n m (row_of d).gives

-- rule 13.4: a get, receive or allocate there
unfoldable pub takesb : Kind → ℕ → Made → Bool
takesb d n m = onb n m (row_of d).takes

-- rule 13.3: a prioritise or delete of the object
unfoldable pub prioritises_or_deletesb : Kind → ℕ → Made → Bool
prioritises_or_deletesb d n m = onb n m (row_of d).prioritises || onb n m (row_of d).deletes

-- rule 13.2: the call answers 0x00; only such a call counts
unfoldable pub succeedsb : Answer → Bool
succeedsb x = eqb x.status Statuses.success

-- rule 13.4: the call answers 0x101: its caller, the running thread, begins to wait
unfoldable pub begins_waitb : Answer → Bool
begins_waitb x = eqb x.status Statuses.waiting

-- rule 4.8: the object's line: those who wait on it, in order
abbrev pub waiters_of : Kind → ℕ → Kernel → List ℕ
waiters_of d n k = line_at k.scheduler (place_of d n)

-- ---- the roll
-- rule 13.1: a member of the roll, with its ticks left
pub record Entry : Type 0 where
  pub thread : ℕ
  pub ticks : ℕ

-- the threads on a roll, in order
unfoldable pub names : List Entry → List ℕ
names [] = []
names (e ∷ es) = e.thread ∷ names es

-- rule 13.1: a list of threads as a roll, each with the ticks that it has left
unfoldable pub roll_of : Kernel → List ℕ → List Entry
roll_of k [] = []
roll_of k (t ∷ ts) = record { thread = t; ticks = (thread_of k t).ticks } ∷ roll_of k ts

-- each member by a function, which strikes it off or leaves it
unfoldable pub each : (Entry → List Entry) → List Entry → List Entry
each f [] = []
each f (e ∷ es) = f e ++ each f es

-- rule 13.2: the first is struck off as served
unfoldable pub rest : List Entry → List Entry
rest [] = []
rest (e ∷ es) = es

-- rule 13.2: terminate and abort strike off the thread that they name
unfoldable pub unnamed : ℕ → Entry → List Entry
unnamed t e = if eqb e.thread t then [] else e ∷ []

-- rule 13.2: a tick takes one from each timed member, and strikes off those with none left
unfoldable pub ticked : Entry → List Entry
ticked e =
    if eqb e.ticks forever then e ∷ []
    else if eqb (e.ticks - 1) 0 then []
    else record { thread = e.thread; ticks = e.ticks - 1 } ∷ []

-- rule 13.2: the roll after a call that is done; no other call changes it
unfoldable pub strike_out : Kind → ℕ → Made → List Entry → List Entry
strike_out d n m r =
    if givesb d n m then rest r
    else if eqb m.request.number thread_terminate || eqb m.request.number thread_wait_abort then each (unnamed m.request.a) r
    else if eqb m.request.number tick then each ticked r
    else r

-- rule 13.2: the roll after a call with an answer
unfoldable pub rolled : Kind → ℕ → Made → Answer → List Entry → List Entry
rolled d n m x r = if succeedsb x then strike_out d n m r else r

-- rule 13.2: the roll after a list of calls
unfoldable pub roll_after : Kind → ℕ → Kernel → List Entry → List Made → List Entry
roll_after d n k r [] = r
roll_after d n k r (m ∷ ms) = roll_after d n (next k m) (rolled d n m (answer k m) r) ms

-- rule 13.3: the wait lasts until the thread is struck off the roll
unfoldable pub lastsb : ℕ → List Entry → Bool
lastsb t r = ltb 0 (count t (names r))

-- ---- the wait
-- rule 13.1: thread t waits on object n of a kind whose takers are served one by one (a semaphore, a queue, a pool), at a queue as
-- receiver; those before it in line are the list `ahead`
pub record Waits (k : Kernel) (d : Kind) (n : ℕ) (ahead : List ℕ) (t : ℕ) : Type 0 where
  pub object : rolledb d ≡ true
  pub line : Begins (ahead ++ (t ∷ [])) (line_at k.scheduler (place_of d n))
  pub receives : d ≡ queue → (held_at k t).sending ≡ false

-- rule 13.1: the roll at the start
abbrev pub start_roll : Kernel → List ℕ → ℕ → List Entry
start_roll k ahead t = roll_of k (ahead ++ (t ∷ []))

-- rule 13.3: no prioritise or delete of the object is done in a list of calls
abbrev pub NoPrioritiseOrDelete : Kind → ℕ → Kernel → List Made → Type 0
NoPrioritiseOrDelete d n k [] = Unit {0}
NoPrioritiseOrDelete d n k (m ∷ ms) =
    ((prioritises_or_deletesb d n m && succeedsb (answer k m)) ≡ false) × NoPrioritiseOrDelete d n (next k m) ms

-- ---- how a member leaves
-- rules 5.4, 5.6: from tables k to tables x the wait of thread u on the object is over, with a status s and words ws: it stands in the line
-- no more, is ready, or suspended where a suspension was held for it, and holds them
pub record Ends (d : Kind) (n u : ℕ) (k x : Kernel) (s : ℕ) (ws : List ℕ) : Type 0 where
  pub gone : count u (waiters_of d n x) ≡ 0
  pub state : (thread_of x u).state ≡ (if (thread_of k u).suspending then suspended else ready)
  pub status : (held_at x u).status ≡ s
  pub words : held_words (held_at x u) ≡ ws

-- rule 6.4: the thread is terminated: it stands in the line no more, and holds nothing
pub record Stops (d : Kind) (n u : ℕ) (x : Kernel) : Type 0 where
  pub gone : count u (waiters_of d n x) ≡ 0
  pub state : (thread_of x u).state ≡ terminated
  pub held : held_at x u ≡ no_held

-- rule 5.5: the status of a wait to take that times out there: that of a call that finds nothing and does not wait
abbrev pub nothing_there : Kind → ℕ
nothing_there semaphore = Statuses.no_instance
nothing_there queue = Statuses.queue_empty
nothing_there group = Statuses.no_events
nothing_there pool = Statuses.no_memory

-- rules 5.4, 13.2: how thread u leaves by a call that strikes it off and leads from tables k to tables x
pub data Left (d : Kind) (n u : ℕ) (k x : Kernel) (m : Made) : Type 0 where
  -- as served, by a call that gives to the object: it holds 0x00 and what was given
  served : givesb d n m ≡ true → Ends d n u k x Statuses.success (given_words d k n m.request.b m.request.c m.messages)
      → Left d n u k x m
  -- by a wait abort that names it: 0x1A
  aborted : m.request.number ≡ thread_wait_abort → m.request.a ≡ u → Ends d n u k x Statuses.wait_aborted no_words → Left d n u k x m
  -- by the tick that is its last
  timed_out : m.request.number ≡ tick → Ends d n u k x (nothing_there d) no_words → Left d n u k x m
  -- by a terminate that names it
  stopped : m.request.number ≡ thread_terminate → m.request.a ≡ u → Stops d n u x → Left d n u k x m

-- ---- after one call, on tables k with roll r
-- rule 13.3: the object's line begins with the roll, and whomever the call struck off has left
pub record Kept (d : Kind) (n : ℕ) (k : Kernel) (r : List Entry) (m : Made) : Type 0 where
  pub begins : Begins (names (rolled d n m (answer k m) r)) (waiters_of d n (next k m))
  pub left : (u : ℕ) → 0 < count u (names r) → count u (names (rolled d n m (answer k m) r)) ≡ 0 → Left d n u k (next k m) m

-- ---- those ahead
-- rule 13.3: whom a call strikes off the roll
unfoldable pub struck_off : Kind → ℕ → Made → Answer → List Entry → List ℕ
struck_off d n m x r = filter (λ u. eqb (count u (names (rolled d n m x r))) 0) (names r)

-- rule 13.3: who has left by a list of calls: all whom its calls struck off
unfoldable pub left_by : Kind → ℕ → Kernel → List Entry → List Made → List ℕ
left_by d n k r [] = []
left_by d n k r (m ∷ ms) = struck_off d n m (answer k m) r ++ left_by d n (next k m) (rolled d n m (answer k m) r) ms

-- rule 13.3: those before thread t in a line
unfoldable pub ahead_of : ℕ → List ℕ → List ℕ
ahead_of t [] = []
ahead_of t (u ∷ us) = if eqb u t then [] else u ∷ ahead_of t us

-- ---- counting
-- rule 13.4: how many giving calls on the object are done in a list of calls
unfoldable pub gave : Kind → ℕ → Kernel → List Made → ℕ
gave d n k [] = 0
gave d n k (m ∷ ms) = one_if (givesb d n m && succeedsb (answer k m)) + gave d n (next k m) ms

-- rule 13.6: a thread that waited is served: it holds 0x00 and is not finished, since terminate clears what a thread holds
unfoldable pub servedb : Kernel → ℕ → Bool
servedb x t = eqb (held_at x t).status Statuses.success && not (finishedb (thread_of x t))

-- rule 13.4: the latecomers after a call: those before it, and the caller of a get, receive or allocate there that begins to wait, as far as
-- they still stand in the line
unfoldable pub late_after : Kind → ℕ → Kernel → List ℕ → Made → List ℕ
late_after d n k late m =
    filter (λ u. ltb 0 (count u (waiters_of d n (next k m)))) (late ++ only_if (takesb d n m && begins_waitb (answer k m)) (runner_of k))

-- rule 13.4: how many gets, receives and allocates made there in a list of calls are served, at once, or later by whatever call where the
-- caller waited; those who came before and are counted too are the list `late`
unfoldable pub served_late : Kind → ℕ → Kernel → List ℕ → List Made → ℕ
served_late d n k late [] = 0
served_late d n k late (m ∷ ms) =
    one_if (takesb d n m && succeedsb (answer k m)) + length (filter (servedb (next k m)) late)
    + served_late d n (next k m) (late_after d n k late m) ms

-- rule 13.4: nobody on the roll times out, is aborted or terminated: only giving calls strike off
abbrev pub Undisturbed : Kind → ℕ → Kernel → List Entry → List Made → Type 0
Undisturbed d n k r [] = Unit {0}
Undisturbed d n k r (m ∷ ms) =
    (givesb d n m ≡ false → names (rolled d n m (answer k m) r) ≡ names r) × Undisturbed d n (next k m) (rolled d n m (answer k m) r) ms

-- rule 13.4: in a list of calls there is one, not behind the giving call after the first j, after which thread t stands in the line no more and
-- waits no more
pub record Over (d : Kind) (n t j : ℕ) (k : Kernel) (ms : List Made) : Type 0 where
  pub before : List Made
  pub call : Made
  pub rest : List Made
  pub among : ms ≡ before ++ (call ∷ rest)
  pub by : gave d n k before ≤ j
  pub gone : count t (waiters_of d n (next (after k before) call)) ≡ 0
  pub status : (held_at (next (after k before) call) t).status ≡ Statuses.waiting → ⊥

-- ---- the claim
-- rules 13.3, 13.4: what holds of thread t, which waits behind those in the list `ahead`, and a list of calls ms; its wait lasts after the calls
-- `before` where it is still on the roll
pub record Claim (k : Kernel) (d : Kind) (n : ℕ) (ahead : List ℕ) (t : ℕ) (ms : List Made) : Type 0 where
  -- rule 13.3: after each call up to and including the one that strikes the thread off, the line begins with the roll, and who was struck
  -- off has left
  pub kept : (before : List Made) (m : Made) (rest : List Made) → ms ≡ before ++ (m ∷ rest)
      → lastsb t (roll_after d n k (start_roll k ahead t) before) ≡ true
      → Kept d n (after k before) (roll_after d n k (start_roll k ahead t) before) m
  -- rule 13.3: as long as the wait lasts, those ahead are those who were, less those who have left, in their old order
  pub order : (before rest : List Made) → ms ≡ before ++ rest → lastsb t (roll_after d n k (start_roll k ahead t) before) ≡ true
      → ahead_of t (waiters_of d n (after k before)) ≡ less (left_by d n k (start_roll k ahead t) before) ahead
  -- rule 13.4: up to and including the call that strikes the thread off, nobody is served who made a get, receive or allocate there
  pub none_served : (before : List Made) (m : Made) (rest : List Made) → ms ≡ before ++ (m ∷ rest)
      → lastsb t (roll_after d n k (start_roll k ahead t) before) ≡ true → served_late d n k [] (before ++ (m ∷ [])) ≡ 0
  -- rule 13.4: the wait is over by the giving call after the first k
  pub over : length ahead < gave d n k ms → Over d n t (length ahead) k ms
  -- rule 13.4: where nobody on the roll leaves without being served, exactly that call serves the thread
  pub served : (before : List Made) (m : Made) (rest : List Made) → ms ≡ before ++ (m ∷ rest)
      → Undisturbed d n k (start_roll k ahead t) before → gave d n k before ≡ length ahead
      → givesb d n m ≡ true → succeedsb (answer (after k before) m) ≡ true
      → (lastsb t (roll_after d n k (start_roll k ahead t) before) ≡ true)
      × Ends d n t (after k before) (next (after k before) m) Statuses.success
      (given_words d (after k before) n m.request.b m.request.c m.messages)

-- rules 13.1 to 13.4: first come, first served, counted: from any sound tables in which a thread waits behind others, for every list of
-- calls, by any callers and with any arguments and message words, in which no prioritise or delete of the object is done
abbrev pub FirstComeFirstServed : Type 0
FirstComeFirstServed =
    (k : Kernel) → Sound k → (d : Kind) (n : ℕ) (ahead : List ℕ) (t : ℕ) → Waits k d n ahead t
    → (ms : List Made) → NoPrioritiseOrDelete d n k ms → Claim k d n ahead t ms
