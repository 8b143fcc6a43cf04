-- What is asked of an edit, and that tables which are sound but for the runner stay so by every edit of which it holds.
use mathlib.Core.Path.{◌≡◌, refl, sym, ap, ◌∙◌, subst}
use mathlib.Core.List.{List, [], ◌∷◌}
use mathlib.Core.Bool.{Bool, true, false, ◌&&◌, not, and-false}
use Prim.Native.Nat.{ℕ, ◌<◌, ◌-◌}
use Prim.{Unit, tt}
use native.Mathlib.Omega.{arith}
use lib.ListN.{length, length-set}
use lib.Seq.{get_or-set_same, get_or-set_other}
use lib.Dec.{eqb, ltb}
use borrow.Author.Tests.{eqb-true, eqb-false, lt-ltb, ltb-true, ltb-false, ne_eqb}
use Rattle.std.specs.Prelude.{if◌then◌else◌}
use Rattle.lines.specs.Logic.{one_if, implies}
use Rattle.lines.specs.Lists.{count}
use Rattle.lines.proofs.Laws.Logic.{by_test, by_eq, by_choice, never, and_left, and_right, and_in, or_left, implies_in}
use Rattle.scheduler.specs.declared.thread.Thread.{Thread}
use Rattle.scheduler.specs.declared.thread.Place.{Place}
use Rattle.scheduler.specs.declared.Scheduler.{Scheduler}
use Rattle.scheduler.specs.Threads.{readyb, sleepsb, waitsb, pausedb, standsb, placedb, number_of, awake, in_state, at_rest}
use Rattle.scheduler.specs.Orders.{thread_at, joined, with_thread, with_order, prioritised_at, line_at}
use Rattle.scheduler.specs.Choice.{with_mark, rescheduled}
use Rattle.scheduler.specs.Sound.{limitsb, mark_fitb, suspension_fitb, ticks_fitb, object_fitb, fitb, Steady}
use Rattle.scheduler.proofs.Laws.Threads.{fit_parts, fit_from}
use Rattle.scheduler.proofs.Laws.Orders
use Rattle.scheduler.proofs.Laws.Choosing
use Rattle.scheduler.proofs.Laws.States
use Rattle.calls.specs.declared.held.Held.{Held}
use Rattle.calls.specs.Held.{no_words, no_held}
use Rattle.calls.specs.Statuses as Statuses
use Rattle.waiting.specs.Ticks.{timedb, timeout_status, with_ticks, one_tick_less, at_zerob, last_tickb}
use Rattle.waiting.specs.Fit.{waits_onb, sendsb, status_fitb, words_fitb, sender_fitb, request_fitb, unheld_fitb, held_fitb}
use Rattle.waiting.proofs.Laws.Ticks.{last_is}
use Rattle.kernel.specs.Kinds as Kinds
use Rattle.waiting.proofs.Laws.Held
use Rattle.kernel.specs.declared.Kernel.{Kernel}
use Rattle.kernel.specs.Tables.{thread_of, held_at, with_scheduler, with_held, with_clock}
use Rattle.kernel.specs.Kinds.{Kind, Object, size_of, state_on, place_of, table_of, with_object}
use Rattle.kernel.specs.Sound.{MayWait, Fit}
use Rattle.kernel.specs.Edits.{Cause, status_by, Move, record_by, held_by, frontb, Edit, edited, applied, startsb}
use Rattle.kernel.specs.Edits.Cause.{served, deleted, timed_out, aborted}
use Rattle.kernel.specs.Edits.Move.{ends, starts, stops, turns}
use Rattle.kernel.specs.Edits.Edit.{moves, alters, counts, ranks, stores, sets}
use Rattle.kernel.proofs.Laws.Objects

-- ---- what an edit asks of the tables before it
-- what a thread's record was, by the way in which it moves
abbrev pub Was : Move → Thread → Type 0
Was (ends (served d n) words) th = placedb (place_of d n) th ≡ true
Was (ends (deleted d n) words) th = placedb (place_of d n) th ≡ true
Was (ends timed_out words) th = last_tickb th ≡ true
Was (ends aborted words) th = pausedb th ≡ true
Was (starts front state object ticks h) th = pausedb th ≡ false
Was stops th = Unit {0}
Was (turns f g) th = pausedb th ≡ false

-- words come only with a wait that is served
abbrev pub Blank : Cause → List ℕ → Type 0
Blank (served d n) words = Unit {0}
Blank (deleted d n) words = words ≡ no_words
Blank timed_out words = words ≡ no_words
Blank aborted words = words ≡ no_words

pub blank_none : (c : Cause) → Blank c no_words
blank_none (served d n) = tt
blank_none (deleted d n) = refl
blank_none timed_out = refl
blank_none aborted = refl

abbrev pub BlankMove : Move → Type 0
BlankMove (ends c words) = Blank c words
BlankMove (starts front state object ticks h) = Unit {0}
BlankMove stops = Unit {0}
BlankMove (turns f g) = Unit {0}

pub record Moved (k : Kernel) (t : ℕ) (m : Move) : Type 0 where
  pub small : t < 32
  pub fit : fitb (record_by m (thread_of k t)) ≡ true
  pub was : Was m (thread_of k t)
  pub is : pausedb (record_by m (thread_of k t)) ≡ startsb m
  pub blank : BlankMove m

-- what the tests of soundness read of a thread's record besides its fitness: created, state and object
unfoldable pub seen : Thread → Thread
seen th = record { created = th.created; state = th.state; priority = 0; threshold = 0; marked = false; suspending = false; object = th.object; ticks = 0 }

-- what a call keeps of a waiter's record that it does not alter: its levels, and a suspension that it holds
unfoldable pub levels : Thread → Thread
levels th = record { created = false; state = 0; priority = th.priority; threshold = th.threshold; marked = false; suspending = th.suspending; object = 0; ticks = 0 }

-- a record that changes where the thread stands
pub record Altered (k : Kernel) (t : ℕ) (th : Thread) : Type 0 where
  pub small : t < 32
  pub fit : fitb th ≡ true
  pub stands : standsb th ≡ standsb (thread_of k t)
  pub placed : (p : Place) → placedb p th ≡ placedb p (thread_of k t)
  pub seen : seen th ≡ seen (thread_of k t)

abbrev pub Requires : Kernel → Edit → Type 0
Requires k (moves t m) = Moved k t m
Requires k (alters t f) = Altered k t (f (thread_of k t)) × ((f (thread_of k t)).ticks ≡ (thread_of k t).ticks)
Requires k (counts t) = (timedb (thread_of k t) ≡ true) × (last_tickb (thread_of k t) ≡ false)
Requires k (ranks d n) = Unit {0}
Requires k (stores d n x) = Unit {0}
Requires k (sets c) = Unit {0}

abbrev pub RequiresAll : Kernel → List Edit → Type 0
RequiresAll k [] = Unit {0}
RequiresAll k (e ∷ es) = Requires k e × RequiresAll (edited k e) es

-- ---- timed waits
module _ (th : Thread) (timed : timedb th ≡ true) where
  pub timed_paused : pausedb th ≡ true
  unfolding timedb
  timed_paused = and_left (pausedb th) (not (eqb th.ticks 0xFFFFFFFF)) timed

  pub timed-made : th.created ≡ true
  timed-made = States.paused-made th timed_paused

  -- with another number of ticks
  fit-ticks : fitb th ≡ true → (n : ℕ) → 0 < n → fitb (with_ticks n th) ≡ true
  unfolding with_ticks limitsb mark_fitb suspension_fitb ticks_fitb object_fitb pausedb waitsb sleepsb readyb
  fit-ticks fit n pos =
      let p = fit_parts th timed-made fit in
      fit_from (with_ticks n th) timed-made p.0 p.1 p.2
      (and_in (implies (pausedb th) (ltb 0 n)) _ (implies_in (pausedb th) (ltb 0 n) (λ e. lt-ltb 0 n pos)) (or_left (pausedb th) (eqb n 0) timed_paused))
      p.4

pub last_timed : (th : Thread) → last_tickb th ≡ true → timedb th ≡ true
unfolding last_tickb
last_timed th e = and_left (timedb th) (at_zerob (one_tick_less th)) e

pub ticks_left : (th : Thread) → timedb th ≡ true → last_tickb th ≡ false → 1 < th.ticks
ticks_left th t e =
    let z = eqb-false (th.ticks - 1) 0 (sym (ap (λ (b : Bool). b && eqb (th.ticks - 1) 0) t) ∙ sym (last_is th) ∙ e) in
    by_test (ltb 1 th.ticks) (λ l. ltb-true 1 th.ticks l) (λ l. absurd (z (let h = ltb-false 1 th.ticks l in omega (arith, h))))

-- one tick less is a record that changes where the thread stands
pub one_less_lem : (k : Kernel) → Steady k.scheduler → (t : ℕ) → timedb (thread_of k t) ≡ true → last_tickb (thread_of k t) ≡ false → Altered k t (with_ticks ((thread_of k t).ticks - 1) (thread_of k t))
unfolding seen with_ticks standsb readyb waitsb placedb number_of
one_less_lem k S t timed last =
    let small = States.created_small k.scheduler S t (timed-made (thread_of k t) timed) in
    record {
      small = small;
      fit = fit-ticks (thread_of k t) timed (S.fit t small) ((thread_of k t).ticks - 1) (let l = ticks_left (thread_of k t) timed last in omega (arith, l));
      stands = refl;
      placed = λ p. refl;
      seen = refl;
    }

-- ---- the scheduler stays steady
steady-joined : (s : Scheduler) → Steady s → (front : Bool) (t : ℕ) (th : Thread) → t < 32 → fitb th ≡ true → Steady (joined s front t th)
unfolding joined
steady-joined s S true t th small f = Orders.front_steady_lem s S t th small f
steady-joined s S false t th small f = Orders.moved_steady_lem s S t th small f

pub joined_self : (s : Scheduler) → Steady s → (front : Bool) (t : ℕ) (th : Thread) → t < 32 → thread_at (joined s front t th) t ≡ th
unfolding joined
joined_self s S true t th small = Orders.front_self s S t th small
joined_self s S false t th small = Orders.moved_self s S t th small

pub joined_other : (s : Scheduler) → Steady s → (front : Bool) (t : ℕ) (th : Thread) → t < 32 → (u : ℕ) → (u ≡ t → ⊥) → thread_at (joined s front t th) u ≡ thread_at s u
unfolding joined
joined_other s S true t th small u n = Orders.front_other s S t th small u n
joined_other s S false t th small u n = Orders.moved_other s S t th small u n

steady_altered : (k : Kernel) → Steady k.scheduler → (t : ℕ) (th : Thread) → Altered k t th → Steady (with_thread k.scheduler t th)
steady_altered k S t th A = Orders.kept_steady_lem k.scheduler S t th A.small A.stands A.fit

pub steady_edit : (k : Kernel) → Steady k.scheduler → (e : Edit) → Requires k e → Steady (edited k e).scheduler
unfolding edited with_held with_scheduler with_clock
steady_edit k S (moves t m) G = steady-joined k.scheduler S (frontb m) t (record_by m (thread_of k t)) G.small G.fit
steady_edit k S (alters t f) G = steady_altered k S t (f (thread_of k t)) G.0
steady_edit k S (counts t) G = steady_altered k S t _ (one_less_lem k S t G.0 G.1)
steady_edit k S (ranks d n) G = Orders.prioritised_steady_lem k.scheduler S (place_of d n)
steady_edit k S (stores d n x) G = subst Steady (sym (Objects.stored-scheduler d k n x)) S
steady_edit k S (sets c) G = S

-- ---- what soundness asks besides
-- who waits on no object may
pub wait_none : (k : Kernel) (th : Thread) (h : Held) → th.state < 5 → MayWait k th h
unfolding waits_onb
wait_none k th h l d w = absurd (let z = eqb-true th.state (state_on d) (and_right th.created _ w) in let y = Objects.state_low d in omega (arith, z, y, l))

-- who waits on an object may if that object lets it
pub wait_on : (k : Kernel) (th : Thread) (h : Held) (d : Kind) → th.state ≡ state_on d → Kinds.waitb d h (Kinds.object_at d k th.object) ≡ true → MayWait k th h
unfolding waits_onb
wait_on k th h d s x e w =
    subst (λ (c : Kind). Kinds.waitb c h (Kinds.object_at c k th.object) ≡ true)
    (Objects.same_kind d e (sym s ∙ eqb-true th.state (state_on e) (and_right th.created _ w))) x

-- a thread that begins to wait, or does not wait, may hold what it then holds
abbrev pub KeepsFitMove : Kernel → ℕ → Move → Type 0
KeepsFitMove k t (ends c words) = Unit {0}
KeepsFitMove k t (starts front state object ticks h) = (held_fitb (in_state state object ticks (thread_of k t)) h ≡ true) × MayWait k (in_state state object ticks (thread_of k t)) h
KeepsFitMove k t stops = (thread_of k t).created ≡ true
KeepsFitMove k t (turns f g) = (held_fitb (f (thread_of k t)) (g (held_at k t)) ≡ true) × ((f (thread_of k t)).state < 4)

-- an object gets a fit record, on which those who wait on it may wait
pub record Stored (d : Kind) (k : Kernel) (n : ℕ) (x : Object d) : Type 0 where
  pub small : n < size_of d
  pub fit : Kinds.record_fitb d x ≡ true
  pub free : (t : ℕ) → t < 32 → waits_onb (state_on d) (thread_of k t) ≡ true → (thread_of k t).object ≡ n → Kinds.waitb d (held_at k t) x ≡ true

abbrev pub KeepsFit : Kernel → Edit → Type 0
KeepsFit k (moves t m) = KeepsFitMove k t m
KeepsFit k (alters t f) = Unit {0}
KeepsFit k (counts t) = Unit {0}
KeepsFit k (ranks d n) = Unit {0}
KeepsFit k (stores d n x) = Stored d k n x
KeepsFit k (sets c) = Unit {0}

-- each edit of a list on the tables that the last left
abbrev pub Fits : Kernel → List Edit → Type 0
Fits k [] = Unit {0}
Fits k (e ∷ es) = (Requires k e × KeepsFit k e) × Fits (edited k e) es

pub requires-of : (k : Kernel) (es : List Edit) → Fits k es → RequiresAll k es
requires-of k [] G = tt
requires-of k (e ∷ es) G = (G.0.0, requires-of (edited k e) es G.1)

-- ---- who waits
pub placed-state : (p : Place) (th : Thread) → placedb p th ≡ true → th.state ≡ p.state
unfolding placedb
placed-state p th e = eqb-true th.state p.state (and_right (standsb th) _ (and_left (standsb th && eqb th.state p.state) _ e))

pub placed-made : (p : Place) (th : Thread) → placedb p th ≡ true → th.created ≡ true
unfolding placedb standsb readyb waitsb
placed-made p th e = by_test th.created (λ c. c) (λ c. never e (rw c))

pub placed_paused : (p : Place) → 4 < p.state → (th : Thread) → placedb p th ≡ true → pausedb th ≡ true
placed_paused p w th e = let z = placed-state p th e in States.paused_in th (placed-made p th e) (omega (arith, z, w))

module _ (p : Place) (waiters : 4 < p.state) where
  -- on which object it waits
  pub placed-object : (th : Thread) → placedb p th ≡ true → th.object ≡ p.number
  unfolding placedb number_of
  placed-object th e =
      let state = placed-state p th e in
      sym (ap (λ (b : Bool). if b then th.priority else th.object) (ne_eqb th.state 0 (λ z. omega (arith, z, state, waiters))))
      ∙ eqb-true (number_of th) p.number (and_right (standsb th && eqb th.state p.state) (eqb (number_of th) p.number) e)

  -- where it waits is told by its state and object alone
  pub placed_seen : (th : Thread) → placedb p (seen th) ≡ placedb p th
  unfolding placedb standsb readyb waitsb number_of seen
  placed_seen th = by_eq th.state 0 (λ z. rw (ne_eqb th.state p.state (λ q. omega (arith, z, q, waiters)), and-false)) (λ z. rw (ne_eqb th.state 0 z))

-- who stands in a line
pub line_placed : (s : Scheduler) → Steady s → (p : Place) (u : ℕ) → 0 < count u (line_at s p) → placedb p (thread_at s u) ≡ true
unfolding one_if
line_placed s S p u c = by_test (placedb p (thread_at s u)) (λ y. y) (λ y. absurd (let z = Orders.line-count s S u p ∙ ap one_if y in omega (arith, c, z)))

pub ends_paused : (c : Cause) (words : List ℕ) (th : Thread) → Was (ends c words) th → pausedb th ≡ true
ends_paused (served d n) words th w = placed_paused (place_of d n) (Objects.state_low d) th w
ends_paused (deleted d n) words th w = placed_paused (place_of d n) (Objects.state_low d) th w
ends_paused timed_out words th w = timed_paused th (last_timed th w)
ends_paused aborted words th w = w

-- the statuses with which a wait runs out
pub by_timeout : (P : ℕ → Type 0) (th : Thread) (h : Held) → (th.state ≡ 4 → P Statuses.success) → P Statuses.queue_full → P Statuses.queue_empty → P Statuses.no_instance → P Statuses.no_events → P Statuses.no_memory → P (timeout_status th h)
unfolding timeout_status
by_timeout P th h sleeps full empty instance events memory =
    by_choice P (eqb th.state 4) _ _ (λ e. sleeps (eqb-true th.state 4 e)) (λ e. by_choice P (eqb th.state 5) _ _ (λ f. by_choice P h.sending _ _ (λ g. full) (λ g. empty)) (λ f.
    by_choice P (eqb th.state 6) _ _ (λ g. instance) (λ g. by_choice P (eqb th.state 7) _ _ (λ i. events) (λ i. memory))))

-- no wait ends with the status of waiters
status_known : (c : Cause) (th : Thread) (h : Held) → eqb (status_by c th h) Statuses.waiting ≡ false
unfolding status_by
status_known (served d n) th h = refl
status_known (deleted d n) th h = refl
status_known timed_out th h = by_timeout (λ s. eqb s Statuses.waiting ≡ false) th h (λ z. refl) refl refl refl refl refl
status_known aborted th h = refl

-- ---- sound but for the runner
held_seen : (th : Thread) (h : Held) → held_fitb (seen th) h ≡ held_fitb th h
unfolding seen held_fitb status_fitb words_fitb sender_fitb sendsb request_fitb unheld_fitb waits_onb pausedb waitsb sleepsb
held_seen th h = refl

pub waits_seen : (state : ℕ) (th : Thread) → waits_onb state (seen th) ≡ waits_onb state th
unfolding seen waits_onb
waits_seen state th = refl

pub object_seen : (th : Thread) → (seen th).object ≡ th.object
unfolding seen
object_seen th = refl

-- another scheduler, in which every thread keeps what the tests read
module _ (k : Kernel) (F : Fit k) (s : Scheduler) (S : Steady s) (same : (u : ℕ) → seen (thread_at s u) ≡ seen (thread_of k u)) where
  waits_same : (t : ℕ) → MayWait k (thread_of k t) (held_at k t) → MayWait (with_scheduler k s) (thread_at s t) (held_at k t)
  waits_same t W =
      Objects.same-waits k (with_scheduler k s) (Objects.table-scheduler k s) (thread_at s t) (held_at k t)
      (λ d w. ap (λ (n : ℕ). Kinds.waitb d (held_at k t) (Kinds.object_at d k n)) (sym (object_seen (thread_at s t)) ∙ ap (λ (x : Thread). x.object) (same t) ∙ object_seen (thread_of k t))
      ∙ W d (sym (waits_seen (state_on d) (thread_of k t)) ∙ sym (ap (waits_onb (state_on d)) (same t)) ∙ waits_seen (state_on d) (thread_at s t) ∙ w))

  pub fit-scheduler : Fit (with_scheduler k s)
  unfolding with_scheduler held_at
  fit-scheduler =
      record {
        steady = S;
        held_sized = F.held_sized;
        held = λ t l. sym (held_seen (thread_at s t) (held_at k t)) ∙ ap (λ (x : Thread). held_fitb x (held_at k t)) (same t) ∙ held_seen (thread_of k t) (held_at k t) ∙ F.held t l;
        waits = λ t l. waits_same t (F.waits t l);
        objects = λ d. Objects.same_objects d k (with_scheduler k s) (Objects.table-scheduler k s d) (F.objects d);
      }

-- one thread moves
module _ (k : Kernel) (F : Fit k) (t : ℕ) (m : Move) (G : Moved k t m) where
  abbrev th : Thread
  th = record_by m (thread_of k t)

  abbrev h : Held
  h = held_by m (thread_of k t) (held_at k t)

  abbrev x : Kernel
  x = edited k (moves t m)

  moved_all : (P : Thread → Held → Type 0) → P th h → ((u : ℕ) → u < 32 → P (thread_of k u) (held_at k u)) → (u : ℕ) → u < 32 → P (thread_of x u) (held_at x u)
  unfolding edited with_held with_scheduler held_at
  moved_all P new old u l =
      by_eq u t
      (λ e. rw (e, joined_self k.scheduler F.steady (frontb m) t th G.small, get_or-set_same k.held t h no_held (let z = F.held_sized in let y = G.small in omega (arith, z, y))) new)
      (λ e. rw (joined_other k.scheduler F.steady (frontb m) t th G.small u e, get_or-set_other k.held t u h no_held e) (old u l))

  table-moved : (d : Kind) → table_of d x ≡ table_of d k
  unfolding edited
  table-moved d = Objects.table-held _ t h d ∙ Objects.table-scheduler k _ d

  pub fit-moved : held_fitb th h ≡ true → MayWait k th h → Fit x
  unfolding edited with_held with_scheduler
  fit-moved holds waits =
      record {
        steady = steady_edit k F.steady (moves t m) G;
        held_sized = length-set k.held t h ∙ F.held_sized;
        held = moved_all (λ th h. held_fitb th h ≡ true) holds F.held;
        waits = moved_all (MayWait x) (Objects.same-waits k x table-moved th h waits) (λ u l. Objects.same-waits k x table-moved (thread_of k u) (held_at k u) (F.waits u l));
        objects = λ d. Objects.same_objects d k x (table-moved d) (F.objects d);
      }

pub thread-moved : (k : Kernel) → Fit k → (t : ℕ) (m : Move) → Moved k t m → (u : ℕ) → (u ≡ t → ⊥) → thread_of (edited k (moves t m)) u ≡ thread_of k u
unfolding edited with_held with_scheduler
thread-moved k F t m G u n = joined_other k.scheduler F.steady (frontb m) t (record_by m (thread_of k t)) G.small u n

fit_move : (k : Kernel) → Fit k → (t : ℕ) (m : Move) → Moved k t m → KeepsFitMove k t m → Fit (edited k (moves t m))
unfolding record_by held_by awake in_state
fit_move k F t (ends c words) A G =
    let made = States.paused-made (thread_of k t) (ends_paused c words (thread_of k t) A.was) in
    let low = States.awake-state (thread_of k t) in
    fit-moved k F t (ends c words) A
    (Held.held-status (awake (thread_of k t)) made low (status_by c (thread_of k t) (held_at k t)) words (status_known c (thread_of k t) (held_at k t)))
    (wait_none k (awake (thread_of k t)) _ (omega (arith, low)))
fit_move k F t (starts front state object ticks h) A G = fit-moved k F t (starts front state object ticks h) A G.0 G.1
fit_move k F t stops A G = fit-moved k F t stops A (Held.held-status (at_rest 2 (thread_of k t)) G (omega arith) 0 no_words refl) (wait_none k (at_rest 2 (thread_of k t)) no_held (omega arith))
fit_move k F t (turns f g) A G = fit-moved k F t (turns f g) A G.0 (wait_none k (f (thread_of k t)) _ (let l = G.1 in omega (arith, l)))

fit_altered : (k : Kernel) → Fit k → (t : ℕ) (th : Thread) → Altered k t th → Fit (with_scheduler k (with_thread k.scheduler t th))
fit_altered k F t th A = fit-scheduler k F (with_thread k.scheduler t th) (steady_altered k F.steady t th A) (Orders.kept-all k.scheduler F.steady t th A.small seen A.seen)

fit_ranked : (k : Kernel) → Fit k → (p : Place) → Fit (with_scheduler k (prioritised_at k.scheduler p))
unfolding prioritised_at with_order thread_at
fit_ranked k F p = fit-scheduler k F (prioritised_at k.scheduler p) (Orders.prioritised_steady_lem k.scheduler F.steady p) (λ u. refl)

-- an object gets another record
module _ (d : Kind) (k : Kernel) (F : Fit k) (n : ℕ) (x : Object d) (G : Stored d k n x) where
  abbrev y : Kernel
  y = with_object d k n x

  thread-stored : (u : ℕ) → thread_of y u ≡ thread_of k u
  thread-stored u = ap (λ (s : Scheduler). thread_at s u) (Objects.stored-scheduler d k n x)

  held-stored : (u : ℕ) → held_at y u ≡ held_at k u
  unfolding held_at
  held-stored u = rw (Objects.stored-held d k n x)

  fit-stored : Fit y
  fit-stored =
      record {
        steady = subst Steady (sym (Objects.stored-scheduler d k n x)) F.steady;
        held_sized = ap (λ (l : List Held). length l) (Objects.stored-held d k n x) ∙ F.held_sized;
        held = λ t l. rw (thread-stored t, held-stored t) (F.held t l);
        waits = λ t l. rw (thread-stored t, held-stored t) (Objects.stored-waits d k n x F.objects G.small (thread_of k t) (held_at k t) (G.free t l) (F.waits t l));
        objects = Objects.stored_objects d k n x F.objects G.small G.fit;
      }

fit-clock : (k : Kernel) → Fit k → (c : ℕ) → Fit (with_clock k c)
unfolding with_clock held_at
fit-clock k F c =
    record {
      steady = F.steady;
      held_sized = F.held_sized;
      held = F.held;
      waits = λ t l. Objects.same-waits k (with_clock k c) (Objects.table-clock k c) (thread_of k t) (held_at k t) (F.waits t l);
      objects = λ d. Objects.same_objects d k (with_clock k c) (Objects.table-clock k c d) (F.objects d);
    }

pub fit_edit : (k : Kernel) → Fit k → (e : Edit) → Requires k e → KeepsFit k e → Fit (edited k e)
unfolding edited
fit_edit k F (moves t m) A G = fit_move k F t m A G
fit_edit k F (alters t f) A G = fit_altered k F t (f (thread_of k t)) A.0
fit_edit k F (counts t) A G = fit_altered k F t _ (one_less_lem k F.steady t A.0 A.1)
fit_edit k F (ranks d n) A G = fit_ranked k F (place_of d n)
fit_edit k F (stores d n x) A G = fit-stored d k F n x G
fit_edit k F (sets c) A G = fit-clock k F c

pub fit_all : (k : Kernel) → Fit k → (es : List Edit) → Fits k es → Fit (applied k es)
unfolding applied
fit_all k F [] G = F
fit_all k F (e ∷ es) G = fit_all (edited k e) (fit_edit k F e G.0.0 G.0.1) es G.1

-- ---- the choice that follows
pub mark_seen : (b : Bool) (th : Thread) → seen (with_mark b th) ≡ seen th
unfolding seen with_mark
mark_seen b th = refl

pub mark_levels : (b : Bool) (th : Thread) → levels (with_mark b th) ≡ levels th
unfolding levels with_mark
mark_levels b th = refl

pub fit_chosen : (k : Kernel) → Fit k → (b : Bool) → Fit (with_scheduler k (rescheduled k.scheduler b))
fit_chosen k F b =
    fit-scheduler k F (rescheduled k.scheduler b) (Choosing.rescheduled_steady k.scheduler F.steady b)
    (λ u. Choosing.rescheduled-keeps k.scheduler F.steady seen mark_seen b u)
