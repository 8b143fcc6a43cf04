-- Laws of a thread's record in another state, and of what a change leaves as it is.
use mathlib.Core.Path.{◌≡◌, refl, ap, ◌∙◌}
use mathlib.Core.Bool.{Bool, true, false, ◌&&◌, ◌||◌}
use Prim.Native.Nat.{ℕ, ◌≤◌, ◌<◌}
use native.Mathlib.Omega.{arith}
use lib.Dec.{eqb, ltb, leb}
use borrow.Author.Tests.{ltb-true, ltb-false, lt-ltb, le-ltb, le-leb, eq-eqb, ne_eqb}
use Rattle.std.specs.Prelude.{if◌then◌else◌}
use Rattle.lines.specs.Logic.{one_if, implies}
use Rattle.lines.specs.Lists.{count, first_with}
use Rattle.lines.specs.Lines.{members}
use Rattle.lines.proofs.Laws.Logic.{by_test, never, and_in, or_left, or_right, implies_in}
use Rattle.lines.proofs.Laws.Lists
use Rattle.scheduler.specs.declared.thread.Thread.{Thread}
use Rattle.scheduler.specs.declared.thread.Place.{Place}
use Rattle.scheduler.specs.declared.Scheduler.{Scheduler}
use Rattle.scheduler.specs.Threads.{uncreated, readyb, sleepsb, waitsb, pausedb, placedb, in_state, at_rest, awake, with_suspension, created}
use Rattle.scheduler.specs.Orders.{thread_at, line_at, first_at, with_order, moved}
use Rattle.scheduler.specs.Sound.{limitsb, mark_fitb, suspension_fitb, ticks_fitb, object_fitb, zerob, fitb, Steady}
use Rattle.scheduler.proofs.Laws.Threads.{none-at, placed_stands, fit_parts, fit_from, fit_low, fit-threshold}
use Rattle.scheduler.proofs.Laws.Orders

-- ---- who waits or sleeps
pub rest-not_paused : (th : Thread) → th.state < 4 → pausedb th ≡ false
unfolding pausedb waitsb sleepsb
rest-not_paused th l = (λ i. (th.created && le-ltb 4 th.state (omega (arith, l)) i) || (th.created && ne_eqb th.state 4 (λ e. omega (arith, e, l)) i)) ∙ neither th.created
  where
    neither : (b : Bool) → ((b && false) || (b && false)) ≡ false
    neither true = refl
    neither false = refl

pub paused-made : (th : Thread) → pausedb th ≡ true → th.created ≡ true
unfolding pausedb waitsb sleepsb
paused-made th p = by_test th.created (λ e. e) (λ e. never p (rw e))

module _ (th : Thread) (made : th.created ≡ true) where
  pub waits_in : 4 < th.state → waitsb th ≡ true
  unfolding waitsb
  waits_in l = and_in th.created (ltb 4 th.state) made (lt-ltb 4 th.state l)

  pub paused_in : 4 ≤ th.state → pausedb th ≡ true
  unfolding pausedb sleepsb
  paused_in l =
      by_test (ltb 4 th.state)
      (λ w. or_left (waitsb th) (sleepsb th) (waits_in (ltb-true 4 th.state w)))
      (λ w. or_right (waitsb th) (sleepsb th) (and_in th.created (eqb th.state 4) made (eq-eqb th.state 4 (let z = ltb-false 4 th.state w in omega (arith, z, l)))))

  -- ---- fit records: limits, no mark, no suspension, ticks exactly where it waits or sleeps
  module _ (unmarked : th.marked ≡ false) (unsuspended : th.suspending ≡ false) (low : th.priority < 32) (under : th.threshold ≤ th.priority) where
    fit-state : th.state ≤ 8 → ticks_fitb th ≡ true → object_fitb th ≡ true → fitb th ≡ true
    unfolding limitsb mark_fitb suspension_fitb implies
    fit-state known ticks object =
        fit_from th made
        (and_in (leb th.state 8 && ltb th.priority 32) (leb th.threshold th.priority)
        (and_in (leb th.state 8) (ltb th.priority 32) (le-leb th.state 8 known) (lt-ltb th.priority 32 low))
        (le-leb th.threshold th.priority under))
        (rw unmarked) (rw unsuspended) ticks object

    pub fit-rest : th.state < 4 → th.object ≡ 0 → th.ticks ≡ 0 → fitb th ≡ true
    unfolding ticks_fitb object_fitb implies
    fit-rest l object ticks =
        fit-state (omega (arith, l))
        (rw (rest-not_paused th l) (eq-eqb th.ticks 0 ticks))
        (or_right (waitsb th) (eqb th.object 0) (eq-eqb th.object 0 object))

    pub fit_wait : 4 ≤ th.state → th.state ≤ 8 → (th.state ≡ 4 → th.object ≡ 0) → 0 < th.ticks → fitb th ≡ true
    unfolding ticks_fitb object_fitb implies
    fit_wait l known object ticks =
        fit-state known
        (rw (paused_in l) (and_in (ltb 0 th.ticks) true (lt-ltb 0 th.ticks ticks) refl))
        (by_test (ltb 4 th.state)
        (λ w. or_left (waitsb th) (eqb th.object 0) (waits_in (ltb-true 4 th.state w)))
        (λ w. or_right (waitsb th) (eqb th.object 0) (eq-eqb th.object 0 (object (let z = ltb-false 4 th.state w in omega (arith, z, l))))))

-- ready, completed, terminated or suspended
pub fit-at-rest : (state : ℕ) (th : Thread) → th.created ≡ true → fitb th ≡ true → state < 4 → fitb (at_rest state th) ≡ true
unfolding in_state
fit-at-rest state th made fit l = fit-rest (at_rest state th) made refl refl (fit_low th fit) (fit-threshold th fit) l refl refl

-- a wait or sleep that has ended
pub awake-state : (th : Thread) → (awake th).state < 4
unfolding awake in_state
awake-state th = below th.suspending
  where
    below : (b : Bool) → (if b then 3 else 0) < 4
    below true = omega arith
    below false = omega arith

pub fit-awake : (th : Thread) → th.created ≡ true → fitb th ≡ true → fitb (awake th) ≡ true
unfolding awake in_state
fit-awake th made fit = fit-at-rest (if th.suspending then 3 else 0) th made fit (awake-state th)

-- asleep, or waiting on an object
pub fit_in_wait : (state object ticks : ℕ) (th : Thread) → th.created ≡ true → fitb th ≡ true → 4 ≤ state → state ≤ 8 → (state ≡ 4 → object ≡ 0) → 0 < ticks → fitb (in_state state object ticks th) ≡ true
unfolding in_state
fit_in_wait state object ticks th made fit l known o pos = fit_wait (in_state state object ticks th) made refl refl (fit_low th fit) (fit-threshold th fit) l known o pos

-- a new thread, and none
pub fit_new : (state p h : ℕ) → state < 4 → p < 32 → h ≤ p → fitb (created state p h) ≡ true
unfolding created
fit_new state p h l low under = fit-rest (created state p h) refl refl refl low under l refl refl

pub fit_none : fitb uncreated ≡ true
unfolding fitb zerob uncreated
fit_none = refl

-- a suspension held by a waiter or sleeper, or lifted
pub fit_suspension : (b : Bool) (th : Thread) → th.created ≡ true → fitb th ≡ true → (b ≡ true → pausedb th ≡ true) → fitb (with_suspension b th) ≡ true
unfolding with_suspension limitsb mark_fitb suspension_fitb ticks_fitb object_fitb pausedb waitsb sleepsb readyb
fit_suspension b th made fit h =
    let p = fit_parts th made fit in
    fit_from (with_suspension b th) made p.0 p.1 (implies_in b (pausedb th) h) p.3 p.4

-- ---- who is created, and who stands, is in the table
pub created_small : (s : Scheduler) → Steady s → (t : ℕ) → (thread_at s t).created ≡ true → t < 32
unfolding uncreated
created_small s S t made =
    by_test (ltb t 32)
    (λ w. ltb-true t 32 w)
    (λ w. never made (ap (λ (th : Thread). th.created) (none-at s t S.sized (ltb-false t 32 w))))

-- where nobody is first at a place, nobody is there
pub none_placed_there : (s : Scheduler) → Steady s → (p : Place) → ltb (first_at s p) 32 ≡ false → (t : ℕ) → placedb p (thread_at s t) ≡ false
unfolding first_at line_at first_with one_if
none_placed_there s S p n t =
    by_test (placedb p (thread_at s t))
    (λ e. absurd (let l = Lists.first_some (λ u. placedb p (thread_at s u)) (members s.order) t
    (let c = S.placed t ∙ ap one_if (placed_stands p (thread_at s t) e) in omega (arith, c)) e small in
    let o = ltb-false (first_at s p) 32 n in omega (arith, l, o)))
    (λ e. e)
  where
    small : (v : ℕ) → 0 < count v (members s.order) → v < 32
    small v c =
        by_test (ltb v 32)
        (λ w. ltb-true v 32 w)
        (λ w. absurd (let z = Orders.out_of_order s S v (ltb-false v 32 w) in omega (arith, c, z)))

-- ---- what a move's record has in common with the old one, every thread keeps
pub moved_all : (s : Scheduler) → Steady s → (t : ℕ) (th : Thread) → t < 32 → {X : Type 0} (g : Thread → X) → g th ≡ g (thread_at s t) → (u : ℕ) → g (thread_at (moved s t th) u) ≡ g (thread_at s u)
unfolding moved with_order thread_at
moved_all s S t th small g h u = Orders.kept-all s S t th small g h u
