-- Laws of one thread's record and of places.
use mathlib.Core.Path.{◌≡◌, refl, sym, ap, ◌∙◌}
use mathlib.Core.List.{List, map}
use mathlib.Core.Bool.{Bool, true, false, ◌&&◌, ◌||◌, not}
use Prim.Native.Nat.{ℕ, ◌≤◌, ◌<◌}
use native.Mathlib.Omega.{arith}
use lib.ListN.{length, length-map, get_or-eq_default}
use lib.Dec.{eqb, ltb, leb}
use borrow.Author.Tests.{eqb-true, ltb-true, ltb-false, leb-true, lt-ltb, le-leb, not-true}
use Rattle.std.specs.Prelude.{if◌then◌else◌}
use Rattle.lines.proofs.Laws.Logic.{by_test, never, and_left, and_right, and_in, or_left, implies_out, implies_in}
use Rattle.scheduler.specs.declared.thread.Thread.{Thread}
use Rattle.scheduler.specs.declared.thread.Place.{Place}
use Rattle.scheduler.specs.declared.Scheduler.{Scheduler}
use Rattle.scheduler.specs.Threads.{uncreated, readyb, sleepsb, waitsb, pausedb, markedb, standsb, number_of, placedb}
use Rattle.scheduler.specs.Orders.{thread_at}
use Rattle.scheduler.specs.Choice.{with_mark}
use Rattle.scheduler.specs.Changes.{with_levels}
use Rattle.scheduler.specs.Sound.{limitsb, mark_fitb, suspension_fitb, ticks_fitb, object_fitb, zerob, fitb}

-- an array of structs is as long as the array of their values
pub length_mapped : {A B : Type 0} (f : A → B) (l : List A) (n : ℕ) → length (map f l) ≡ n → length l ≡ n
length_mapped f l n p = sym (length-map l f) ∙ p

-- ---- past the table
pub none-at : (s : Scheduler) (t : ℕ) → length s.threads ≡ 32 → 32 ≤ t → thread_at s t ≡ uncreated
unfolding thread_at
none-at s t e h = get_or-eq_default s.threads uncreated (omega arith)

pub none_stands : standsb uncreated ≡ false
unfolding standsb readyb waitsb uncreated
none_stands = refl

pub none-ready : readyb uncreated ≡ false
unfolding readyb uncreated
none-ready = refl

pub ready_small : (s : Scheduler) (t : ℕ) → length s.threads ≡ 32 → readyb (thread_at s t) ≡ true → t < 32
ready_small s t e h = by_test (ltb t 32) (λ w. ltb-true t 32 w) (λ w. never h (ap readyb (none-at s t e (ltb-false t 32 w)) ∙ none-ready))

pub none_unmarked : uncreated.marked ≡ false
unfolding uncreated
none_unmarked = refl

pub none_placed : (p : Place) → placedb p uncreated ≡ false
unfolding placedb standsb readyb waitsb uncreated
none_placed p = refl

pub none_marked : markedb uncreated ≡ false
unfolding markedb readyb uncreated
none_marked = refl

-- ---- standing
pub ready_stands : (th : Thread) → readyb th ≡ true → standsb th ≡ true
unfolding standsb
ready_stands th h = or_left (readyb th) (waitsb th) h

pub marked-ready : (th : Thread) → markedb th ≡ true → readyb th ≡ true
unfolding markedb
marked-ready th h = and_left (readyb th) th.marked h

module _ (p : Place) (th : Thread) (h : placedb p th ≡ true) where
  at_place : (standsb th && eqb th.state p.state) ≡ true
  unfolding placedb
  at_place = and_left (standsb th && eqb th.state p.state) (eqb (number_of th) p.number) h

  pub placed_stands : standsb th ≡ true
  placed_stands = and_left (standsb th) (eqb th.state p.state) at_place

  -- a thread has one place
  pub one_place : (q : Place) → placedb q th ≡ true → p ≡ q
  unfolding placedb
  one_place q g =
      let a = eqb-true th.state p.state (and_right (standsb th) (eqb th.state p.state) at_place) in
      let b = eqb-true (number_of th) p.number (and_right (standsb th && eqb th.state p.state) (eqb (number_of th) p.number) h) in
      let g1 = and_left (standsb th && eqb th.state q.state) (eqb (number_of th) q.number) g in
      let c = eqb-true th.state q.state (and_right (standsb th) (eqb th.state q.state) g1) in
      let d = eqb-true (number_of th) q.number (and_right (standsb th && eqb th.state q.state) (eqb (number_of th) q.number) g) in
      let x : p.state ≡ q.state = sym a ∙ c in
      let y : p.number ≡ q.number = sym b ∙ d in
      λ i. record { state = x i; number = y i }

  pub other_place : (q : Place) → (q ≡ p → ⊥) → placedb q th ≡ false
  other_place q n = by_test (placedb q th) (λ e. absurd (n (sym (one_place q e)))) (λ e. e)

-- ---- fit records, created or not
pub fit-created : (th : Thread) → th.created ≡ true → fitb th ≡ (limitsb th && mark_fitb th && suspension_fitb th && ticks_fitb th && object_fitb th)
unfolding fitb
fit-created th e = ap (λ (b : Bool). if b then (limitsb th && mark_fitb th && suspension_fitb th && ticks_fitb th && object_fitb th) else zerob th) e

pub fit-uncreated : (th : Thread) → th.created ≡ false → fitb th ≡ zerob th
unfolding fitb
fit-uncreated th e = ap (λ (b : Bool). if b then (limitsb th && mark_fitb th && suspension_fitb th && ticks_fitb th && object_fitb th) else zerob th) e

-- the five clauses of a created record
five : (a b c d e : Bool) → (a && b && c && d && e) ≡ true → (a ≡ true) × (b ≡ true) × (c ≡ true) × (d ≡ true) × (e ≡ true)
five a b c d e h =
    let w = and_left (a && b && c && d) e h in
    let x = and_left (a && b && c) d w in
    let y = and_left (a && b) c x in
    (and_left a b y, and_right a b y, and_right (a && b) c x, and_right (a && b && c) d w, and_right (a && b && c && d) e h)

pub fit_parts : (th : Thread) → th.created ≡ true → fitb th ≡ true → (limitsb th ≡ true) × (mark_fitb th ≡ true) × (suspension_fitb th ≡ true) × (ticks_fitb th ≡ true) × (object_fitb th ≡ true)
fit_parts th e f = five (limitsb th) (mark_fitb th) (suspension_fitb th) (ticks_fitb th) (object_fitb th) (sym (fit-created th e) ∙ f)

pub fit_from : (th : Thread) → th.created ≡ true → limitsb th ≡ true → mark_fitb th ≡ true → suspension_fitb th ≡ true → ticks_fitb th ≡ true → object_fitb th ≡ true → fitb th ≡ true
fit_from th e a b c d o =
    fit-created th e
    ∙ and_in (limitsb th && mark_fitb th && suspension_fitb th && ticks_fitb th) (object_fitb th)
    (and_in (limitsb th && mark_fitb th && suspension_fitb th) (ticks_fitb th)
    (and_in (limitsb th && mark_fitb th) (suspension_fitb th) (and_in (limitsb th) (mark_fitb th) a b) c) d) o

-- ---- limits
limits_in : (th : Thread) → th.state ≤ 8 → th.priority < 32 → th.threshold ≤ th.priority → limitsb th ≡ true
unfolding limitsb
limits_in th a b c =
    and_in (leb th.state 8 && ltb th.priority 32) (leb th.threshold th.priority)
    (and_in (leb th.state 8) (ltb th.priority 32) (le-leb th.state 8 a) (lt-ltb th.priority 32 b))
    (le-leb th.threshold th.priority c)

limits_out : (th : Thread) → limitsb th ≡ true → (th.state ≤ 8) × (th.priority < 32) × (th.threshold ≤ th.priority)
unfolding limitsb
limits_out th h =
    let w = and_left (leb th.state 8 && ltb th.priority 32) (leb th.threshold th.priority) h in (
      leb-true th.state 8 (and_left (leb th.state 8) (ltb th.priority 32) w),
      ltb-true th.priority 32 (and_right (leb th.state 8) (ltb th.priority 32) w),
      leb-true th.threshold th.priority (and_right (leb th.state 8 && ltb th.priority 32) (leb th.threshold th.priority) h),
    )

zero_levels : (th : Thread) → zerob th ≡ true → (th.state ≤ 8) × (th.priority < 32) × (th.threshold ≤ th.priority)
unfolding zerob
zero_levels th h =
    let m = not th.marked in
    let n = not th.suspending in
    let o = eqb th.object 0 in
    let k = eqb th.ticks 0 in
    let x = eqb th.state 0 in
    let y = eqb th.priority 0 in
    let z = eqb th.threshold 0 in
    let w = and_left (x && y && z) m (and_left (x && y && z && m) n (and_left (x && y && z && m && n) o (and_left (x && y && z && m && n && o) k h))) in
    let v = and_left (x && y) z w in
    let a = eqb-true th.state 0 (and_left x y v) in
    let b = eqb-true th.priority 0 (and_right x y v) in
    let c = eqb-true th.threshold 0 (and_right (x && y) z w) in
    (omega (arith, a), omega (arith, b), omega (arith, c))

zero_unmarked : (th : Thread) → zerob th ≡ true → th.marked ≡ false
unfolding zerob
zero_unmarked th h =
    let m = not th.marked in
    let n = not th.suspending in
    let o = eqb th.object 0 in
    let k = eqb th.ticks 0 in
    let x = eqb th.state 0 && eqb th.priority 0 && eqb th.threshold 0 in
    not-true th.marked (and_right x m (and_left (x && m) n (and_left (x && m && n) o (and_left (x && m && n && o) k h))))

module _ (th : Thread) (fit : fitb th ≡ true) where
  levels : (th.state ≤ 8) × (th.priority < 32) × (th.threshold ≤ th.priority)
  levels =
      by_test th.created
      (λ e. limits_out th (fit_parts th e fit).0)
      (λ e. zero_levels th (sym (fit-uncreated th e) ∙ fit))

  pub fit_low : th.priority < 32
  fit_low = levels.1

  pub fit-threshold : th.threshold ≤ th.priority
  fit-threshold = levels.2

  -- with a threshold equal to its priority it has no mark
  pub fit_unmarked : th.priority ≤ th.threshold → th.marked ≡ false
  unfolding mark_fitb
  fit_unmarked h =
      by_test th.created
      (λ e. by_test th.marked
      (λ m. absurd (let l = ltb-true th.threshold th.priority (and_right (readyb th) (ltb th.threshold th.priority) (implies_out th.marked (readyb th && ltb th.threshold th.priority) (fit_parts th e fit).1 m)) in omega (arith, l, h)))
      (λ m. m))
      (λ e. zero_unmarked th (sym (fit-uncreated th e) ∙ fit))

-- ---- marks
-- a mark that is there already
same_mark : (b : Bool) (th : Thread) → th.marked ≡ b → with_mark b th ≡ th
unfolding with_mark
same_mark b th e = λ i. record { created = th.created; state = th.state; priority = th.priority; threshold = th.threshold; marked = sym e i; suspending = th.suspending; object = th.object; ticks = th.ticks }

-- a mark that the record allows
pub fit_mark : (b : Bool) (th : Thread) → fitb th ≡ true → (b ≡ true → (readyb th && ltb th.threshold th.priority) ≡ true) → fitb (with_mark b th) ≡ true
unfolding with_mark limitsb suspension_fitb ticks_fitb object_fitb mark_fitb pausedb waitsb sleepsb readyb
fit_mark b th fit h =
    by_test th.created
    (λ e. let p = fit_parts th e fit in
    fit_from (with_mark b th) e p.0 (implies_in b (readyb th && ltb th.threshold th.priority) h) p.2 p.3 p.4)
    (λ e. let m = zero_unmarked th (sym (fit-uncreated th e) ∙ fit) in
    by_test b
    (λ t. never (and_left th.created (eqb th.state 0) (and_left (readyb th) (ltb th.threshold th.priority) (h t))) e)
    (λ f. ap fitb (same_mark b th (m ∙ sym f)) ∙ fit))

pub fit_unmark : (th : Thread) → fitb th ≡ true → fitb (with_mark false th) ≡ true
fit_unmark th fit = fit_mark false th fit (λ e. never e refl)

-- what a mark leaves as it is
pub mark-ready : (b : Bool) (th : Thread) → readyb (with_mark b th) ≡ readyb th
unfolding with_mark readyb
mark-ready b th = refl

pub mark_stands : (b : Bool) (th : Thread) → standsb (with_mark b th) ≡ standsb th
unfolding with_mark standsb readyb waitsb
mark_stands b th = refl

pub mark_placed : (p : Place) (b : Bool) (th : Thread) → placedb p (with_mark b th) ≡ placedb p th
unfolding with_mark placedb standsb number_of readyb waitsb
mark_placed p b th = refl

pub mark-priority : (b : Bool) (th : Thread) → (with_mark b th).priority ≡ th.priority
unfolding with_mark
mark-priority b th = refl

pub mark-threshold : (b : Bool) (th : Thread) → (with_mark b th).threshold ≡ th.threshold
unfolding with_mark
mark-threshold b th = refl

pub mark-marked : (b : Bool) (th : Thread) → (with_mark b th).marked ≡ b
unfolding with_mark
mark-marked b th = refl

-- ---- another priority and threshold
module _ (p h : ℕ) (th : Thread) where
  pub levels_stands : standsb (with_levels p h th) ≡ standsb th
  unfolding with_levels standsb readyb waitsb
  levels_stands = refl

  -- a thread that is not ready stands where it stood
  pub levels_placed : readyb th ≡ false → (q : Place) → placedb q (with_levels p h th) ≡ placedb q th
  unfolding with_levels placedb standsb number_of waitsb readyb
  levels_placed r q =
      by_test th.created
      (λ c. let n = sym (ap (λ (x : Bool). x && eqb th.state 0) c) ∙ r in
      ap (λ (x : Bool). (((th.created && eqb th.state 0) || (th.created && ltb 4 th.state)) && eqb th.state q.state) && eqb (if x then p else th.object) q.number) n
      ∙ sym (ap (λ (x : Bool). (((th.created && eqb th.state 0) || (th.created && ltb 4 th.state)) && eqb th.state q.state) && eqb (if x then th.priority else th.object) q.number) n))
      (λ c. ap (λ (x : Bool). (((x && eqb th.state 0) || (x && ltb 4 th.state)) && eqb th.state q.state) && eqb (if eqb th.state 0 then p else th.object) q.number) c
      ∙ sym (ap (λ (x : Bool). (((x && eqb th.state 0) || (x && ltb 4 th.state)) && eqb th.state q.state) && eqb (if eqb th.state 0 then th.priority else th.object) q.number) c))

  pub fit_levels : fitb th ≡ true → th.created ≡ true → p < 32 → h ≤ p → fitb (with_levels p h th) ≡ true
  unfolding with_levels suspension_fitb ticks_fitb object_fitb mark_fitb pausedb waitsb sleepsb readyb
  fit_levels fit e low le =
      let q = fit_parts th e fit in
      let l = limits_out th q.0 in
      fit_from (with_levels p h th) e (limits_in (with_levels p h th) l.0 low le)
      (implies_in (th.marked && ltb h p) (readyb th && ltb h p)
      (λ m. and_in (readyb th) (ltb h p)
      (and_left (readyb th) (ltb th.threshold th.priority) (implies_out th.marked (readyb th && ltb th.threshold th.priority) q.1 (and_left th.marked (ltb h p) m)))
      (and_right th.marked (ltb h p) m)))
      q.2 q.3 q.4

-- with the priority it had, a thread stands where it stood
pub same_levels_placed : (h : ℕ) (th : Thread) (q : Place) → placedb q (with_levels th.priority h th) ≡ placedb q th
unfolding with_levels placedb standsb number_of readyb waitsb
same_levels_placed h th q = refl
