-- What one call enters in the account of a semaphore or pool.
use mathlib.Core.Path.{◌≡◌, refl, sym, ap, ◌∙◌, subst}
use mathlib.Core.List.{List, [], ◌∷◌}
use mathlib.Core.Bool.{and-false, Bool, true, false, ◌&&◌, not}
use Prim.Native.Nat.{ℕ, ◌+◌, ◌<◌}
use native.Mathlib.Omega.{arith}
use lib.Dec.{eqb}
use borrow.Author.Tests.{eqb-true, ltb-true}
use Rattle.lines.specs.Logic.{one_if}
use Rattle.lines.proofs.Laws.Logic.{by_test, never, and_left, and_right, and_in}
use Rattle.scheduler.specs.declared.thread.Place.{Place}
use Rattle.scheduler.specs.Orders.{first_at}
use Rattle.scheduler.proofs.Laws.Fairness.{first_placed}
use Rattle.kernel.proofs.Laws.Edits
use Rattle.kernel.proofs.Laws.Objects
use Rattle.kernel.proofs.Laws.Lines
use Rattle.kernel.proofs.Laws.Does
use Rattle.scheduler.specs.declared.Scheduler.{Scheduler}
use Rattle.kernel.specs.declared.Kernel.{Kernel}
use Rattle.kernel.specs.Tables.{with_scheduler}
use Rattle.kernel.specs.Kinds.{Kind, Object, size_of, state_on, place_of, object_at, createdb}
use Rattle.kernel.specs.Kinds.Kind.{semaphore, queue, group, pool}
use Rattle.kernel.specs.Sound.{Fit, Sound}
use Rattle.kernel.specs.Edits.{Move, Edit, edited, applied, startsb, sameb, Success, status_of, Effect, carried_out}
use Rattle.kernel.specs.Edits.Cause.{served, deleted, timed_out, aborted}
use Rattle.kernel.specs.Edits.Move.{ends, starts, stops, turns}
use Rattle.kernel.specs.Edits.Edit.{moves, alters, counts, ranks, stores, sets}
use Rattle.kernel.specs.Edits.Success.{done, lifted, waits}
use Rattle.calls.specs.Callers.{one_of}
use Rattle.kernel.specs.Roles.{row_of, may_moveb, mayb, allb}
use Rattle.kernel.specs.Effects.{waitedb, amount_of, one_less}
use Rattle.kernel.specs.Uses.{rolledb, accountedb, new_of, one_given, may_giveb, Creates, When, Role}
use Rattle.claims.specs.Lists.{Made, answer, next}
use Rattle.claims.specs.Rolls.{onb, givesb, takesb, succeedsb}
use Rattle.claims.specs.Accounts.{deletesb}
use Rattle.claims.proofs.Laws.Steps.{target, by-step}
use Rattle.claims.proofs.Laws.Serving
use Rattle.claims.proofs.Laws.Served.{apartb, later, later_same, later-stored, later_apart, later_first, waiter_takes}

-- ---- edits that leave an object alone: all of a call that is not its own
module _ (d : Kind) (n : ℕ) (small : n < size_of d) (m : Made) (nc : onb n m (row_of d).creates ≡ false) (nd : onb n m (row_of d).deletes ≡ false) (nt : onb n m (row_of d).takes ≡ false)
    (ng : onb n m (row_of d).gives ≡ false) (ne : onb n m (row_of d).empties ≡ false) where
  abbrev i : ℕ
  i = m.request.number

  -- an edit of one of the object's columns is for another place
  apart_of : (c : Kind) (j : ℕ) (l : Kind → List ℕ) → Serving.Own d (l d) → onb n m (l d) ≡ false → eqb j (target m) ≡ true → one_of i (l c) ≡ true → not (sameb (place_of d n) (place_of c j)) ≡ true
  apart_of c j l own f a y = ap not (Serving.elsewhere d n small m c j l own f a y)

  pub may_apart : (e : Edit) → mayb i (target m) e ≡ true → apartb (place_of d n) e ≡ true
  unfolding mayb may_moveb apartb
  may_apart (moves t (ends (served c j) words)) y =
      let a = and_left (eqb j (target m)) _ y in
      let O = Serving.own_row d in
      by_test (one_of i (row_of c).gives) (apart_of c j (λ b. (row_of b).gives) O.1 ng a)
      (λ g. by_test (one_of i (row_of c).takes) (apart_of c j (λ b. (row_of b).takes) O.0 nt a)
      (λ t. apart_of c j (λ b. (row_of b).empties) O.2 ne a (rw (g, t) at (and_right (eqb j (target m)) _ y))))
  may_apart (moves t (ends (deleted c j) words)) y = refl
  may_apart (moves t (ends timed_out words)) y = refl
  may_apart (moves t (ends aborted words)) y = refl
  may_apart (moves t (starts front state object ticks h)) y = refl
  may_apart (moves t stops) y = refl
  may_apart (moves t (turns f g)) y = refl
  may_apart (alters t f) y = refl
  may_apart (counts t) y = refl
  may_apart (ranks c j) y = refl
  may_apart (stores c j x) y =
      let a = and_left (eqb j (target m)) _ y in
      let O = Serving.own_row d in
      by_test (one_of i (row_of c).creates) (apart_of c j (λ b. (row_of b).creates) O.5 nc a)
      (λ q. by_test (one_of i (row_of c).deletes) (apart_of c j (λ b. (row_of b).deletes) O.3 nd a)
      (λ r. by_test (one_of i (row_of c).takes) (apart_of c j (λ b. (row_of b).takes) O.0 nt a)
      (λ t. by_test (one_of i (row_of c).gives) (apart_of c j (λ b. (row_of b).gives) O.1 ng a)
      (λ g. apart_of c j (λ b. (row_of b).empties) O.2 ne a (rw (q, r, t, g) at (and_right (eqb j (target m)) _ y))))))
  may_apart (sets c) y = refl

-- of the calls of a semaphore or pool none both takes and gives, and none empties
record Own (d : Kind) (i : ℕ) : Type 0 where
  takes : one_of i (row_of d).takes ≡ true → one_of i (row_of d).gives ≡ false
  empties : one_of i (row_of d).empties ≡ false
  rolled : rolledb d ≡ true
  other : state_on d ≡ 5 → ⊥

only : (i j : ℕ) (l : List ℕ) → one_of i (j ∷ []) ≡ true → one_of j l ≡ false → one_of i l ≡ false
only i j l o f = by_test (eqb i j) (λ e. ap (λ (x : ℕ). one_of x l) (eqb-true i j e) ∙ f) (λ e. never o (rw e refl))

own : (d : Kind) → accountedb d ≡ true → (i : ℕ) → Own d i
own semaphore c i = record { takes = λ o. only i 18 (19 ∷ 20 ∷ []) o refl; empties = refl; rolled = refl; other = λ z. omega (arith, z) }
own queue c i = never c refl
own group c i = never c refl
own pool c i = record { takes = λ o. only i 35 (36 ∷ []) o refl; empties = refl; rolled = refl; other = λ z. omega (arith, z) }

-- and all of a call with another status than 0x00
starts_apart : (p : Place) (t : ℕ) (m : Move) → startsb m ≡ true → apartb p (moves t m) ≡ true
unfolding startsb apartb
starts_apart p t (ends c words) s = never s refl
starts_apart p t (starts front state object ticks h) s = refl
starts_apart p t stops s = refl
starts_apart p t (turns f g) s = refl

pub by-success : {R : Type 0} (p : Place) (s : Success) (es : List Edit) → Does.Shape s es → (s ≡ done → R) → (eqb (status_of s) 0 ≡ false → allb (apartb p) es ≡ true → R) → R
unfolding status_of allb apartb
by-success p done es h f g = f refl
by-success p lifted es h f g = g refl (ap (allb (apartb p)) h.2)
by-success p waits es h f g = g refl (ap (allb (apartb p)) h.3 ∙ rw (starts_apart p h.0 h.1 h.2))

-- ---- the record after edits: it stays, or it is the one stored
record-moved : (d : Kind) (n : ℕ) (k : Kernel) (t : ℕ) (m : Move) → object_at d (edited k (moves t m)) n ≡ object_at d k n
unfolding edited
record-moved d n k t m = Objects.same_object d k _ (Objects.table-held _ t _ d ∙ Objects.table-scheduler k _ d) n

record_edit : (d : Kind) (n : ℕ) (k : Kernel) (e : Edit) → apartb (place_of d n) e ≡ true → object_at d (edited k e) n ≡ object_at d k n
unfolding edited apartb
record_edit d n k e =
    let same : (s : Scheduler) → object_at d (with_scheduler k s) n ≡ object_at d k n = λ s. Objects.same_object d k _ (Objects.table-scheduler k s d) n in
    Edits.by_edit (λ e. apartb (place_of d n) e ≡ true → object_at d (edited k e) n ≡ object_at d k n) (λ t m y. record-moved d n k t m) (λ t f y. same _) (λ t y. same _) (λ c i y. same _)
    (λ c i x y. Objects.stored_elsewhere c k i x d n (λ z w. never y (ap not (Lines.place_same (place_of d n) (place_of c i) (λ j. record { state = state_on (z j); number = w j })))))
    (λ c y. Objects.same_object d k _ (Objects.table-clock k c d) n) e

record-all : (d : Kind) (n : ℕ) (k : Kernel) (es : List Edit) → allb (apartb (place_of d n)) es ≡ true → object_at d (applied k es) n ≡ object_at d k n
unfolding applied
record-all d n k [] y = refl
record-all d n k (e ∷ es) y = record-all d n (edited k e) es (Edits.all_rest _ e es y) ∙ record_edit d n k e (Edits.all_first _ e es y)

record-stored : (d : Kind) (n : ℕ) (k : Kernel) → Fit k → n < size_of d → (y : Object d) (es : List Edit) → es ≡ stores d n y ∷ [] → object_at d (applied k es) n ≡ y
unfolding applied edited
record-stored d n k F small y es z = ap (λ (l : List Edit). object_at d (applied k l) n) z ∙ Objects.stored_self d k n y (F.objects d).sized small

-- ---- one call
module _ (k : Kernel) (S : Sound k) (m : Made) where
  -- one that creates an object and is done
  pub new-object : (d : Kind) → one_of m.request.number (row_of d).creates ≡ true → succeedsb (answer k m) ≡ true → object_at d (next k m) m.request.a ≡ new_of d m.request.b m.request.c
  unfolding succeedsb
  new-object d own =
      let named = Serving.own_kind d m.request.number (row_of d).creates (Serving.own_row d).5 own in
      by-step k S m (λ s x. eqb s 0 ≡ true → object_at d x m.request.a ≡ new_of d m.request.b m.request.c) (λ s z y. never y z)
      (λ e P R y. let c = Does.when (subst (λ (b : Kind). When (one_of m.request.number (row_of b).creates) (Creates b k (target m) m.request.b m.request.c e)) named.0 R.0) own in
      let low = c.small in
      let limit = named.1 in
      let at : m.request.a ≡ target m = omega (arith, low, limit) in
      ap (object_at d (carried_out k e).kernel) at ∙ Objects.same_object d (applied k e.edits) _ (Does.chosen_table k m.request.number (target m) e P d) (target m)
      ∙ record-stored d (target m) k S.fit low _ e.edits (ap (λ (y : Effect). y.edits) c.stored))

-- ---- entries
-- so many are given by a call with a status, and so many taken at once
abbrev pub gives : Kind → ℕ → Made → ℕ → ℕ
gives d n m status = one_if (givesb d n m && eqb status 0)

abbrev pub takes : Kind → ℕ → Made → ℕ → ℕ
takes d n m status = one_if (takesb d n m && eqb status 0)

-- a call with a status leads from tables k to tables x: what is given is handed on, one is taken at once, or one is given and stays
pub data Entry (d : Kind) (n : ℕ) (k : Kernel) (m : Made) (status : ℕ) (x : Kernel) : Type 0 where
  even : takes d n m status + later d n k x ≡ gives d n m status → object_at d x n ≡ object_at d k n → Entry d n k m status x
  less : takes d n m status + later d n k x ≡ 1 → gives d n m status ≡ 0 → 0 < amount_of d (object_at d k n) → object_at d x n ≡ one_less d (object_at d k n) → Entry d n k m status x
  more : takes d n m status + later d n k x ≡ 0 → gives d n m status ≡ 1 → may_giveb d (object_at d k n) m.request.b ≡ true → object_at d x n ≡ one_given d (object_at d k n) m.request.b → Entry d n k m status x

-- of a call that is not done, or neither gives nor takes, nothing is entered
none : (a b : Bool) → (b ≡ true → a ≡ false) → one_if (a && b) ≡ 0
unfolding one_if
none a true h = rw (h refl) refl
none true false h = refl
none false false h = refl

module _ (d : Kind) (counted : accountedb d ≡ true) (n : ℕ) (k : Kernel) (S : Sound k) (made : createdb d (object_at d k n) ≡ true) (m : Made) where
  abbrev F : Fit k
  F = S.fit

  abbrev O : Own d m.request.number
  O = own d counted m.request.number

  small : n < size_of d
  small = Objects.object_small d k F n made

  none_entry : (status : ℕ) (x : Kernel) → (eqb status 0 ≡ true → (givesb d n m ≡ false) × (takesb d n m ≡ false)) → later d n k x ≡ 0 → object_at d x n ≡ object_at d k n → Entry d n k m status x
  none_entry status x h l r = let g = none (givesb d n m) (eqb status 0) (λ z. (h z).0) in let t = none (takesb d n m) (eqb status 0) (λ z. (h z).1) in even (omega (arith, g, t, l)) r

  module _ (e : Effect) (P : Does.Proper k m.request.number (target m) e) (R : Role k m.request.number (target m) m.request.b m.request.c m.messages e) where
    abbrev x : Kernel
    x = (carried_out k e).kernel

    stored : (y : Object d) → object_at d (applied k e.edits) n ≡ y → object_at d x n ≡ y
    stored y h = Objects.same_object d (applied k e.edits) x (Does.chosen_table k m.request.number (target m) e P d) n ∙ h

    apart_entry : (status : ℕ) → allb (apartb (place_of d n)) e.edits ≡ true → (eqb status 0 ≡ true → (givesb d n m ≡ false) × (takesb d n m ≡ false)) → Entry d n k m status x
    apart_entry status A h = none_entry status x h (later_apart d n k F m.request.number (target m) e P A) (stored _ (record-all d n k e.edits A))

    -- one that takes or gives, and is done
    module _ (fine : e.success ≡ done) where
      take_entry : takesb d n m ≡ true → Entry d n k m 0 x
      unfolding givesb takesb onb one_if
      take_entry t =
          let r = (Serving.takes_at d n small m k e R t).served counted fine in
          let l = later-stored d n k F m.request.number (target m) e P _ r.1 in
          let one = ap (λ (b : Bool). one_if (b && true)) t in
          let g = none (givesb d n m) true (λ z. rw (O.takes (and_right (eqb m.request.a n) _ t)) (and-false (eqb m.request.a n))) in
          less (omega (arith, one, l)) g r.0 (stored _ (record-stored d n k F small _ e.edits r.1))

      give_entry : takesb d n m ≡ false → givesb d n m ≡ true → Entry d n k m 0 x
      unfolding one_if applied
      give_entry nt g =
          let r = Serving.gives_at d n small m k e R g in
          let one = ap (λ (b : Bool). one_if (b && true)) g in
          let t = none (takesb d n m) true (λ z. nt) in
          by_test (waitedb k d n)
          (λ w. let u = first_at k.scheduler (place_of d n) in
          let p = first_placed k.scheduler (place_of d n) (ltb-true u 32 w) in
          let z = ap (λ (y : Effect). y.edits) (r.first O.rolled u (p, waiter_takes d n k F O.other u p)) in
          let l = later_first d n k F m.request.number (target m) e P _ w z in
          even (omega (arith, one, t, l)) (stored _ (ap (λ (es : List Edit). object_at d (applied k es) n) z ∙ record-moved d n k u _)))
          (λ w. let z = ap (λ (y : Effect). y.edits) (r.stored counted w) in
          let l = later-stored d n k F m.request.number (target m) e P _ z in
          more (omega (arith, t, l)) one r.may (stored _ (record-stored d n k F small _ e.edits z)))

      done_entry : deletesb d n m ≡ false → Entry d n k m 0 x
      unfolding deletesb givesb takesb onb
      done_entry undeleted =
          by_test (takesb d n m) take_entry
          (λ t. by_test (givesb d n m) (give_entry t)
          (λ g. by_test (onb n m (row_of d).creates) (λ c. never made (Serving.creates-at d n small m k e R c).free)
          (λ c. apart_entry 0 (Serving.all_from _ _ (may_apart d n small m c undeleted t g (rw O.empties (and-false (eqb m.request.a n)))) e.edits P.may) (λ y. (g, t)))))

    carried_entry : (deletesb d n m && eqb (status_of e.success) 0) ≡ false → Entry d n k m (status_of e.success) x
    unfolding status_of
    carried_entry undeleted =
        by-success (place_of d n) e.success e.edits P.shape
        (λ z. subst (λ (s : Success). Entry d n k m (status_of s) x) (sym z)
        (done_entry z (by_test (deletesb d n m) (λ w. never (and_in _ _ w (ap (λ (s : Success). eqb (status_of s) 0) z)) undeleted) (λ w. w))))
        (λ z A. apart_entry (status_of e.success) A (λ y. never y z))

  -- any call that does not delete it
  pub step_entry : (deletesb d n m && succeedsb (answer k m)) ≡ false → Entry d n k m (answer k m).status (next k m)
  unfolding succeedsb
  step_entry = by-step k S m (λ s x. (deletesb d n m && eqb s 0) ≡ false → Entry d n k m s x) (λ s z w. none_entry s k (λ y. never y z) (later_same d n k F) refl) carried_entry
