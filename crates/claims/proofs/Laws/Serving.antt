-- Who leaves the line of an object by one call, and which calls are those of the object.
use mathlib.Core.Path.{◌≡◌, refl, sym, ap, ◌∙◌, subst}
use mathlib.Core.List.{List, [], ◌∷◌, ◌++◌, append-nil}
use mathlib.Core.Bool.{Bool, true, false, ◌||◌, not}
use Prim.Native.Nat.{ℕ, ◌<◌}
use native.Mathlib.Omega.{arith}
use lib.Dec.{eqb}
use borrow.Author.Tests.{eqb-true, eq-eqb}
use Rattle.lines.specs.Logic.{one_if}
use Rattle.lines.specs.Lists.{count, without, only_if, less}
use Rattle.lines.proofs.Laws.Logic.{by_test, by_eq, never, and_left, and_right, and_in, or-rest}
use Rattle.lines.proofs.Laws.Lists
use Rattle.lines.proofs.Laws.Less
use Rattle.scheduler.specs.declared.thread.Place.{Place}
use Rattle.scheduler.specs.Threads.{placedb, in_state}
use Rattle.scheduler.specs.Sound.{Steady}
use Rattle.scheduler.specs.Orders.{line_at}
use Rattle.scheduler.proofs.Laws.Orders
use Rattle.calls.specs.declared.held.Held.{Held}
use Rattle.kernel.proofs.Laws.Edits
use Rattle.kernel.proofs.Laws.Objects
use Rattle.kernel.proofs.Laws.Fits
use Rattle.kernel.proofs.Laws.Lines
use Rattle.kernel.proofs.Laws.Changes
use Rattle.kernel.proofs.Laws.Does
use Rattle.kernel.specs.declared.Kernel.{Kernel}
use Rattle.kernel.specs.Tables.{thread_of}
use Rattle.kernel.specs.Kinds.{Kind, size_of, place_of}
use Rattle.kernel.specs.Kinds.Kind.{semaphore, queue, group, pool}
use Rattle.kernel.specs.Sound.{Fit}
use Rattle.kernel.specs.Edits.{Move, record_by, frontb, Edit, edited, applied, gathered, mover, movers, anyb, counted_by, counted, sameb, leavesb, line_by, lines_by, Effect, carried_out}
use Rattle.kernel.specs.Edits.Cause.{served, deleted, timed_out, aborted}
use Rattle.kernel.specs.Edits.Move.{ends, starts, stops, turns}
use Rattle.kernel.specs.Edits.Edit.{moves, counts}
use Rattle.calls.specs.Callers.{one_of}
use Rattle.kernel.specs.Roles.{row_of, kind_of, limit_of, may_moveb, mayb, allb}
use Rattle.kernel.specs.Uses.{Creates, Takes, Gives, Empties, Role}
use Rattle.claims.specs.Lists.{Made}
use Rattle.claims.specs.Rolls.{onb, givesb, takesb, prioritises_or_deletesb}
use Rattle.claims.proofs.Laws.Steps.{target}
use Rattle.claims.proofs.Laws.Members

-- ---- edits
-- where no edit for which f holds moves so or counts, nobody does
none_move : (c : Move → Bool) (f : Edit → Bool) → ((t : ℕ) (m : Move) → f (moves t m) ≡ true → c m ≡ false) → ((t : ℕ) → f (counts t) ≡ true → ⊥)
    → (es : List Edit) → allb f es ≡ true → (movers c es ≡ []) × (counted es ≡ [])
unfolding gathered
none_move c f h g [] a = (refl, refl)
none_move c f h g (e ∷ es) a =
    let r = none_move c f h g es (Edits.all_rest f e es a) in
    Edits.by_edit (λ e. f e ≡ true → (movers c (e ∷ es) ≡ []) × (counted (e ∷ es) ≡ []))
    (λ t m y. (rw (h t m y) r.0, r.1)) (λ t s y. r) (λ t y. absurd (g t y)) (λ d n y. r) (λ d n x y. r) (λ n y. r) e (Edits.all_first f e es a)

pub all_from : (f g : Edit → Bool) → ((e : Edit) → f e ≡ true → g e ≡ true) → (es : List Edit) → allb f es ≡ true → allb g es ≡ true
unfolding allb
all_from f g h [] a = refl
all_from f g h (e ∷ es) a = and_in (g e) (allb g es) (h e (and_left (f e) (allb f es) a)) (all_from f g h es (and_right (f e) (allb f es) a))

-- ---- the line of waiters after a call that is carried out
module _ (p : Place) (waiters : 4 < p.state) where
  -- who stands there and does not leave is not moved
  unmoved : (k : Kernel) (e : Edit) → Fits.Requires k e → (u : ℕ) → placedb p (thread_of k u) ≡ true → count u (movers (leavesb p) (e ∷ [])) ≡ 0 → count u (movers anyb (e ∷ [])) ≡ 0
  unfolding gathered
  unmoved k e G u y =
      Edits.by_edit (λ e. Fits.Requires k e → count u (movers (leavesb p) (e ∷ [])) ≡ 0 → count u (movers anyb (e ∷ [])) ≡ 0)
      (λ t m G z. by_test (leavesb p m) (λ l. rw l at z)
      (λ l. by_eq t u (λ q. never (ap (λ (v : ℕ). placedb p (thread_of k v)) q ∙ y) (Lines.away p waiters m (thread_of k t) G.was l)) (λ q. Lists.count_there u t [] q ∙ Less.count_none u)))
      (λ t f G z. z) (λ t G z. z) (λ d n G z. z) (λ d n x G z. z) (λ c G z. z) e G

  -- and keeps what it holds, in tables y that differ by the choice
  kept-all : (k y : Kernel) → Steady k.scheduler → (es : List Edit) → Fits.RequiresAll k es → (u : ℕ) → Changes.Kept (applied k es) y u 0 → placedb p (thread_of k u) ≡ true → count u (movers (leavesb p) es) ≡ 0 → Changes.Kept k y u (count u (counted es))
  unfolding applied gathered
  kept-all k y S [] G u C h z = rw (Less.count_none u) C
  kept-all k y S (e ∷ es) G u C h z =
      let c = Edits.gathered-count (mover (leavesb p)) e es u in
      let a = Changes.kept-all k S (e ∷ []) (G.0, tt) u (unmoved k e G.0 u h (omega (arith, c, z))) in
      rw (Edits.gathered-count counted_by e es u)
      (Changes.kept_then k (edited k e) y u _ _ a
      (kept-all (edited k e) y (Fits.steady_edit k S e G.0) es G.1 u C (sym (Fits.placed_seen p waiters _) ∙ ap (placedb p) a.seen ∙ Fits.placed_seen p waiters _ ∙ h) (omega (arith, c, z))))

  module _ (k : Kernel) (F : Fit k) (n a : ℕ) (e : Effect) (P : Does.Proper k n a e) where
    abbrev es : List Edit
    es = e.edits

    abbrev x : Kernel
    x = (carried_out k e).kernel

    kept : (u : ℕ) → 0 < count u (line_at k.scheduler p) → count u (movers (leavesb p) es) ≡ 0 → Changes.Kept k x u (count u (counted es))
    kept u c z = kept-all k x F.steady es P.requires u (Does.chosen_kept k n a e P u) (Fits.line_placed k.scheduler F.steady p u c) z

    -- nobody begins to wait, and the line is not ranked
    pub leaves_done : allb Lines.unstartedb es ≡ true → allb (Lines.unrankedb p) es ≡ true → Members.Leaves p k x (movers (leavesb p) es) (counted es)
    leaves_done s r =
        let line = Does.chosen-line k n a e P p ∙ Lines.waiters-after p waiters k F.steady es P.requires s r in
        record {
          line = ([], line ∙ sym (append-nil _));
          gone = λ u c. ap (count u) line ∙ Less.less_gone (movers (leavesb p) es) (line_at k.scheduler p) u c;
          kept = kept;
        }

    -- one thread begins to wait, and does not join that line at the front
    pub leaves_none : (t : ℕ) (front : Bool) (state object ticks : ℕ) (h : Held) → es ≡ moves t (starts front state object ticks h) ∷ [] → (front ≡ true → placedb p (in_state state object ticks (thread_of k t)) ≡ false) → Members.Leaves p k x [] []
    unfolding lines_by line_by frontb record_by gathered leavesb one_if
    leaves_none t front state object ticks h q back =
        let l = line_at k.scheduler p in
        let b = placedb p (in_state state object ticks (thread_of k t)) in
        let away = Lines.away p waiters (starts front state object ticks h) (thread_of k t) (subst (Fits.RequiresAll k) q P.requires).0.was refl in
        let same : without t l ≡ less [] l = Lists.without_none t l (Orders.line-count k.scheduler F.steady t p ∙ ap one_if away) ∙ sym (Less.less_none l) in
        let line = Does.chosen-line k n a e P p ∙ Lines.line_after k F.steady es P.requires p ∙ ap (λ (fs : List Edit). lines_by k fs p l) q in
        record {
          line = by_test front
              (λ f. ([], line ∙ rw (f, back f) (same ∙ sym (append-nil (less [] l)))))
              (λ f. (only_if b t, line ∙ rw f (ap (λ (ys : List ℕ). ys ++ only_if b t) same)));
          gone = λ u c. absurd (let z = Less.count_none u in omega (arith, c, z));
          kept = λ u c z. subst (λ (fs : List Edit). Changes.Kept k x u (count u (counted fs))) q (kept u c (ap (λ (fs : List Edit). count u (movers (leavesb p) fs)) q ∙ Less.count_none u));
        }

-- ---- the calls of an object
pub or_false : (a b : Bool) → (a || b) ≡ false → (a ≡ false) × (b ≡ false)
or_false true b e = never refl e
or_false false b e = (refl, e)

-- the calls of these numbers are for objects of that kind
abbrev pub Own : Kind → List ℕ → Type 0
Own d [] = Unit {0}
Own d (n ∷ ns) = ((kind_of n ≡ d) × (limit_of n ≡ size_of d)) × Own d ns

pub own_row : (d : Kind) → Own d (row_of d).takes × Own d (row_of d).gives × Own d (row_of d).empties × Own d (row_of d).deletes × Own d (row_of d).prioritises × Own d (row_of d).creates
unfolding limit_of
own_row semaphore = (((refl, refl), tt), ((refl, refl), ((refl, refl), tt)), tt, ((refl, refl), tt), ((refl, refl), tt), ((refl, refl), tt))
own_row queue = (((refl, refl), tt), ((refl, refl), ((refl, refl), tt)), ((refl, refl), tt), ((refl, refl), tt), ((refl, refl), tt), ((refl, refl), tt))
own_row group = (((refl, refl), tt), ((refl, refl), tt), tt, ((refl, refl), tt), tt, ((refl, refl), tt))
own_row pool = (((refl, refl), tt), ((refl, refl), tt), tt, ((refl, refl), tt), ((refl, refl), tt), ((refl, refl), tt))

pub own_kind : (d : Kind) (n : ℕ) (l : List ℕ) → Own d l → one_of n l ≡ true → (kind_of n ≡ d) × (limit_of n ≡ size_of d)
own_kind d n [] own o = never o refl
own_kind d n (i ∷ l) own o = by_test (eqb n i) (λ e. rw (eqb-true n i e) own.0) (λ e. own_kind d n l own.1 (or-rest (eqb n i) (one_of n l) o e))

module _ (d : Kind) (n : ℕ) (small : n < size_of d) (m : Made) where
  -- its target is the object
  on_target : (l : List ℕ) → Own d l → onb n m l ≡ true → (target m ≡ n) × (one_of m.request.number l ≡ true)
  unfolding onb
  on_target l own o =
      let a = eqb-true m.request.a n (and_left (eqb m.request.a n) (one_of m.request.number l) o) in
      let y = and_right (eqb m.request.a n) (one_of m.request.number l) o in
      let z = (own_kind d m.request.number l own y).1 in
      (omega (arith, a, z, small), y)

  pub target_on : (l : List ℕ) → Own d l → target m ≡ n → one_of m.request.number l ≡ true → onb n m l ≡ true
  unfolding onb
  target_on l own a o = let z = (own_kind d m.request.number l own o).1 in and_in (eqb m.request.a n) (one_of m.request.number l) (eq-eqb m.request.a n (omega (arith, a, z, small))) o

  -- what holds of every call of a column on its target holds of one on the object
  at-object : (Q : Kind → ℕ → Type 0) (l : Kind → List ℕ) → Own d (l d) → (one_of m.request.number (l (kind_of m.request.number)) ≡ true → Q (kind_of m.request.number) (target m)) → onb n m (l d) ≡ true → Q d n
  at-object Q l own f g =
      let o = on_target (l d) own g in
      subst (Q d) o.0 (subst (λ (c : Kind). one_of m.request.number (l c) ≡ true → Q c (target m)) (own_kind d m.request.number (l d) own o.1).0 f o.1)

  module _ (k : Kernel) (e : Effect) (R : Role k m.request.number (target m) m.request.b m.request.c m.messages e) where
    pub gives_at : givesb d n m ≡ true → Gives d k n m.request.b m.request.c m.messages e
    unfolding givesb
    gives_at = at-object (λ c i. Gives c k i m.request.b m.request.c m.messages e) (λ c. (row_of c).gives) (own_row d).1 (Does.when R.2)

    pub takes_at : takesb d n m ≡ true → Takes d k n e
    unfolding takesb
    takes_at = at-object (λ c i. Takes c k i e) (λ c. (row_of c).takes) (own_row d).0 (Does.when R.1)

    pub empties-at : onb n m (row_of d).empties ≡ true → Empties d k n e
    empties-at = at-object (λ c i. Empties c k i e) (λ c. (row_of c).empties) (own_row d).2 (Does.when R.3)

    pub creates-at : onb n m (row_of d).creates ≡ true → Creates d k n m.request.b m.request.c e
    creates-at = at-object (λ c i. Creates c k i m.request.b m.request.c e) (λ c. (row_of c).creates) (own_row d).5 (Does.when R.0)

  abbrev p : Place
  p = place_of d n

  -- an edit of a column of which the call is not one of this object's is for another place
  pub elsewhere : (c : Kind) (i : ℕ) (l : Kind → List ℕ) → Own d (l d) → onb n m (l d) ≡ false → eqb i (target m) ≡ true → one_of m.request.number (l c) ≡ true → sameb p (place_of c i) ≡ false
  elsewhere c i l own f a y =
      by_test (sameb p (place_of c i))
      (λ s. let z = Lines.same_place p (place_of c i) s in
      never (target_on (l d) own (sym (eqb-true i (target m) a) ∙ sym (ap (λ (x : Place). x.number) z)) (ap (λ (b : Kind). one_of m.request.number (l b)) (Objects.same_kind d c (ap (λ (x : Place). x.state) z)) ∙ y)) f)
      (λ s. s)

  -- where the object is not prioritised or deleted
  module _ (kept-order : prioritises_or_deletesb d n m ≡ false) where
    unranked : (e : Edit) → mayb m.request.number (target m) e ≡ true → Lines.unrankedb p e ≡ true
    unfolding mayb Lines.unrankedb prioritises_or_deletesb
    unranked =
        Edits.by_edit (λ e. mayb m.request.number (target m) e ≡ true → Lines.unrankedb p e ≡ true) (λ t x y. refl) (λ t f y. refl) (λ t y. refl)
        (λ c i y. ap not (elsewhere c i (λ b. (row_of b).prioritises) (own_row d).4 (or_false (onb n m (row_of d).prioritises) (onb n m (row_of d).deletes) kept-order).0 (and_left _ _ y) (and_right (eqb i (target m)) _ y))) (λ c i x y. refl) (λ i y. refl)

    pub all_unranked : (es : List Edit) → allb (mayb m.request.number (target m)) es ≡ true → allb (Lines.unrankedb p) es ≡ true
    all_unranked = all_from (mayb m.request.number (target m)) (Lines.unrankedb p) unranked

    -- and nobody is served there, terminated, aborted or timed out, nobody leaves
    module _ (g : givesb d n m ≡ false) (t : takesb d n m ≡ false) (z : onb n m (row_of d).empties ≡ false) (other : (eqb m.request.number 5 || eqb m.request.number 10) ≡ false) (untimed : eqb m.request.number 15 ≡ false) where
      stays : (u : ℕ) (x : Move) → may_moveb m.request.number (target m) u x ≡ true → leavesb p x ≡ false
      unfolding may_moveb leavesb givesb takesb prioritises_or_deletesb
      stays u (ends (served c i) words) y =
          let a = and_left (eqb i (target m)) _ y in
          by_test (one_of m.request.number (row_of c).gives)
          (λ w. elsewhere c i (λ b. (row_of b).gives) (own_row d).1 g a w)
          (λ w. by_test (one_of m.request.number (row_of c).takes)
          (λ v. elsewhere c i (λ b. (row_of b).takes) (own_row d).0 t a v)
          (λ v. elsewhere c i (λ b. (row_of b).empties) (own_row d).2 z a (rw (w, v) at (and_right (eqb i (target m)) _ y))))
      stays u (ends (deleted c i) words) y = elsewhere c i (λ b. (row_of b).deletes) (own_row d).3 (or_false (onb n m (row_of d).prioritises) _ kept-order).1 (and_left _ _ y) (and_right (eqb i (target m)) _ y)
      stays u (ends timed_out words) y = never y untimed
      stays u (ends aborted words) y = never (and_left (eqb m.request.number 10) _ y) (or_false (eqb m.request.number 5) _ other).1
      stays u (starts front state object ticks h) y = refl
      stays u stops y = never (and_left (eqb m.request.number 5) _ y) (or_false (eqb m.request.number 5) _ other).0
      stays u (turns f h) y = refl

      pub nobody_leaves : (es : List Edit) → allb (mayb m.request.number (target m)) es ≡ true → (movers (leavesb p) es ≡ []) × (counted es ≡ [])
      unfolding mayb
      nobody_leaves = none_move (leavesb p) (mayb m.request.number (target m)) stays (λ u y. never y untimed)
