-- First come, first served, for one call: while a thread's wait lasts, the roll goes over into the roll after the call.
use mathlib.Core.Path.{◌≡◌, refl, sym, ap, ◌∙◌, subst}
use mathlib.Core.List.{List, [], ◌∷◌, ◌++◌}
use mathlib.Core.Bool.{Bool, true, false, ◌&&◌, ◌||◌}
use Prim.Native.Nat.{ℕ, ◌<◌}
use native.Mathlib.Omega.{arith}
use lib.Dec.{eqb}
use borrow.Author.Tests.{eqb-true, ltb-true, eq-eqb}
use Rattle.std.specs.Prelude.{if◌then◌else◌}
use Rattle.lines.specs.Logic.{implies}
use Rattle.lines.specs.Lists.{count, without, less}
use Rattle.lines.proofs.Laws.Logic.{by_test, by_eq, by_choice, never, and_left, and_right, and_in, or-rest}
use Rattle.lines.proofs.Laws.Lists
use Rattle.lines.proofs.Laws.Less
use Rattle.scheduler.specs.declared.thread.Place.{Place}
use Rattle.scheduler.specs.Threads.{on_queue, placedb, in_state}
use Rattle.scheduler.specs.Orders.{line_at, first_at}
use Rattle.scheduler.proofs.Laws.States
use Rattle.calls.specs.declared.held.Held.{Held}
use Rattle.scheduler.specs.Threads.{finishedb}
use Rattle.kernel.proofs.Laws.Edits
use Rattle.kernel.proofs.Laws.Objects
use Rattle.kernel.proofs.Laws.Fits
use Rattle.waiting.proofs.Laws.Held
use Rattle.kernel.proofs.Laws.Lines
use Rattle.kernel.proofs.Laws.Does
use Rattle.kernel.proofs.Laws.Does.{Shape, Proper}
use Rattle.kernel.specs.declared.Kernel.{Kernel}
use Rattle.kernel.specs.Tables.{thread_of, held_at}
use Rattle.kernel.specs.Kinds.{Kind, size_of, state_on, place_of, object_at, createdb}
use Rattle.kernel.specs.Sound.{Fit, Sound}
use Rattle.kernel.specs.Edits.{Move, Edit, gathered, movers, counted, startsb, leavesb, Success, status_of, Effect, carried_out}
use Rattle.kernel.specs.Edits.Cause.{served}
use Rattle.kernel.specs.Edits.Move.{ends, starts, stops, turns}
use Rattle.kernel.specs.Edits.Edit.{moves}
use Rattle.kernel.specs.Edits.Success.{done, lifted, waits}
use Rattle.calls.specs.Callers.{one_of}
use Rattle.kernel.specs.Roles.{row_of, limit_of, may_moveb, mayb, allb}
use Rattle.kernel.specs.Effects.{does}
use Rattle.kernel.specs.Threads.{terminate_effect, abort_effect}
use Rattle.kernel.specs.Uses.{Taker, rolledb, given_words, Role}
use Rattle.claims.specs.Lists.{Made, answer, next}
use Rattle.claims.specs.Rolls.{Entry, names, rest, each, unnamed, ticked, onb, givesb, takesb, prioritises_or_deletesb, succeedsb, strike_out, rolled, roll_of, lastsb, Waits, start_roll}
use Rattle.claims.proofs.Laws.Steps.{target, next_sound, by-step}
use Rattle.claims.proofs.Laws.Members
use Rattle.claims.proofs.Laws.Serving
use Rattle.claims.proofs.Laws.Served.{waiter_takes}

-- the thread's wait lasts: it is in the roll, and waits to take
pub record Lasts (d : Kind) (n t : ℕ) (k : Kernel) (r : List Entry) : Type 0 where
  pub sound : Sound k
  pub rolls : Members.Rolls (place_of d n) k r
  pub stands : 0 < count t (names r)
  pub takes : (held_at k t).sending ≡ false

module _ (d : Kind) (o : rolledb d ≡ true) (n t : ℕ) (k : Kernel) (r : List Entry) (L : Lasts d n t k r) (m : Made) where
  abbrev F : Fit k
  F = L.sound.fit

  abbrev p : Place
  p = place_of d n

  abbrev waiters : 4 < state_on d
  waiters = Objects.state_low d

  -- a member waits there
  pub placed : (u : ℕ) → 0 < count u (names r) → placedb p (thread_of k u) ≡ true
  placed u c = Fits.line_placed k.scheduler F.steady p u (Members.member p k r L.rolls u c)

  pub small : (u : ℕ) → 0 < count u (names r) → u < 32
  small u c = States.created_small k.scheduler F.steady u (Fits.placed-made p (thread_of k u) (placed u c))

  pub taker : Taker d k n t
  taker = (placed t L.stands, L.takes)

  -- the object is created
  pub made : createdb d (object_at d k n) ≡ true
  made =
      let y = placed t L.stands in
      Objects.waits-created d k F n t (small t L.stands) (Held.in-state (state_on d) (thread_of k t) (Fits.placed-made p (thread_of k t) y) (Fits.placed-state p (thread_of k t) y)) (Fits.placed-object p waiters (thread_of k t) y)

  pub low : n < size_of d
  low = Objects.object_small d k F n made

  not_member : (u : ℕ) → (0 < count u (names r) → ⊥) → without u (names r) ≡ names r
  not_member u f = Lists.without_none u (names r) (by_eq (count u (names r)) 0 (λ q. q) (λ q. absurd (f (omega (arith, q)))))

  pub finished-not : (u : ℕ) → finishedb (thread_of k u) ≡ true → 0 < count u (names r) → ⊥
  finished-not u f c =
      let i = (thread_of k u).state in
      let s = Fits.placed-state p (thread_of k u) (placed u c) in
      by_test (eqb i 1) (λ a. omega (arith, s, waiters, eqb-true i 1 a)) (λ a. omega (arith, s, waiters, eqb-true i 2 (or-rest (eqb i 1) (eqb i 2) f a)))

  -- a thread past the last is no member, nor is the number that stands for it
  same_target : limit_of m.request.number ≡ 32 → without m.request.a (names r) ≡ without (target m) (names r)
  same_target l =
      by_eq m.request.a (target m)
      (λ q. ap (λ (i : ℕ). without i (names r)) q)
      (λ q. not_member m.request.a (λ c. let y = small m.request.a c in q (omega (arith, l, y))) ∙ sym (not_member (target m) (λ c. let y = small (target m) c in q (omega (arith, l, y)))))

  -- ---- a call that is carried out
  module _ (e : Effect) (P : Proper k m.request.number (target m) e) (R : Role k m.request.number (target m) m.request.b m.request.c m.messages e) where
    abbrev es : List Edit
    es = e.edits

    abbrev x : Kernel
    x = (carried_out k e).kernel

    -- a giving call serves the first
    pub first-served : givesb d n m ≡ true → e ≡ does (moves (first_at k.scheduler p) (ends (served d n) (given_words d k n m.request.b m.request.c m.messages)) ∷ [])
    first-served g = (Serving.gives_at d n low m k e R g).first o t taker

    left : (fs : List Edit) → es ≡ fs → allb Lines.unstartedb es ≡ true → allb (Lines.unrankedb p) es ≡ true → Members.Leaves p k x (movers (leavesb p) fs) (counted fs)
    left fs q s f = subst (λ (l : List Edit). Members.Leaves p k x (movers (leavesb p) l) (counted l)) q (Serving.leaves_done p waiters k F m.request.number (target m) e P s f)

    -- ---- with 0x00
    module _ (z : e.success ≡ done) (kept-order : prioritises_or_deletesb d n m ≡ false) where
      left_by_lem : (fs : List Edit) → es ≡ fs → Members.Leaves p k x (movers (leavesb p) fs) (counted fs)
      left_by_lem fs q = left fs q (subst (λ (s : Success). Shape s es) z P.shape) (Serving.all_unranked d n low m kept-order es P.may)

      first_passes : givesb d n m ≡ true → Members.Passes p k x r (rest r)
      unfolding gathered leavesb
      first_passes g =
          let f = first_at k.scheduler p in
          Members.passes-first p k x F.steady r t L.stands
          (subst (λ (b : Bool). Members.Leaves p k x ((if b then f ∷ [] else []) ++ []) []) (Lines.place_same p p refl) (left_by_lem _ (ap (λ (y : Effect). y.edits) (first-served g)))) L.rolls

      named_by : (ts : List ℕ) → Members.Leaves p k x ts [] → limit_of m.request.number ≡ 32 → without (target m) (names r) ≡ less ts (names r) → Members.Passes p k x r (each (unnamed m.request.a) r)
      named_by ts A l s = Members.passes-named p k x ts m.request.a r A L.rolls (same_target l ∙ s)

      named_passes : (eqb m.request.number 5 || eqb m.request.number 10) ≡ true → Members.Passes p k x r (each (unnamed m.request.a) r)
      unfolding gathered leavesb limit_of terminate_effect abort_effect
      named_passes g =
          let a = target m in
          let one = sym (Less.less_one a (names r)) in
          by_test (eqb m.request.number 5)
          (λ y. let i = eqb-true m.request.number 5 y in
          let q = ap (λ (f : Effect). f.edits) (Does.when R.4 y) in
          by_test (finishedb (thread_of k a))
          (λ f. named_by [] (left_by_lem [] (q ∙ rw f)) (ap limit_of i) (not_member a (finished-not a f) ∙ sym (Less.less_none (names r))))
          (λ f. named_by (a ∷ []) (left_by_lem (moves a stops ∷ []) (q ∙ rw f)) (ap limit_of i) one))
          (λ y. let i = eqb-true m.request.number 10 (or-rest (eqb m.request.number 5) (eqb m.request.number 10) g y) in
          named_by (a ∷ []) (left_by_lem _ (ap (λ (f : Effect). f.edits) (Does.when R.5 (eq-eqb m.request.number 10 i)))) (ap limit_of i) one)

      ticked_passes : m.request.number ≡ 15 → Members.Passes p k x r (each ticked r)
      ticked_passes i =
          Members.passes-ticked p k x e (Does.when R.6 (eq-eqb m.request.number 15 i)) (left_by_lem es refl) r (λ v c. (small v c, Fits.placed_paused p waiters (thread_of k v) (placed v c))) L.rolls

      other_passes : givesb d n m ≡ false → (eqb m.request.number 5 || eqb m.request.number 10) ≡ false → eqb m.request.number 15 ≡ false → Members.Passes p k x r r
      unfolding gathered
      other_passes g i j =
          let taken : takesb d n m ≡ false = by_test (takesb d n m) (λ y. Does.waits-not_done (sym ((Serving.takes_at d n low m k e R y).waits o t taker) ∙ z)) (λ y. y) in
          by_test (onb n m (row_of d).empties)
          (λ y. Members.passes_same p k x r (left_by_lem [] (Serving.empties-at d n low m k e R y t taker)) L.rolls)
          (λ y. Members.passes_same p k x r (let (a, b) = Serving.nobody_leaves d n low m kept-order g taken y i j es P.may in rw (a, b) at (left_by_lem es refl)) L.rolls)

      done_passes : Members.Passes p k x r (strike_out d n m r)
      unfolding strike_out
      done_passes =
          by_choice (Members.Passes p k x r) (givesb d n m) _ _ first_passes
          (λ g. by_choice (Members.Passes p k x r) (eqb m.request.number 5 || eqb m.request.number 10) _ _ named_passes
          (λ i. by_choice (Members.Passes p k x r) (eqb m.request.number 15) _ _ (λ j. ticked_passes (eqb-true m.request.number 15 j)) (other_passes g i)))

    -- ---- with 0x19: one record changes
    lifted_passes : e.success ≡ lifted → Members.Passes p k x r r
    unfolding allb Lines.unstartedb Lines.unrankedb gathered
    lifted_passes z = let q = (subst (λ (s : Success). Shape s es) z P.shape).2 in Members.passes_same p k x r (left _ q (ap (allb Lines.unstartedb) q) (ap (allb (Lines.unrankedb p)) q)) L.rolls

    -- ---- with 0x101: the caller begins to wait
    -- who would join this line at the front would send to a queue on which somebody waits to receive
    front-gives : (v : ℕ) (state object ticks : ℕ) (h : Held) → may_moveb m.request.number (target m) v (starts true state object ticks h) ≡ true → placedb p (in_state state object ticks (thread_of k v)) ≡ true → givesb d n m ≡ true
    unfolding may_moveb implies in_state givesb
    front-gives v state object ticks h y a =
        let send = and_left (eqb m.request.number 25 && eqb state on_queue) (eqb object (target m)) y in
        let number = eqb-true m.request.number 25 (and_left (eqb m.request.number 25) (eqb state on_queue) send) in
        let same = eqb-true state on_queue (and_right (eqb m.request.number 25) (eqb state on_queue) send) in
        let there = eqb-true object (target m) (and_right (eqb m.request.number 25 && eqb state on_queue) (eqb object (target m)) y) in
        Serving.target_on d n low m (row_of d).gives (Serving.own_row d).1 (sym there ∙ Fits.placed-object p waiters _ a)
        (ap (λ (c : Kind). one_of m.request.number (row_of c).gives) (Objects.same_kind d Kind.queue (sym (Fits.placed-state p _ a) ∙ same)) ∙ ap (λ (i : ℕ). one_of i (row_of Kind.queue).gives) number)

    starts_passes : (v : ℕ) (w : Move) → startsb w ≡ true → es ≡ moves v w ∷ [] → e.success ≡ waits → Members.Passes p k x r r
    unfolding startsb mayb
    starts_passes v (ends c words) s q z = never s refl
    starts_passes v (starts front state object ticks h) s q z =
        let may = Edits.all_first (mayb m.request.number (target m)) _ [] (ap (allb (mayb m.request.number (target m))) (sym q) ∙ P.may) in
        Members.passes_same p k x r
        (Serving.leaves_none p waiters k F m.request.number (target m) e P v front state object ticks h q
        (λ f. by_test (placedb p (in_state state object ticks (thread_of k v)))
        (λ a. Does.waits-not_done (sym z ∙ ap (λ (y : Effect). y.success) (first-served (front-gives v state object ticks h (rw f at may) a))))
        (λ a. a))) L.rolls
    starts_passes v stops s q z = never s refl
    starts_passes v (turns f g) s q z = never s refl

    carried_passes : (s : Success) → e.success ≡ s → (eqb (status_of s) 0 ≡ true → prioritises_or_deletesb d n m ≡ false) → Members.Passes p k x r (if eqb (status_of s) 0 then strike_out d n m r else r)
    unfolding status_of
    carried_passes done z kept-order = done_passes z (kept-order refl)
    carried_passes lifted z kept-order = lifted_passes z
    carried_passes waits z kept-order = let (v, w, s, q) = subst (λ (y : Success). Shape y es) z P.shape in starts_passes v w s q z

  -- ---- any call
  -- no taking call is served
  pub none_taken : (takesb d n m && succeedsb (answer k m)) ≡ false
  unfolding succeedsb status_of
  none_taken =
      by_test (takesb d n m)
      (λ g. rw g (by-step k L.sound m (λ s y. eqb s 0 ≡ false) (λ s z. z) (λ e P R. ap (λ (s : Success). eqb (status_of s) 0) ((Serving.takes_at d n low m k e R g).waits o t taker)))) (λ g. rw g)

  module _ (kept-order : (prioritises_or_deletesb d n m && succeedsb (answer k m)) ≡ false) where
    pub next_passes : Members.Passes p k (next k m) r (rolled d n m (answer k m) r)
    unfolding rolled succeedsb
    next_passes =
        by-step k L.sound m (λ s y. (eqb s 0 ≡ true → prioritises_or_deletesb d n m ≡ false) → Members.Passes p k y r (if eqb s 0 then strike_out d n m r else r))
        (λ s z f. rw z (record { rolls = L.rolls; gone = λ u c i. absurd (omega (arith, c, i)); held = λ u c. refl; part = ([], sym (Less.less_none (names r))) })) (λ e P R. carried_passes e P R e.success refl)
        (λ y. by_test (prioritises_or_deletesb d n m) (λ u. never (and_in (prioritises_or_deletesb d n m) _ u y) kept-order) (λ u. u))

    -- the wait goes on where the thread is not struck out
    pub next_lasts : lastsb t (rolled d n m (answer k m) r) ≡ true → Lasts d n t (next k m) (rolled d n m (answer k m) r)
    unfolding lastsb
    next_lasts w =
        let c = ltb-true 0 (count t (names (rolled d n m (answer k m) r))) w in
        record { sound = next_sound k L.sound m; rolls = next_passes.rolls; stands = c; takes = ap (λ (h : Held). h.sending) (next_passes.held t c) ∙ L.takes }

-- ---- the start
pub start : (d : Kind) (n : ℕ) (k : Kernel) → Sound k → (ahead : List ℕ) (t : ℕ) → Waits k d n ahead t → Lasts d n t k (start_roll k ahead t)
start d n k S ahead t W =
    let xs = ahead ++ (t ∷ []) in
    let p = place_of d n in
    let F = S.fit in
    let c = Members.stands_last ahead t in
    let y = Fits.line_placed k.scheduler F.steady p t (let b = Lists.begins-count xs (line_at k.scheduler p) W.line t in omega (arith, b, c)) in
    record {
      sound = S;
      rolls = record { begins = rw (Members.names_roll k xs) W.line; agrees = ap (roll_of k) (sym (Members.names_roll k xs)) };
      stands = rw (Members.names_roll k xs) c;
      takes = by_eq (state_on d) on_queue (λ z. W.receives (Objects.same_kind d Kind.queue z)) (λ z. waiter_takes d n k F z t y);
    }
