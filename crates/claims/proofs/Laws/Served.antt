-- Whom a call serves of those who waited on an object.
use mathlib.Core.Path.{◌≡◌, refl, sym, ap, ◌∙◌}
use mathlib.Core.List.{List, [], ◌∷◌}
use mathlib.Core.Bool.{Bool, true, false, ◌&&◌, ◌||◌, not}
use Prim.Native.Nat.{ℕ, suc, ◌<◌, ◌≤◌}
use native.Mathlib.Omega.{arith}
use lib.ListN.{length}
use lib.Dec.{eqb}
use borrow.Author.Tests.{eqb-true, eq-eqb, ne_eqb, ltb-true}
use Rattle.lines.specs.Lists.{filter, first, count}
use Rattle.lines.proofs.Laws.Logic.{by_test, by_eq, by_choice, never, and_left, and_right, and_in, implies_out}
use Rattle.lines.proofs.Laws.Lists
use Rattle.lines.proofs.Laws.Less
use Rattle.scheduler.specs.declared.thread.Thread.{Thread}
use Rattle.scheduler.specs.declared.thread.Place.{Place}
use Rattle.scheduler.specs.Threads.{pausedb, placedb, in_state, awake}
use Rattle.scheduler.specs.Orders.{line_at, first_at}
use Rattle.scheduler.proofs.Laws.Threads.{one_place}
use Rattle.scheduler.proofs.Laws.Orders
use Rattle.scheduler.proofs.Laws.States
use Rattle.scheduler.proofs.Laws.Fairness.{first_placed}
use Rattle.calls.specs.declared.held.Held.{Held}
use Rattle.calls.specs.Held.{holding}
use Rattle.scheduler.specs.Threads.{finishedb}
use Rattle.calls.specs.Statuses as Statuses
use Rattle.waiting.specs.Ticks.{timeout_status}
use Rattle.waiting.specs.Fit.{waits_onb, held_fitb, status_fitb, words_fitb, sender_fitb}
use Rattle.kernel.proofs.Laws.Objects
use Rattle.kernel.proofs.Laws.Fits
use Rattle.kernel.proofs.Laws.Lines
use Rattle.kernel.proofs.Laws.Changes
use Rattle.kernel.proofs.Laws.Does
use Rattle.kernel.specs.declared.Kernel.{Kernel}
use Rattle.kernel.specs.Tables.{thread_of, held_at}
use Rattle.kernel.specs.Kinds.{Kind, Object, state_on, place_of}
use Rattle.kernel.specs.Sound.{Fit}
use Rattle.kernel.specs.Edits.{status_by, Move, record_by, held_by, Edit, applied, gathered, movers, anyb, sameb, Effect, carried_out}
use Rattle.kernel.specs.Edits.Cause.{served, deleted, timed_out, aborted}
use Rattle.kernel.specs.Edits.Move.{ends, starts, stops, turns}
use Rattle.kernel.specs.Edits.Edit.{moves, alters, counts, ranks, stores, sets}
use Rattle.kernel.specs.Roles.{allb}
use Rattle.kernel.specs.Effects.{waitedb}
use Rattle.claims.specs.Rolls.{servedb}
use Rattle.claims.proofs.Laws.Members

-- ---- lists
-- a test that holds of nobody in a list
pub filter_none : (f : ℕ → Bool) (xs : List ℕ) → ((u : ℕ) → 0 < count u xs → f u ≡ false) → length (filter f xs) ≡ 0
unfolding filter
filter_none f [] h = refl
filter_none f (x ∷ xs) h =
    ap length (Lists.filter_no f x xs (h x (let c = Lists.count_here x xs in omega (arith, c)))) ∙ filter_none f xs (λ u c. h u (Members.in_tail x xs u c))

-- a test that holds of the first alone
filter-first : (f : ℕ → Bool) (xs : List ℕ) → first xs < 32 → count (first xs) xs ≤ 1 → f (first xs) ≡ true → ((u : ℕ) → 0 < count u xs → (u ≡ first xs → ⊥) → f u ≡ false) → length (filter f xs) ≡ 1
unfolding first
filter-first f [] l one is others = absurd (omega (arith, l))
filter-first f (x ∷ xs) l one is others =
    ap length (Lists.filter_yes f x xs is)
    ∙ ap suc (filter_none f xs (λ u c. others u (Members.in_tail x xs u c) (λ q. let h = Lists.count_here x xs in let e = ap (λ (v : ℕ). count v xs) q in omega (arith, c, h, e, one))))

-- ---- tests
-- who holds another status is not served
unserved : (x : Kernel) (u : ℕ) → ((held_at x u).status ≡ 0 → ⊥) → servedb x u ≡ false
unfolding servedb
unserved x u n = rw (ne_eqb (held_at x u).status 0 n) refl

-- who is finished is not served
finished_unserved : (x : Kernel) (u : ℕ) → finishedb (thread_of x u) ≡ true → servedb x u ≡ false
unfolding servedb
finished_unserved x u f = by_test (servedb x u) (λ s. never (and_right (eqb (held_at x u).status 0) _ s) (ap not f)) (λ s. s)

awake_unfinished : (th : Thread) → finishedb (awake th) ≡ false
unfolding awake in_state
awake_unfinished th = by_choice (λ (s : ℕ). (eqb s 1 || eqb s 2) ≡ false) th.suspending 3 0 (λ e. refl) (λ e. refl)

-- an edit neither ends a wait on the object of a place as served nor stores its record
unfoldable pub apartb : Place → Edit → Bool
apartb p (moves t (ends (served d i) words)) = not (sameb p (place_of d i))
apartb p (moves t (ends (deleted d i) words)) = true
apartb p (moves t (ends timed_out words)) = true
apartb p (moves t (ends aborted words)) = true
apartb p (moves t (starts front state object ticks h)) = true
apartb p (moves t stops) = true
apartb p (moves t (turns f g)) = true
apartb p (alters t f) = true
apartb p (counts t) = true
apartb p (ranks d i) = true
apartb p (stores d i x) = not (sameb p (place_of d i))
apartb p (sets c) = true

-- ---- waiters
module _ (p : Place) (waiters : 4 < p.state) where
  -- who stands there and moves is served by that object or not at all
  moved-served : (x : Kernel) (u : ℕ) (m : Move) (th : Thread) (h : Held) → placedb p th ≡ true → Fits.Was m th → held_at x u ≡ held_by m th h → Fits.seen (thread_of x u) ≡ Fits.seen (record_by m th)
      → servedb x u ≡ not (apartb p (moves u m))
  unfolding servedb apartb held_by status_by record_by holding in_state Fits.seen
  moved-served x u (ends (served e i) words) th h w was held seen =
      and_in (eqb (held_at x u).status 0) _ (eq-eqb (held_at x u).status 0 (ap (λ (y : Held). y.status) held)) (ap not (ap (λ (y : Thread). finishedb y) seen ∙ awake_unfinished th))
      ∙ sym (ap (λ (b : Bool). not (not b)) (Lines.place_same p (place_of e i) (one_place p th w (place_of e i) was)))
  moved-served x u (ends (deleted e i) words) th h w was held seen = unserved x u (λ z. let y = ap (λ (y : Held). y.status) held in omega (arith, y, z))
  moved-served x u (ends timed_out words) th h w was held seen =
      unserved x u (λ z. let t : 0 < timeout_status th h = Fits.by_timeout (λ s. 0 < s) th h (λ i. absurd (let s = Fits.placed-state p th w in omega (arith, s, waiters, i))) (omega arith) (omega arith) (omega arith) (omega arith) (omega arith) in let y = ap (λ (y : Held). y.status) held in omega (arith, t, y, z))
  moved-served x u (ends aborted words) th h w was held seen = unserved x u (λ z. let y = ap (λ (y : Held). y.status) held in omega (arith, y, z))
  moved-served x u (starts front state object ticks new) th h w was held seen = never (Fits.placed_paused p waiters th w) was
  moved-served x u stops th h w was held seen = finished_unserved x u (ap (λ (y : Thread). finishedb y) seen)
  moved-served x u (turns f g) th h w was held seen = never (Fits.placed_paused p waiters th w) was

-- those who wait on object n in tables k and are served in tables x
abbrev pub later : Kind → ℕ → Kernel → Kernel → ℕ
later d n k x = length (filter (servedb x) (line_at k.scheduler (place_of d n)))

module _ (d : Kind) (n : ℕ) (k : Kernel) (F : Fit k) where
  abbrev p : Place
  p = place_of d n

  abbrev line : List ℕ
  line = line_at k.scheduler p

  abbrev here : (u : ℕ) → 0 < count u line → placedb p (thread_of k u) ≡ true
  here = Fits.line_placed k.scheduler F.steady p

  held_fit : (u : ℕ) → placedb p (thread_of k u) ≡ true → held_fitb (thread_of k u) (held_at k u) ≡ true
  held_fit u w = F.held u (States.created_small k.scheduler F.steady u (Fits.placed-made p (thread_of k u) w))

  -- who waits holds 0x101
  waiter-status : (u : ℕ) → placedb p (thread_of k u) ≡ true → (held_at k u).status ≡ Statuses.waiting
  unfolding held_fitb status_fitb
  waiter-status u w =
      eqb-true (held_at k u).status Statuses.waiting
      (implies_out (pausedb (thread_of k u)) _ (and_left _ _ (and_left _ _ (and_left _ _ (and_left _ _ (and_left _ _ (held_fit u w)))))) (Fits.placed_paused p (Objects.state_low d) (thread_of k u) w))

  -- only who waits on a queue sends
  pub waiter_takes : (state_on d ≡ 5 → ⊥) → (u : ℕ) → placedb p (thread_of k u) ≡ true → (held_at k u).sending ≡ false
  unfolding held_fitb sender_fitb waits_onb
  waiter_takes other u w =
      let th = thread_of k u in
      let h = held_at k u in
      let f : sender_fitb th h ≡ true = and_right (status_fitb th h && words_fitb th h) _ (and_left _ _ (and_left _ _ (held_fit u w))) in
      by_test h.sending
      (λ s. absurd (other (sym (Fits.placed-state p th w) ∙ eqb-true th.state 5 (and_right th.created _ (implies_out h.sending _ (and_left _ _ (and_left _ _ f)) s)))))
      (λ s. s)

  -- who waits is not served
  pub waiter_unserved : (u : ℕ) → 0 < count u line → servedb k u ≡ false
  waiter_unserved u c = unserved k u (λ q. let w = waiter-status u (here u c) in omega (arith, q, w))

  pub later_same : later d n k k ≡ 0
  later_same = filter_none (servedb k) line waiter_unserved

  -- ---- after a call
  module _ (number a : ℕ) (e : Effect) (P : Does.Proper k number a e) where
    abbrev x : Kernel
    x = (carried_out k e).kernel

    -- who does not move is not served
    pub other_unserved : (u : ℕ) → placedb p (thread_of k u) ≡ true → count u (movers anyb e.edits) ≡ 0 → servedb x u ≡ false
    other_unserved u w z =
        let y = ap (λ (h : Held). h.status) ((Does.chosen_kept k number a e P u).held ∙ (Changes.kept-all k F.steady e.edits P.requires u z).held) in
        unserved x u (λ q. let s = waiter-status u w in omega (arith, q, s, y))

    moved_once : (u : ℕ) → (count u (movers anyb e.edits) ≡ 0 → ⊥) → Changes.MovedOnce k (applied k e.edits) e.edits u
    moved_once u z = Changes.moved_once k F.steady F.held_sized e.edits P.requires u (let o = P.once u in by_eq (count u (movers anyb e.edits)) 1 (λ y. y) (λ y. absurd (z (omega (arith, o, y)))))

    -- who moves is served where its move says so
    mover-served : (u : ℕ) → placedb p (thread_of k u) ≡ true → (W : Changes.MovedOnce k (applied k e.edits) e.edits u) → servedb x u ≡ not (apartb p (moves u W.move))
    mover-served u w W =
        let K = Does.chosen_kept k number a e P u in
        moved-served p (Objects.state_low d) x u W.move (thread_of W.at u) (held_at W.at u)
        (sym (Fits.placed_seen p (Objects.state_low d) _) ∙ ap (placedb p) W.kept.seen ∙ Fits.placed_seen p (Objects.state_low d) _ ∙ w) W.was (K.held ∙ W.held) (K.seen ∙ W.seen)

    -- the only edit stores, or none serves anybody there
    pub later-stored : (y : Object d) → e.edits ≡ stores d n y ∷ [] → later d n k x ≡ 0
    unfolding gathered
    later-stored y z = filter_none (servedb x) line (λ u c. other_unserved u (here u c) (ap (λ (es : List Edit). count u (movers anyb es)) z ∙ Less.count_none u))

    pub apart_unserved : allb (apartb p) e.edits ≡ true → (u : ℕ) → 0 < count u line → servedb x u ≡ false
    apart_unserved all u c =
        by_eq (count u (movers anyb e.edits)) 0 (other_unserved u (here u c)) (λ z. let W = moved_once u z in mover-served u (here u c) W ∙ ap not (W.among (apartb p) all))

    pub later_apart : allb (apartb p) e.edits ≡ true → later d n k x ≡ 0
    later_apart all = filter_none (servedb x) line (apart_unserved all)

    -- the only edit serves the first
    pub later_first : (words : List ℕ) → waitedb k d n ≡ true → e.edits ≡ moves (first_at k.scheduler p) (ends (served d n) words) ∷ [] → later d n k x ≡ 1
    unfolding first_at gathered apartb allb
    later_first words f q =
        let t = first line in
        let counts : (u : ℕ) → count u (movers anyb e.edits) ≡ count u (t ∷ []) = λ u. ap (λ (es : List Edit). count u (movers anyb es)) q in
        let W = moved_once t (λ z. let c = counts t in let h = Lists.count_here t [] in omega (arith, z, c, h)) in
        let one = W.among (λ y. not (apartb p y)) (ap (allb (λ y. not (apartb p y))) q ∙ rw (Lines.place_same p p refl)) in
        filter-first (servedb x) line (ltb-true t 32 f) (Orders.line_once k.scheduler F.steady t p)
        (mover-served t (first_placed k.scheduler p (ltb-true t 32 f)) W ∙ one)
        (λ u c o. other_unserved u (here u c) (counts u ∙ Lists.count_there u t [] (λ z. o (sym z)) ∙ Less.count_none u))
