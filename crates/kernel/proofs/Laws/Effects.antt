-- Effects that many calls share, and that they are proper.
use mathlib.Core.Path.{◌≡◌, refl, sym, ap, ◌∙◌}
use mathlib.Core.List.{List, [], ◌∷◌, ◌++◌, append-nil}
use mathlib.Core.Bool.{Bool, true, false, ◌&&◌, ◌||◌}
use Prim.Native.Nat.{ℕ, ◌<◌, ◌≤◌}
use Prim.{tt}
use native.Mathlib.Omega.{arith}
use lib.Dec.{eqb, ltb}
use borrow.Author.Tests.{eqb-true, eq-eqb, ltb-true, ne_eqb, not-true}
use Rattle.lines.specs.Lists.{count}
use Rattle.lines.proofs.Laws.Logic.{by_eq, never, and_left, and_right, and_in, or-rest}
use Rattle.lines.proofs.Laws.Lists
use Rattle.lines.proofs.Laws.Less
use Rattle.scheduler.specs.declared.thread.Thread.{Thread}
use Rattle.scheduler.specs.Threads.{readyb, pausedb, awake, in_state}
use Rattle.scheduler.specs.Sound.{fitb}
use Rattle.scheduler.proofs.Laws.States
use Rattle.calls.specs.declared.held.Held.{Held}
use Rattle.calls.specs.Held.{no_words}
use Rattle.calls.specs.Chains.{unless, first_of}
use Rattle.waiting.specs.Fit.{waits_onb, held_fitb}
use Rattle.kernel.specs.declared.Kernel.{Kernel}
use Rattle.kernel.specs.Tables.{thread_of, runner_of, held_at}
use Rattle.kernel.specs.Kinds.{Kind, Object, state_on, object_at, waitb}
use Rattle.kernel.specs.Sound.{MayWait, Fit, Sound}
use Rattle.kernel.specs.Edits.{Cause, record_by, Edit, edited, applied, gathered, mover, movers, anyb, counted, startsb, Success}
use Rattle.kernel.specs.Edits.Move.{ends, starts, turns}
use Rattle.kernel.specs.Edits.Edit.{moves, alters, ranks, stores}
use Rattle.kernel.specs.Edits.Success.{done, waits}
use Rattle.kernel.specs.Roles.{may_moveb, mayb, allb}
use Rattle.kernel.specs.Effects.{gives, does, begins, ends_each}
use Rattle.kernel.proofs.Laws.Answers.{first_none, unless_none}
use Rattle.kernel.proofs.Laws.Edits
use Rattle.kernel.proofs.Laws.Objects
use Rattle.kernel.proofs.Laws.Waits
use Rattle.kernel.proofs.Laws.Fits
use Rattle.kernel.proofs.Laws.Lines
use Rattle.kernel.proofs.Laws.Changes
use Rattle.kernel.proofs.Laws.Does

-- ---- reasons and first arguments
-- its first argument names what it changes
pub here : (n : ℕ) → (eqb n n && true) ≡ true
here n = and_in (eqb n n) true (eq-eqb n n refl) refl

pub is_true : (b : Bool) (status rest : ℕ) → 0 < status → first_of (unless b status) rest ≡ 0 → b ≡ true
is_true b status rest pos e = unless_none b status pos (first_none _ rest e)

or-first : (a b : Bool) → (a || b) ≡ true → b ≡ false → a ≡ true
or-first true b w z = refl
or-first false b w z = never w z

-- who may wait and does is a running thread with a wait that is not 0
pub waiter_runs : (k : Kernel) (caller wait : ℕ) → (eqb caller 2 ≡ true → runner_of k < 32) → (eqb wait 0 || eqb caller 2) ≡ true → (here : Bool) → (ltb 0 wait || here) ≡ true → here ≡ false
    → (0 < wait) × (runner_of k < 32)
waiter_runs k caller wait runs may here some none =
    let pos = ltb-true 0 wait (or-first (ltb 0 wait) here some none) in
    (pos, runs (or-rest (eqb wait 0) (eqb caller 2) may (ne_eqb wait 0 (λ z. omega (arith, pos, z)))))

-- who runs is created, and ready
pub runner-made : (k : Kernel) → Sound k → runner_of k < 32 → (thread_of k (runner_of k)).created ≡ true
unfolding readyb
runner-made k S l = and_left (thread_of k (runner_of k)).created _ (S.runs.ready l)

pub runner-ready : (k : Kernel) → Sound k → runner_of k < 32 → (thread_of k (runner_of k)).state ≡ 0
unfolding readyb
runner-ready k S l = eqb-true (thread_of k (runner_of k)).state 0 (and_right (thread_of k (runner_of k)).created _ (S.runs.ready l))

-- ---- one edit, or none
pub once_only : (t u : ℕ) → count u (t ∷ []) ≤ 1
once_only t u = by_eq u t (λ z. let h = Lists.count_here t [] in let c = Less.count_none t in let y = ap (λ (v : ℕ). count v (t ∷ [])) z in omega (arith, h, c, y)) (λ z. let y = Lists.count_there u t [] (λ q. z (sym q)) in let c = Less.count_none u in omega (arith, y, c))

pub only_one : (t u : ℕ) → 0 < count u (t ∷ []) → u ≡ t
only_one t u l = by_eq u t (λ z. z) (λ z. absurd (let y = Lists.count_there u t [] (λ q. z (sym q)) in let c = Less.count_none u in omega (arith, l, y, c)))

once_one : (e : Edit) (u : ℕ) → count u (movers anyb (e ∷ [])) ≤ 1
unfolding gathered count
once_one e u = Edits.by_edit (λ e. count u (movers anyb (e ∷ [])) ≤ 1) (λ t m. once_only t u) (λ t f. omega arith) (λ t. omega arith) (λ d n. omega arith) (λ d n x. omega arith) (λ c. omega arith) e

module _ (k : Kernel) (F : Fit k) (n a : ℕ) where
  pub proper_none : (words : List ℕ) → Does.Proper k n a (gives words [])
  unfolding applied gathered count allb
  proper_none words = record { requires = tt; fit = F; once = λ u. omega arith; may = refl; shape = refl }

  pub proper_one : (s : Success) (words : List ℕ) (b : Bool) (e : Edit) → Fits.Requires k e → Fits.KeepsFit k e → mayb n a e ≡ true → Does.Shape s (e ∷ [])
      → Does.Proper k n a (record { success = s; words = words; relinquishes = b; edits = e ∷ [] })
  unfolding allb
  proper_one s words b e A G m shape =
      record { requires = (A, tt); fit = Fits.fit_all k F (e ∷ []) ((A, G), tt); once = once_one e; may = and_in (mayb n a e) true m refl; shape = shape }

  -- a thread does not wait, before or after
  pub proper_turn : (t : ℕ) (f : Thread → Thread) (g : Held → Held) (words : List ℕ) (b : Bool) → t < 32 → pausedb (thread_of k t) ≡ false → fitb (f (thread_of k t)) ≡ true → (f (thread_of k t)).state < 4
      → held_fitb (f (thread_of k t)) (g (held_at k t)) ≡ true → Does.Proper k n a (record { success = done; words = words; relinquishes = b; edits = moves t (turns f g) ∷ [] })
  unfolding record_by startsb mayb may_moveb allb Lines.unstartedb
  proper_turn t f g words b small was fit low holds =
      proper_one done words b (moves t (turns f g)) (record { small = small; fit = fit; was = was; is = States.rest-not_paused (f (thread_of k t)) low; blank = tt }) (holds, low) refl refl

  -- a record changes where the thread stands
  pub proper_alter : (t : ℕ) (f : Thread → Thread) (words : List ℕ) → Fits.Altered k t (f (thread_of k t)) → (f (thread_of k t)).ticks ≡ (thread_of k t).ticks → mayb n a (alters t f) ≡ true → Does.Proper k n a (gives words (alters t f ∷ []))
  unfolding allb Lines.unstartedb
  proper_alter t f words A e m = proper_one done words false (alters t f) (A, e) tt m refl

  -- a wait ends
  pub ends-moved : (t : ℕ) (c : Cause) (words : List ℕ) → Fits.Blank c words → Fits.Was (ends c words) (thread_of k t) → Fits.Moved k t (ends c words)
  unfolding record_by startsb
  ends-moved t c words blank was =
      let made = States.paused-made (thread_of k t) (Fits.ends_paused c words (thread_of k t) was) in
      let small = States.created_small k.scheduler F.steady t made in
      record { small = small; fit = States.fit-awake (thread_of k t) made (F.steady.fit t small); was = was; is = States.rest-not_paused (awake (thread_of k t)) (States.awake-state (thread_of k t)); blank = blank }

  pub proper_end : (t : ℕ) (c : Cause) (words : List ℕ) → Fits.Blank c words → Fits.Was (ends c words) (thread_of k t) → may_moveb n a t (ends c words) ≡ true → Does.Proper k n a (does (moves t (ends c words) ∷ []))
  unfolding mayb startsb allb Lines.unstartedb
  proper_end t c words blank was m = proper_one done no_words false (moves t (ends c words)) (ends-moved t c words blank was) tt m refl

  -- the running thread begins to wait or sleep
  pub proper-start : Sound k → runner_of k < 32 → (front : Bool) (state object ticks : ℕ) (h : Held) → 4 ≤ state → state ≤ 8 → (state ≡ 4 → object ≡ 0) → 0 < ticks
      → ((th : Thread) → th.created ≡ true → th.state ≡ state → held_fitb th h ≡ true) → MayWait k (in_state state object ticks (thread_of k (runner_of k))) h
      → may_moveb n a (runner_of k) (starts front state object ticks h) ≡ true → Does.Proper k n a (begins k front state object ticks h)
  unfolding record_by startsb mayb in_state
  proper-start S l front state object ticks h low known o pos holds w m =
      let t = runner_of k in
      let made = runner-made k S l in
      let ready = runner-ready k S l in
      proper_one waits no_words false (moves t (starts front state object ticks h))
      (record {
        small = l;
        fit = States.fit_in_wait state object ticks (thread_of k t) made (F.steady.fit t l) low known o pos;
        was = States.rest-not_paused (thread_of k t) (omega (arith, ready));
        is = States.paused_in (in_state state object ticks (thread_of k t)) made low;
        blank = tt;
      })
      (holds (in_state state object ticks (thread_of k t)) made refl, w) m (t, starts front state object ticks h, refl, refl)

  -- on an object
  pub proper_wait : Sound k → runner_of k < 32 → (d : Kind) (front : Bool) (i ticks : ℕ) (h : Held) → 0 < ticks
      → ((th : Thread) → th.created ≡ true → th.state ≡ state_on d → held_fitb th h ≡ true) → waitb d h (object_at d k i) ≡ true
      → may_moveb n a (runner_of k) (starts front (state_on d) i ticks h) ≡ true → Does.Proper k n a (begins k front (state_on d) i ticks h)
  unfolding in_state
  proper_wait S l d front i ticks h pos holds w m =
      let low = Objects.state_low d in
      proper-start S l front (state_on d) i ticks h (omega (arith, low)) (Objects.state_known d) (λ z. absurd (omega (arith, z, low))) pos holds
      (Fits.wait_on k (in_state (state_on d) i ticks (thread_of k (runner_of k))) h d refl w) m

  -- an object gets another record
  pub proper-store : (d : Kind) (i : ℕ) (x : Object d) (words : List ℕ) → Fits.Stored d k i x → mayb n a (stores d i x) ≡ true → Does.Proper k n a (gives words (stores d i x ∷ []))
  unfolding allb Lines.unstartedb
  proper-store d i x words G m = proper_one done words false (stores d i x) tt G m refl

  pub proper_rank : (d : Kind) (i : ℕ) → mayb n a (ranks d i) ≡ true → Does.Proper k n a (does (ranks d i ∷ []))
  unfolding allb Lines.unstartedb
  proper_rank d i m = proper_one done no_words false (ranks d i) tt tt m refl

-- ---- lists of edits one behind the other
pub fits-append : (k : Kernel) (es fs : List Edit) → Fits.Fits k es → Fits.Fits (applied k es) fs → Fits.Fits k (es ++ fs)
unfolding applied
fits-append k [] fs a b = b
fits-append k (e ∷ es) fs a b = (a.0, fits-append (edited k e) es fs a.1 b)

-- several edits that are fit one after the other, and move nobody twice
pub proper-all : (k : Kernel) → Fit k → (n a : ℕ) (es : List Edit) (words : List ℕ) → Fits.Fits k es → ((u : ℕ) → count u (movers anyb es) ≤ 1) → allb (mayb n a) es ≡ true → allb Lines.unstartedb es ≡ true → Does.Proper k n a (gives words es)
proper-all k F n a es words fits once may shape = record { requires = Fits.requires-of k es fits; fit = Fits.fit_all k F es fits; once = once; may = may; shape = shape }

-- ---- the waits of several end
module _ (c : Cause) (words : List ℕ) (blank : Fits.Blank c words) where
  counted-each : (xs : List ℕ) → counted (ends_each c words xs) ≡ []
  unfolding gathered ends_each
  counted-each [] = refl
  counted-each (t ∷ ts) = counted-each ts

  all-each : (f : Edit → Bool) (xs : List ℕ) → ((t : ℕ) → f (moves t (ends c words)) ≡ true) → allb f (ends_each c words xs) ≡ true
  unfolding allb ends_each
  all-each f [] e = refl
  all-each f (t ∷ ts) e = and_in (f (moves t (ends c words))) _ (e t) (all-each f ts e)

  -- each of them waits as the cause says, and once
  fits_each : (k : Kernel) → Fit k → (xs : List ℕ) → ((u : ℕ) → count u xs ≤ 1) → ((u : ℕ) → 0 < count u xs → Fits.Was (ends c words) (thread_of k u)) → Fits.Fits k (ends_each c words xs)
  unfolding ends_each
  fits_each k F [] once was = tt
  fits_each k F (t ∷ ts) once was =
      let here = Lists.count_here t ts in
      let e1 = moves t (ends c words) in
      let g = ends-moved k F 0 0 t c words blank (was t (omega (arith, here))) in (
        (g, tt),
        fits_each (edited k e1) (Fits.fit_edit k F e1 g tt) ts
            (λ u. by_eq u t
            (λ e. let a = ap (λ (v : ℕ). count v ts) e in let o = once t in omega (arith, a, here, o))
            (λ e. let a = Lists.count_there u t ts (λ q. e (sym q)) in let o = once u in omega (arith, a, o)))
            (λ u q. by_eq u t
            (λ e. absurd (let a = ap (λ (v : ℕ). count v ts) e in let o = once t in omega (arith, a, here, o, q)))
            (λ e. rw (Fits.thread-moved k F t (ends c words) g u e) (was u (let a = Lists.count_there u t ts (λ p. e (sym p)) in omega (arith, a, q))))),
      )

  module _ (k : Kernel) (F : Fit k) (xs : List ℕ) (once : (u : ℕ) → count u xs ≤ 1) (was : (u : ℕ) → 0 < count u xs → Fits.Was (ends c words) (thread_of k u)) where
    abbrev ended : Kernel
    ended = applied k (ends_each c words xs)

    -- who waits on an object afterwards is none of them, and waits as before
    pub each_left : (d : Kind) (u : ℕ) → waits_onb (state_on d) (thread_of ended u) ≡ true → (count u xs ≡ 0) × Changes.Kept k ended u 0
    unfolding Lines.unstartedb startsb
    each_left d u w =
        let requires = Fits.requires-of k (ends_each c words xs) (fits_each k F xs once was) in
        let moved = ap (count u) (Waits.movers-each c words anyb xs refl) in
        by_eq (count u xs) 0
        (λ z. (z, rw (← Less.count_none u, ← counted-each xs) (Changes.kept-all k F.steady (ends_each c words xs) requires u (moved ∙ z))))
        (λ z. let o = once u in
        let q : count u xs ≡ 1 = omega (arith, z, o) in
        let g = Changes.moved_once k F.steady F.held_sized (ends_each c words xs) requires u (moved ∙ q) in
        never w (Changes.moved_once-waits k ended (ends_each c words xs) u g (not-true (startsb g.move) (g.among Lines.unstartedb (all-each Lines.unstartedb xs (λ t. refl)))) d))

    -- and then an object gets another record
    pub proper-each : (n a : ℕ) (d : Kind) (i : ℕ) (x : Object d) (out : List ℕ) → Fits.Stored d ended i x → ((t : ℕ) → may_moveb n a t (ends c words) ≡ true) → mayb n a (stores d i x) ≡ true
        → Does.Proper k n a (gives out (ends_each c words xs ++ (stores d i x ∷ [])))
    unfolding applied gathered allb mayb Lines.unstartedb startsb
    proper-each n a d i x out G m s =
        let es = ends_each c words xs in
        let store = stores d i x ∷ [] in
        proper-all k F n a (es ++ store) out (fits-append k es store (fits_each k F xs once was) ((tt, G), tt))
        (λ u. let o = once u in let q = ap (count u) (Edits.gathered-append (mover anyb) es store ∙ append-nil (movers anyb es) ∙ Waits.movers-each c words anyb xs refl) in omega (arith, o, q))
        (Edits.all_append (mayb n a) es store (all-each (mayb n a) xs m) (and_in (mayb n a (stores d i x)) true s refl))
        (Edits.all_append Lines.unstartedb es store (all-each Lines.unstartedb xs (λ t. refl)) refl)
