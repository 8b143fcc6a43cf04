-- Nobody who comes later is served while a thread waits before them.
use mathlib.Core.Path.{◌≡◌, sym, ap, ◌∙◌}
use mathlib.Core.List.{List, [], ◌∷◌, ◌++◌}
use mathlib.Core.Bool.{Bool, true, false, ◌&&◌}
use Prim.Native.Nat.{ℕ, ◌<◌}
use native.Mathlib.Omega.{arith}
use lib.Dec.{eqb, ltb}
use lib.ListN.{length}
use borrow.Author.Tests.{eqb-true, ltb-true}
use Rattle.lines.specs.Logic.{one_if}
use Rattle.lines.specs.Lists.{filter, only_if, count, first, Begins}
use Rattle.lines.proofs.Laws.Logic.{by_test, by_eq, never, and_right, and_in}
use Rattle.lines.proofs.Laws.Lists
use Rattle.lines.proofs.Laws.Less
use Rattle.scheduler.specs.Threads.{readyb}
use Rattle.scheduler.specs.Orders.{first_at}
use Rattle.kernel.proofs.Laws.Objects
use Rattle.kernel.proofs.Laws.Fits
use Rattle.kernel.proofs.Laws.Does
use Rattle.kernel.specs.declared.Kernel.{Kernel}
use Rattle.kernel.specs.Tables.{thread_of, runner_of}
use Rattle.kernel.specs.Kinds.{Kind, size_of, place_of}
use Rattle.kernel.specs.Edits.{Edit, gathered, movers, anyb, Success, status_of, Effect, carried_out}
use Rattle.kernel.specs.Edits.Success.{done}
use Rattle.kernel.specs.Roles.{row_of, allb}
use Rattle.kernel.specs.Uses.{rolledb, Role}
use Rattle.claims.specs.Lists.{Made, answer, next}
use Rattle.claims.specs.Rolls.{Entry, names, onb, givesb, takesb, prioritises_or_deletesb, succeedsb, begins_waitb, waiters_of, rolled, roll_after, lastsb, servedb, late_after, served_late, NoPrioritiseOrDelete}
use Rattle.claims.proofs.Laws.Steps.{target, by-step}
use Rattle.claims.proofs.Laws.Serving
use Rattle.claims.proofs.Laws.Served
use Rattle.claims.proofs.Laws.Counts
use Rattle.claims.proofs.Laws.Rolls
use Rattle.claims.proofs.Laws.Entries

-- all of them wait there, and none is on the roll
abbrev Behind : Kind → ℕ → Kernel → List Entry → List ℕ → Type 0
Behind d n k r late = (u : ℕ) → 0 < count u late → (0 < count u (waiters_of d n k)) × (count u (names r) ≡ 0)

module _ (d : Kind) (o : rolledb d ≡ true) (n t : ℕ) (k : Kernel) (r : List Entry) (L : Rolls.Lasts d n t k r) (m : Made) where
  -- the first in line is on the roll
  first-named : 0 < count (first_at k.scheduler (place_of d n)) (names r)
  unfolding first_at
  first-named = by_roll (names r) L.rolls.begins L.stands
    where
      by_roll : (l : List ℕ) → Begins l (waiters_of d n k) → 0 < count t l → 0 < count (first (waiters_of d n k)) l
      by_roll [] b c = absurd (let z = Less.count_none t in omega (arith, c, z))
      by_roll (x ∷ xs) b c = rw (Lists.begins-first x xs (waiters_of d n k) b) (let h = Lists.count_here x xs in omega (arith, h))

  -- who waits there and is not on the roll is not served by a call that is carried out
  module _ (u : ℕ) (here : 0 < count u (waiters_of d n k)) (behind : count u (names r) ≡ 0) (e : Effect) (P : Does.Proper k m.request.number (target m) e)
      (R : Role k m.request.number (target m) m.request.b m.request.c m.messages e) where
    abbrev x : Kernel
    x = (carried_out k e).kernel

    low : n < size_of d
    low = Rolls.low d o n t k r L m

    -- by edits that do not move it
    unmoved : (es : List Edit) → e.edits ≡ es → count u (movers anyb es) ≡ 0 → servedb x u ≡ false
    unmoved es q z =
        Served.other_unserved d n k L.sound.fit m.request.number (target m) e P u (Fits.line_placed k.scheduler L.sound.fit.steady (place_of d n) u here) (ap (λ (l : List Edit). count u (movers anyb l)) q ∙ z)

    apart : allb (Served.apartb (place_of d n)) e.edits ≡ true → servedb x u ≡ false
    apart all = Served.apart_unserved d n k L.sound.fit m.request.number (target m) e P all u here

    unserved_done : e.success ≡ done → prioritises_or_deletesb d n m ≡ false → servedb x u ≡ false
    unfolding gathered givesb takesb prioritises_or_deletesb
    unserved_done z kept-order =
        by_test (givesb d n m)
        (λ g. unmoved _ (ap (λ (y : Effect). y.edits) (Rolls.first-served d o n t k r L m e P R g))
        (Lists.count_there u (first_at k.scheduler (place_of d n)) [] (λ q. let f = first-named in let s = ap (λ (v : ℕ). count v (names r)) q in omega (arith, f, s, behind)) ∙ Less.count_none u))
        (λ g. by_test (takesb d n m) (λ y. Does.waits-not_done (sym ((Serving.takes_at d n low m k e R y).waits o t (Rolls.taker d o n t k r L m)) ∙ z))
        (λ y. by_test (onb n m (row_of d).empties) (λ v. unmoved [] (Serving.empties-at d n low m k e R v t (Rolls.taker d o n t k r L m)) (Less.count_none u))
        (λ v. by_test (onb n m (row_of d).creates) (λ c. never (Rolls.made d o n t k r L m) (Serving.creates-at d n low m k e R c).free)
        (λ c. apart (Serving.all_from _ _ (Entries.may_apart d n low m c (Serving.or_false (onb n m (row_of d).prioritises) _ kept-order).1 y g v) e.edits P.may)))))

    pub unserved-carried : (eqb (status_of e.success) 0 ≡ true → prioritises_or_deletesb d n m ≡ false) → servedb x u ≡ false
    unfolding status_of
    unserved-carried kept-order =
        Entries.by-success (place_of d n) e.success e.edits P.shape (λ z. unserved_done z (kept-order (ap (λ (s : Success). eqb (status_of s) 0) z))) (λ z all. apart all)

  -- nor by any call
  module _ (kept-order : (prioritises_or_deletesb d n m && succeedsb (answer k m)) ≡ false) where
    unserved : (u : ℕ) → 0 < count u (waiters_of d n k) → count u (names r) ≡ 0 → servedb (next k m) u ≡ false
    unfolding succeedsb
    unserved u here behind =
        by-step k L.sound m (λ s y. (eqb s 0 ≡ true → prioritises_or_deletesb d n m ≡ false) → servedb y u ≡ false)
        (λ s z f. Served.waiter_unserved d n k L.sound.fit u here) (unserved-carried u here behind)
        (λ y. by_test (prioritises_or_deletesb d n m) (λ v. never (and_in (prioritises_or_deletesb d n m) _ v y) kept-order) (λ v. v))

    pub none-served : (late : List ℕ) → Behind d n k r late → length (filter (servedb (next k m)) late) ≡ 0
    none-served late B = Served.filter_none (servedb (next k m)) late (λ u c. unserved u (B u c).0 (B u c).1)

  -- who runs is not on the roll
  runner_off : count (runner_of k) (names r) ≡ 0
  unfolding readyb
  runner_off =
      let u = runner_of k in
      by_eq (count u (names r)) 0 (λ z. z)
      (λ z. let c : 0 < count u (names r) = omega (arith, z) in
      let y = Rolls.placed d o n t k r L m u c in
      let s = Fits.placed-state (place_of d n) (thread_of k u) y in
      let low = Objects.state_low d in
      let i = eqb-true (thread_of k u).state 0 (and_right (thread_of k u).created _ (L.sound.runs.ready (Rolls.small d o n t k r L m u c))) in
      absurd (omega (arith, s, i, low)))

  -- those who come later are behind the roll
  pub behind-next : (late : List ℕ) → Behind d n k r late → Behind d n (next k m) (rolled d n m (answer k m) r) (late_after d n k late m)
  unfolding late_after
  behind-next late B u c =
      let stands : ℕ → Bool = λ v. ltb 0 (count v (waiters_of d n (next k m))) in
      let begins = takesb d n m && begins_waitb (answer k m) in
      let came = only_if begins (runner_of k) in
      let f = Counts.fewer-rolled d n u m (answer k m) r in
      let p = Lists.count-part stands u (late ++ came) in
      let a = Lists.count-append u late came in
      let off : count u (names r) ≡ 0 =
      by_eq (count u late) 0
      (λ z. by_eq u (runner_of k) (λ q. ap (λ (v : ℕ). count v (names r)) q ∙ runner_off) (λ q. absurd (let y = Lists.count-not_only (runner_of k) u begins q in omega (arith, c, p, a, z, y))))
      (λ z. (B u (omega (arith, z))).1) in
      (by_test (stands u) (λ y. ltb-true 0 (count u (waiters_of d n (next k m))) y) (λ y. absurd (let z = Lists.count_dropped stands u (late ++ came) y in omega (arith, c, z))), omega (arith, f, off))

module _ (d : Kind) (o : rolledb d ≡ true) (n t : ℕ) where
  pub none_late : (before : List Made) (m : Made) (rest : List Made) (k : Kernel) (r : List Entry) (late : List ℕ) → Rolls.Lasts d n t k r → Behind d n k r late
      → NoPrioritiseOrDelete d n k (before ++ (m ∷ rest)) → lastsb t (roll_after d n k r before) ≡ true → served_late d n k late (before ++ (m ∷ [])) ≡ 0
  unfolding served_late roll_after one_if
  none_late [] m rest k r late L B c w =
      let a = ap one_if (Rolls.none_taken d o n t k r L m) in let b = none-served d o n t k r L m c.0 late B in omega (arith, a, b)
  none_late (b ∷ bs) m rest k r late L B c w =
      let s = rolled d n b (answer k b) r in
      let lasts = Rolls.next_lasts d o n t k r L b c.0 (Counts.lasted d n t bs (next k b) s w) in
      let a = ap one_if (Rolls.none_taken d o n t k r L b) in
      let g = none-served d o n t k r L b c.0 late B in
      let more = none_late bs m rest (next k b) s (late_after d n k late b) lasts (behind-next d o n t k r L b late B) c.1 w in
      omega (arith, a, g, more)
