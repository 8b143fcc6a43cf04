-- Those ahead of a thread: they leave one by one, and nobody comes between.
use mathlib.Core.Path.{◌≡◌, refl, sym, ap, ◌∙◌}
use mathlib.Core.List.{List, [], ◌∷◌, ◌++◌, append_assoc}
use mathlib.Core.Bool.{Bool, true}
use Prim.Native.Nat.{ℕ, ◌<◌}
use native.Mathlib.Omega.{arith}
use lib.Dec.{eqb}
use borrow.Author.Tests.{eq-eqb, ne_eqb}
use Rattle.lines.specs.Lists.{filter, count, less}
use Rattle.lines.proofs.Laws.Logic.{by_test, by_eq}
use Rattle.lines.proofs.Laws.Lists
use Rattle.lines.proofs.Laws.Less
use Rattle.scheduler.proofs.Laws.Orders
use Rattle.kernel.specs.declared.Kernel.{Kernel}
use Rattle.kernel.specs.Kinds.{Kind, place_of}
use Rattle.kernel.specs.Uses.{rolledb}
use Rattle.claims.specs.Lists.{Made, answer, next, after}
use Rattle.claims.specs.Rolls.{Entry, names, rolled, roll_after, lastsb, waiters_of, struck_off, left_by, ahead_of, NoPrioritiseOrDelete}
use Rattle.claims.proofs.Laws.Members
use Rattle.claims.proofs.Laws.Counts
use Rattle.claims.proofs.Laws.Rolls

-- two tests that agree on the members of a list
filter_alike : (f g : ℕ → Bool) (xs : List ℕ) → ((u : ℕ) → 0 < count u xs → f u ≡ g u) → filter f xs ≡ filter g xs
unfolding filter
filter_alike f g [] h = refl
filter_alike f g (x ∷ xs) h =
    let here = h x (omega (arith, Lists.count_here x xs)) in
    let more = filter_alike f g xs (λ u c. h u (Members.in_tail x xs u c)) in
    by_test (g x) (λ e. rw (here, e) (ap {B = List ℕ} (λ l. x ∷ l) more)) (λ e. rw (here, e) more)

-- a list less those of it who are not in a part of it is that part
part-less : (ts l s : List ℕ) → s ≡ less ts l → less (filter (λ u. eqb (count u s) 0) l) l ≡ s
unfolding less
part-less ts l s q =
    filter_alike (λ u. eqb (count u (filter (λ v. eqb (count v s) 0) l)) 0) (λ u. eqb (count u ts) 0) l
    (λ u c. by_eq (count u ts) 0
    (λ z. let a = ap (count u) q in let b = Less.less_kept ts l u z in
    rw (eq-eqb (count u ts) 0 z, Lists.count_dropped (λ v. eqb (count v s) 0) u l (ne_eqb (count u s) 0 (λ y. omega (arith, a, b, c, y)))) refl)
    (λ z. let a = ap (count u) q in let b = Less.less_gone ts l u (omega (arith, z)) in
    rw (ne_eqb (count u ts) 0 z, Lists.count_kept (λ v. eqb (count v s) 0) u l (eq-eqb (count u s) 0 (omega (arith, a, b)))) (ne_eqb (count u l) 0 (λ y. omega (arith, c, y)))))
    ∙ sym q

-- one who is not among them stays
kept_one : (ts : List ℕ) (t : ℕ) → count t ts ≡ 0 → less ts (t ∷ []) ≡ t ∷ []
unfolding less filter
kept_one ts t z = rw (eq-eqb (count t ts) 0 z) refl

-- who stands before t, in a line in which t stands behind them
ahead-all : (t : ℕ) (xs w : List ℕ) → count t xs ≡ 0 → ahead_of t (xs ++ (t ∷ w)) ≡ xs
unfolding ahead_of
ahead-all t [] w z = rw (eq-eqb t t refl) refl
ahead-all t (x ∷ xs) w z =
    by_eq x t
    (λ e. absurd (let c = Lists.count_here x xs in let y = ap (λ (v : ℕ). count v (x ∷ xs)) e in omega (arith, c, y, z)))
    (λ e. rw (ne_eqb x t e) (ap {B = List ℕ} (λ l. x ∷ l) (ahead-all t xs w (sym (Lists.count_there t x xs e) ∙ z))))

module _ (d : Kind) (o : rolledb d ≡ true) (n t : ℕ) where
  -- the roll after a call: those ahead less whom it struck off, and then the thread
  roll_shape : (k : Kernel) (r : List Entry) → Rolls.Lasts d n t k r → (m : Made) (xs : List ℕ) → names r ≡ xs ++ (t ∷ [])
      → (ts : List ℕ) → names (rolled d n m (answer k m) r) ≡ less ts (names r) → 0 < count t (names (rolled d n m (answer k m) r))
      → names (rolled d n m (answer k m) r) ≡ less (struck_off d n m (answer k m) r) xs ++ (t ∷ [])
  unfolding struck_off
  roll_shape k r L m xs q ts part c =
      let s = names (rolled d n m (answer k m) r) in
      let off = filter (λ u. eqb (count u s) 0) (names r) in
      let kept : count t off ≡ 0 = Lists.count_dropped (λ u. eqb (count u s) 0) t (names r) (ne_eqb (count t s) 0 (λ z. omega (arith, c, z))) in
      sym (part-less ts (names r) s part) ∙ ap (less off) q ∙ Less.less-append off xs (t ∷ [])
      ∙ ap (λ (l : List ℕ). less off xs ++ l) (kept_one off t kept)

  pub order : (before rest : List Made) (k : Kernel) (r : List Entry) (xs : List ℕ) → Rolls.Lasts d n t k r → names r ≡ xs ++ (t ∷ []) → NoPrioritiseOrDelete d n k (before ++ rest)
      → lastsb t (roll_after d n k r before) ≡ true → ahead_of t (waiters_of d n (after k before)) ≡ less (left_by d n k r before) xs
  unfolding after roll_after left_by
  order [] rest k r xs L q c w =
      let l = waiters_of d n k in
      let more = L.rolls.begins.0 in
      let is : l ≡ xs ++ (t ∷ more) = L.rolls.begins.1 ∙ ap (λ (ys : List ℕ). ys ++ more) q ∙ append_assoc xs (t ∷ []) more in
      let alone : count t xs ≡ 0 =
      let a = ap (count t) is in let b = Lists.count-append t xs (t ∷ more) in let h = Lists.count_here t more in let v = Orders.line_once k.scheduler L.sound.fit.steady t (place_of d n) in omega (arith, a, b, h, v) in
      ap (ahead_of t) is ∙ ahead-all t xs more alone ∙ sym (Less.less_none xs)
  order (m ∷ ms) rest k r xs L q c w =
      let s = rolled d n m (answer k m) r in
      let lasts = Rolls.next_lasts d o n t k r L m c.0 (Counts.lasted d n t ms (next k m) s w) in
      let P = Rolls.next_passes d o n t k r L m c.0 in
      let off = struck_off d n m (answer k m) r in
      let shape = roll_shape k r L m xs q P.part.0 P.part.1 lasts.stands in
      order ms rest (next k m) s (less off xs) lasts shape c.1 w ∙ Less.less-less off (left_by d n (next k m) s ms) xs
