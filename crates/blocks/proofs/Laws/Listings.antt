-- Laws of lists of block numbers: below a bound slot by slot, and how often each is listed.
use mathlib.Core.Path.{◌≡◌, refl, sym, ap, ◌∙◌}
use mathlib.Core.List.{List, [], ◌∷◌, ◌++◌}
use mathlib.Core.Bool.{Bool, true, false, ◌&&◌, not, and-true, and_assoc}
use Prim.Native.Nat.{ℕ, zero, suc, ◌+◌, ◌≤◌, ◌<◌}
use native.Mathlib.Nat.{not-suc-le-zero, le_of_suc-le-suc}
use native.Mathlib.Omega.{arith}
use lib.ListN.{length, take, drop, get_or, set}
use lib.Seq.{get_or-set_same, get_or-set_other}
use lib.Dec.{eqb, ltb, leb}
use borrow.Author.Tests.{ltb-true, leb-true, le-leb, eqb-true, eq-eqb, ne_eqb}
use Rattle.std.specs.List.{list_all}
use Rattle.lines.specs.Logic.{one_if}
use Rattle.lines.specs.Lists.{count, below}
use Rattle.lines.proofs.Laws.Logic.{by_test, by_eq, and_left, and_right, and_in, one_at_most, all-at, all_in}
use Rattle.lines.proofs.Laws.Lists.{count_one}
use Rattle.lines.proofs.Laws.Lines.{take_one}
use Rattle.lines.proofs.Laws.Slots.{same_test, all_same}
use Rattle.blocks.specs.Pools.{onceb}

-- ---- all below a bound
pub below_at : (n : ℕ) (xs : List ℕ) → below n xs ≡ true → (i : ℕ) → i < length xs → get_or xs i 0 < n
unfolding below
below_at n [] e i h = absurd (not-suc-le-zero h)
below_at n (x ∷ xs) e zero h = ltb-true x n (and_left (ltb x n) (below n xs) e)
below_at n (x ∷ xs) e (suc i) h = below_at n xs (and_right (ltb x n) (below n xs) e) i (le_of_suc-le-suc h)

-- ---- all but the first
pub count_left : (t : ℕ) (xs : List ℕ) → count t (drop 1 xs) ≤ count t xs
unfolding count
count_left t [] = omega arith
count_left t (x ∷ xs) = let z : count t (x ∷ xs) ≡ one_if (eqb x t) + count t xs = refl in omega (arith, z)

pub first_rest : (xs : List ℕ) (d : ℕ) → 0 < length xs → xs ≡ get_or xs 0 d ∷ drop 1 xs
first_rest [] d h = absurd (not-suc-le-zero h)
first_rest (x ∷ xs) d h = refl

-- ---- tallies
-- counts of the first i slots of a list
abbrev pub Tallied : List ℕ → List ℕ → Type 0
Tallied counts xs = (k : ℕ) → k < 64 → get_or counts k 0 ≡ count k xs

-- one slot more, whose number is counted
pub tallied_more : (counts xs : List ℕ) (i : ℕ) → length counts ≡ 64 → i < length xs → get_or xs i 0 < 64 → Tallied counts (take i xs)
    → Tallied (set counts (get_or xs i 0) (get_or counts (get_or xs i 0) 0 + 1)) (take (i + 1) xs)
unfolding one_if
tallied_more counts xs i e h l t k b =
    let x = get_or xs i 0 in
    let o : count k (take (i + 1) xs) ≡ count k (take i xs) + one_if (eqb x k) = ap (count k) (take_one xs i h) ∙ count_one k x (take i xs) in
    let r = t k b in
    by_eq k x
    (λ q. let w : one_if (eqb x k) ≡ 1 = ap one_if (eq-eqb x k (sym q)) in
    let g : get_or (set counts x (get_or counts x 0 + 1)) k 0 ≡ get_or counts x 0 + 1 = ap (λ (j : ℕ). get_or (set counts x (get_or counts x 0 + 1)) j 0) q ∙ get_or-set_same counts x (get_or counts x 0 + 1) 0 (omega (arith, e, l)) in
    let y : get_or counts x 0 ≡ get_or counts k 0 = ap (λ (j : ℕ). get_or counts j 0) (sym q) in
    omega (arith, o, w, g, y, r))
    (λ q. let w : one_if (eqb x k) ≡ 0 = ap one_if (ne_eqb x k (λ z. q (sym z))) in
    let g = get_or-set_other counts x k (get_or counts x 0 + 1) 0 q in
    omega (arith, o, w, g, r))

-- one slot more, whose number is not counted
pub tallied_past : (counts xs : List ℕ) (i : ℕ) → i < length xs → 64 ≤ get_or xs i 0 → Tallied counts (take i xs) → Tallied counts (take (i + 1) xs)
unfolding one_if
tallied_past counts xs i h l t k b =
    let x = get_or xs i 0 in
    let o : count k (take (i + 1) xs) ≡ count k (take i xs) + one_if (eqb x k) = ap (count k) (take_one xs i h) ∙ count_one k x (take i xs) in
    let r = t k b in
    let w : one_if (eqb x k) ≡ 0 = ap one_if (ne_eqb x k (λ z. not-suc-le-zero (let y : 1 ≤ 0 = omega (arith, z, l, b) in y))) in
    omega (arith, o, w, r)

-- ---- a number that is not listed
pub unlisted : (n : ℕ) (xs : List ℕ) → list_all (λ (x : ℕ). not (eqb x n)) xs ≡ eqb (count n xs) 0
unfolding count one_if
unlisted n [] = refl
unlisted n (x ∷ xs) = ap (λ (b : Bool). not (eqb x n) && b) (unlisted n xs) ∙ go (eqb x n) (count n xs)
  where
    go : (e : Bool) (k : ℕ) → (not e && eqb k 0) ≡ eqb (one_if e + k) 0
    go true k = sym (ne_eqb (1 + k) 0 (λ z. not-suc-le-zero (let y : 1 ≤ 0 = omega (arith, z) in y)))
    go false k = ap (λ (j : ℕ). eqb j 0) (let z : k ≡ 0 + k = omega arith in z)

-- ---- one slot more of a listing
pub below_more : (n i : ℕ) (xs : List ℕ) → i < length xs → (below n (take i xs) && ltb (get_or xs i 0) n) ≡ below n (take (i + 1) xs)
unfolding below
below_more n i xs h = go (take i xs) (get_or xs i 0) ∙ sym (ap (below n) (take_one xs i h))
  where
    go : (ys : List ℕ) (y : ℕ) → (below n ys && ltb y n) ≡ below n (ys ++ (y ∷ []))
    go [] y = sym (and-true (ltb y n))
    go (z ∷ ys) y = and_assoc (ltb z n) (below n ys) (ltb y n) ∙ ap (λ (b : Bool). ltb z n && b) (go ys y)

module _ (i : ℕ) (xs : List ℕ) (h : i < length xs) where
  abbrev next : ℕ
  next = get_or xs i 0

  count_next : (k : ℕ) → count k (take (i + 1) xs) ≡ count k (take i xs) + one_if (eqb next k)
  count_next k = ap (count k) (take_one xs i h) ∙ count_one k next (take i xs)

  -- a number that is counted, and was not listed before
  pub once_more : next < 64 → (onceb (take i xs) && eqb (count next (take i xs)) 0) ≡ onceb (take (i + 1) xs)
  unfolding onceb one_if
  once_more l =
      same_test (onceb (take i xs) && eqb (count next (take i xs)) 0) (onceb (take (i + 1) xs))
      (λ e. all_in 64 (λ k. leb (count k (take (i + 1) xs)) 1) (grown e))
      (λ e. and_in (onceb (take i xs)) (eqb (count next (take i xs)) 0)
      (all_in 64 (λ k. leb (count k (take i xs)) 1) (λ k m. le-leb (count k (take i xs)) 1 (let c = count_next k in let z = at e k m in omega (arith, c, z))))
      (eq-eqb (count next (take i xs)) 0 (let w : one_if (eqb next next) ≡ 1 = ap one_if (eq-eqb next next refl) in let c = count_next next in let z = at e next l in omega (arith, w, c, z))))
    where
      at : onceb (take (i + 1) xs) ≡ true → (k : ℕ) → k < 64 → count k (take (i + 1) xs) ≤ 1
      at e k m = leb-true (count k (take (i + 1) xs)) 1 (all-at 64 (λ k. leb (count k (take (i + 1) xs)) 1) e k m)

      grown : (onceb (take i xs) && eqb (count next (take i xs)) 0) ≡ true → (k : ℕ) → k < 64 → leb (count k (take (i + 1) xs)) 1 ≡ true
      grown e k m =
          let a = and_left (onceb (take i xs)) (eqb (count next (take i xs)) 0) e in
          let b = eqb-true (count next (take i xs)) 0 (and_right (onceb (take i xs)) (eqb (count next (take i xs)) 0) e) in
          let c = count_next k in
          le-leb (count k (take (i + 1) xs)) 1
          (by_eq k next
          (λ q. let w = one_at_most (eqb next k) in let z = ap (λ (j : ℕ). count j (take i xs)) q in omega (arith, b, w, c, z))
          (λ q. let w : one_if (eqb next k) ≡ 0 = ap one_if (ne_eqb next k (λ z. q (sym z))) in let z = leb-true (count k (take i xs)) 1 (all-at 64 (λ k. leb (count k (take i xs)) 1) a k m) in omega (arith, w, c, z)))

  -- a number that is not counted
  pub once_past : 64 ≤ next → onceb (take i xs) ≡ onceb (take (i + 1) xs)
  unfolding onceb one_if
  once_past l =
      all_same 64 (λ k. leb (count k (take i xs)) 1) (λ k. leb (count k (take (i + 1) xs)) 1)
      (λ k m. let w : one_if (eqb next k) ≡ 0 = ap one_if (ne_eqb next k (λ z. not-suc-le-zero (let y : 1 ≤ 0 = omega (arith, z, l, m) in y))) in
      ap (λ (j : ℕ). leb j 1) (let c = count_next k in let z : count k (take i xs) ≡ count k (take (i + 1) xs) = omega (arith, w, c) in z))

-- ---- what breaks a listing
-- a number that is no block
pub below_broken : (b i : ℕ) (xs : List ℕ) → i < length xs → b ≤ get_or xs i 0 → below b xs ≡ false
below_broken b i xs h o =
    by_test (below b xs)
    (λ e. let s = below_at b xs e i h in absurd (omega (arith, s, o)))
    (λ e. e)

-- a part lists no number more often
count_part : (t j : ℕ) (xs : List ℕ) → count t (take j xs) ≤ count t xs
unfolding count
count_part t zero xs = omega arith
count_part t (suc j) [] = omega arith
count_part t (suc j) (x ∷ xs) =
    let r = count_part t j xs in
    let a : count t (take (suc j) (x ∷ xs)) ≡ one_if (eqb x t) + count t (take j xs) = refl in
    let b : count t (x ∷ xs) ≡ one_if (eqb x t) + count t xs = refl in
    omega (arith, r, a, b)

-- a number that is listed again
pub once_broken : (i : ℕ) (xs : List ℕ) → i < length xs → get_or xs i 0 < 64 → (count (get_or xs i 0) (take i xs) ≡ 0 → ⊥) → onceb xs ≡ false
unfolding onceb one_if
once_broken i xs h s o =
    by_test (onceb xs)
    (λ e. let x = get_or xs i 0 in
    let m = leb-true (count x xs) 1 (all-at 64 (λ k. leb (count k xs) 1) e x s) in
    let g = count_part x (i + 1) xs in
    let w : one_if (eqb x x) ≡ 1 = ap one_if (eq-eqb x x refl) in
    let c = count_next i xs h x in
    absurd (o (omega (arith, m, g, w, c))))
    (λ e. e)
