-- Laws of the best of a list: it is the first of those with the smallest key.
use mathlib.Core.Path.{◌≡◌, refl, sym, ap, ◌∙◌}
use mathlib.Core.List.{List, [], ◌∷◌}
use mathlib.Core.Bool.{Bool, true, false, ◌&&◌, and-false}
use Prim.Native.Nat.{ℕ, ◌≤◌, ◌<◌}
use native.Mathlib.Omega.{arith}
use lib.Dec.{ltb, leb}
use borrow.Author.Tests.{ltb-true, ltb-false, leb-true, le-leb}
use Rattle.std.specs.Prelude.{if◌then◌else◌}
use Rattle.lines.specs.Lists.{filter, count, first, first_with, leastb, best_of}
use Rattle.lines.specs.Loops.{better_of}
use Rattle.lines.specs.declared.Best.{Best}
use Rattle.lines.proofs.Laws.Logic.{by_test, by_eq, and_left, and_right, and_in}
use Rattle.lines.proofs.Laws.Lists.{first_here, first_later, first_holds, first_stands, first_known, first_some, filter_same, count_here, count_there}

module _ (key : ℕ → ℕ) where
  -- nobody in the list has a smaller key
  pub least_out : (k : ℕ) (xs : List ℕ) → leastb key k xs ≡ true → (t : ℕ) → 0 < count t xs → k ≤ key t
  unfolding leastb count
  least_out k [] h t c = absurd (let z : 0 < 0 = c in omega arith)
  least_out k (x ∷ xs) h t c =
      by_eq x t
      (λ e. let a = leb-true k (key x) (and_left (leb k (key x)) (leastb key k xs) h) in let f = ap key e in omega (arith, a, f))
      (λ e. let d = count_there t x xs e in let l : 0 < count t (x ∷ xs) = c in
      least_out k xs (and_right (leb k (key x)) (leastb key k xs) h) t (omega (arith, d, l)))

  pub least_in : (k : ℕ) (xs : List ℕ) → ((t : ℕ) → 0 < count t xs → k ≤ key t) → leastb key k xs ≡ true
  unfolding leastb count
  least_in k [] h = refl
  least_in k (x ∷ xs) h =
      and_in (leb k (key x)) (leastb key k xs)
      (le-leb k (key x) (h x (let c = count_here x xs in omega (arith, c))))
      (least_in k xs (λ t c. h t (let z : count t xs ≤ count t (x ∷ xs) = omega arith in omega (arith, z, c))))

  -- the best one has the smallest key, and stands in the list
  pub best_stands : (xs : List ℕ) → best_of key xs < 32 → 0 < count (best_of key xs) xs
  unfolding best_of
  best_stands xs h = first_stands (λ x. leastb key (key x) xs) xs h

  pub best_least : (xs : List ℕ) (t : ℕ) → best_of key xs < 32 → 0 < count t xs → key (best_of key xs) ≤ key t
  unfolding best_of
  best_least xs t h c = least_out (key (best_of key xs)) xs (first_holds (λ x. leastb key (key x) xs) xs h) t c

  -- somebody in a list that is not empty has the smallest key
  attained : (x : ℕ) (xs : List ℕ) → (u : ℕ) × (0 < count u (x ∷ xs)) × (leastb key (key u) (x ∷ xs) ≡ true)
  unfolding leastb count
  attained x [] = let c = count_here x [] in (x, omega (arith, c), and_in (leb (key x) (key x)) true (le-leb (key x) (key x) (omega arith)) refl)
  attained x (y ∷ ys) =
      let r = attained y ys in
      let u = r.0 in
      by_test (ltb (key u) (key x))
      (λ w. let l = ltb-true (key u) (key x) w in
      let c : 0 < count u (y ∷ ys) = r.1 in
      let z : count u (y ∷ ys) ≤ count u (x ∷ y ∷ ys) = omega arith in
      (u, omega (arith, c, z), and_in (leb (key u) (key x)) (leastb key (key u) (y ∷ ys)) (le-leb (key u) (key x) (omega (arith, l))) r.2))
      (λ w. let l = ltb-false (key u) (key x) w in
      let c = count_here x (y ∷ ys) in (
        x,
        omega (arith, c),
        and_in (leb (key x) (key x)) (leastb key (key x) (y ∷ ys)) (le-leb (key x) (key x) (omega arith))
            (least_in (key x) (y ∷ ys) (λ t d. let a = least_out (key u) (y ∷ ys) r.2 t d in omega (arith, a, l))),
      ))

  -- in a list of threads the best is one of them, or nobody
  pub best_known : (xs : List ℕ) → ((u : ℕ) → 0 < count u xs → u < 32) → best_of key xs ≤ 32
  unfolding best_of
  best_known xs small = first_known (λ x. leastb key (key x) xs) xs small

  -- and somebody where anybody stands in it
  pub best_some : (xs : List ℕ) → ((u : ℕ) → 0 < count u xs → u < 32) → (t : ℕ) → 0 < count t xs → best_of key xs < 32
  unfolding best_of count
  best_some [] small t c = absurd (let z : 0 < 0 = c in omega arith)
  best_some (x ∷ xs) small t c =
      let a = attained x xs in
      first_some (λ y. leastb key (key y) (x ∷ xs)) (x ∷ xs) a.0 a.1 a.2 small

  -- ---- the loop from the end of a line
  module _ (x : ℕ) (xs : List ℕ) where
    -- the best of those behind is better than x
    best_later : best_of key xs < 32 → key (best_of key xs) < key x → best_of key (x ∷ xs) ≡ best_of key xs
    unfolding best_of first_with leastb
    best_later h l =
        first_later (λ y. leb (key y) (key x) && leastb key (key y) xs) x xs no
        ∙ ap first (filter_same (λ y. leb (key y) (key x) && leastb key (key y) xs) (λ y. leastb key (key y) xs) xs same)
      where
        no : (leb (key x) (key x) && leastb key (key x) xs) ≡ false
        no =
            by_test (leb (key x) (key x) && leastb key (key x) xs)
            (λ e. absurd (let a = least_out (key x) xs (and_right (leb (key x) (key x)) (leastb key (key x) xs) e) (best_of key xs) (best_stands xs h) in omega (arith, a, l)))
            (λ e. e)

        same : (y : ℕ) → (leb (key y) (key x) && leastb key (key y) xs) ≡ leastb key (key y) xs
        same y =
            by_test (leastb key (key y) xs)
            (λ e. let a = least_out (key y) xs e (best_of key xs) (best_stands xs h) in
            and_in (leb (key y) (key x)) (leastb key (key y) xs) (le-leb (key y) (key x) (omega (arith, a, l))) e ∙ sym e)
            (λ e. ap (λ (b : Bool). leb (key y) (key x) && b) e ∙ and-false (leb (key y) (key x)) ∙ sym e)

    -- nobody behind is better than x
    best_here : ((t : ℕ) → 0 < count t xs → key x ≤ key t) → best_of key (x ∷ xs) ≡ x
    unfolding best_of leastb
    best_here h =
        first_here (λ y. leb (key y) (key x) && leastb key (key y) xs) x xs
        (and_in (leb (key x) (key x)) (leastb key (key x) xs) (le-leb (key x) (key x) (omega arith)) (least_in (key x) xs h))

  -- what the loop has found among those behind: the best and its key, or nobody and the largest key of a byte
  abbrev pub Found : List ℕ → Best → Type 0
  Found xs b = (b.id.0 ≡ best_of key xs) × (best_of key xs < 32 → b.key ≡ key (best_of key xs)) × (32 ≤ best_of key xs → b.key ≡ 255)

  pub found-nobody : Found [] (record { id = record { 0 = 32 }; key = 255 })
  unfolding best_of first_with first filter
  found-nobody = (refl, (λ h. absurd (let z : 32 < 32 = h in omega arith)), λ h. refl)

  -- one thread more, of any key that a byte can be
  module _ (x : ℕ) (xs : List ℕ) (small : (u : ℕ) → 0 < count u xs → u < 32) (b : Best) (f : Found xs b) (known : x < 32) (byte : key x ≤ 255) where
    -- where the best of those behind is not better than x, nobody behind is
    nearer : ltb b.key (key x) ≡ false → (t : ℕ) → 0 < count t xs → key x ≤ key t
    nearer w t c =
        let h = best_some xs small t c in
        let k = f.1 h in
        let m = best_least xs t h c in
        let n = ltb-false b.key (key x) w in omega (arith, n, k, m)

    pub found_more : Found (x ∷ xs) (better_of x (key x) b)
    unfolding better_of
    found_more =
        by_test (ltb b.key (key x))
        (λ w. let l = ltb-true b.key (key x) w in
        let n : best_of key xs < 32 = by_test (ltb (best_of key xs) 32) (λ v. ltb-true (best_of key xs) 32 v) (λ v. absurd (let z = f.2 (ltb-false (best_of key xs) 32 v) in omega (arith, z, l, byte))) in
        let k = f.1 n in
        let same = best_later x xs n (omega (arith, l, k)) in
        let s = ap (λ (c : Bool). if c then b else here) w in (
          ap (λ (c : Best). c.id.0) s ∙ f.0 ∙ sym same,
          (λ _. ap (λ (c : Best). c.key) s ∙ k ∙ ap key (sym same)),
          λ h. absurd (omega (arith, h, same, n)),
        ))
        (λ w. let same = best_here x xs (nearer w) in
        let s = ap (λ (c : Bool). if c then b else here) w in (
          ap (λ (c : Best). c.id.0) s ∙ sym same,
          (λ _. ap (λ (c : Best). c.key) s ∙ ap key (sym same)),
          λ h. absurd (omega (arith, h, same, known)),
        ))
      where
        here : Best
        here = record { id = record { 0 = x }; key = key x }
