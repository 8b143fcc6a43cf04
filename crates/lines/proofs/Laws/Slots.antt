-- Laws of stores and lists in 64 slots.
use mathlib.Core.Path.{◌≡◌, refl, sym, ap, ap₂, ◌∙◌}
use mathlib.Core.List.{List, [], ◌∷◌, ◌++◌}
use mathlib.Core.Bool.{Bool, true, false, ◌&&◌, ◌||◌, and-true}
use Prim.Native.Nat.{ℕ, zero, suc, ◌-◌, ◌*◌, ◌≤◌, ◌<◌, min}
use native.Mathlib.Nat.{not-suc-le-zero, le_of_suc-le-suc, mul-le-mul, zero-min, suc-min-suc, sub-zero, zero-sub, suc-sub-suc}
use native.Mathlib.Omega.{arith}
use native.Mathlib.Numerals.{add-one}
use lib.ListN.{length, take, drop, get_or, replicate, length-take}
use lib.Seq.{take-nil, drop-nil, drop-append-le, length-take-le}
use lib.Bits.{bit_or, and_le_l, and_le_r, or_add_and}
use Rattle.std.specs.List.{list_all}
use Rattle.std.proofs.lemmas.List.{drop_min, take_more, drop_all, take_all}
use Rattle.std.proofs.lemmas.List.Folds.{list_all-append}
use lib.Dec.{eqb, ltb}
use borrow.Author.Tests.{eqb-true, eq-eqb, lt-ltb, le-ltb, ltb-true, ltb-false}
use Rattle.lines.specs.Logic.{all_below}
use Rattle.lines.proofs.Laws.Logic.{by_test, and_left, and_right, and_in, or_left, or_right, all_in}
use Rattle.lines.specs.Lines.{pad}
use Rattle.lines.specs.Slots.{zero_from, filled}

-- two tests that follow from each other are the same
pub same_test : (a b : Bool) → (a ≡ true → b ≡ true) → (b ≡ true → a ≡ true) → a ≡ b
same_test true b f g = sym (f refl)
same_test false true f g = g refl
same_test false false f g = refl

-- tests that agree on every number of a range agree on the range
pub all_same : (n : ℕ) (f g : ℕ → Bool) → ((i : ℕ) → i < n → f i ≡ g i) → all_below n f ≡ all_below n g
unfolding all_below
all_same zero f g h = refl
all_same (suc n) f g h = ap₂ ◌&&◌ (all_same n f g (λ i l. h i (omega arith))) (h n (omega arith))

-- the product of two bytes
pub product_small : (a b : ℕ) → a < 256 → b < 256 → a * b ≤ 255 * 255
product_small a b h g = mul-le-mul (let l : a ≤ 255 = omega arith in l) (let l : b ≤ 255 = omega arith in l)

-- as many as a list has of its first n are its first n
pub take_again : (n : ℕ) (xs : List ℕ) → take (length (take n xs)) xs ≡ take n xs
take_again zero xs = refl
take_again (suc n) [] = refl
take_again (suc n) (x ∷ xs) = ap {B = List ℕ} (λ r. x ∷ r) (take_again n xs)

-- no more than a list has
pub take_most : (n k : ℕ) (xs : List ℕ) → k ≡ min n (length xs) → take k xs ≡ take n xs
take_most n k xs e = ap (λ (j : ℕ). take j xs) (e ∙ sym (length-take n xs)) ∙ take_again n xs

pub drop_most : (n k : ℕ) (xs : List ℕ) → k ≡ min n (length xs) → drop k xs ≡ drop n xs
drop_most n k xs e = ap (λ (j : ℕ). drop j xs) e ∙ go n xs
  where
    go : (n : ℕ) (xs : List ℕ) → drop (min n (length xs)) xs ≡ drop n xs
    go zero xs = ap (λ (j : ℕ). drop j xs) (zero-min (length xs))
    go (suc n) [] = drop-nil (min (suc n) 0)
    go (suc n) (x ∷ xs) = ap (λ (j : ℕ). drop j (x ∷ xs)) (suc-min-suc n (length xs)) ∙ go n xs

-- a part from j to k
pub part : (j k : ℕ) (xs : List ℕ) → take (k - j) (drop j xs) ≡ drop j (take k xs)
part zero k xs = ap (λ (n : ℕ). take n xs) (sub-zero k)
part (suc j) zero xs = ap (λ (n : ℕ). take n (drop (suc j) xs)) (zero-sub (suc j))
part (suc j) (suc k) [] = take-nil (suc k - suc j)
part (suc j) (suc k) (x ∷ xs) = ap (λ (n : ℕ). take n (drop j xs)) (suc-sub-suc k j) ∙ part j k xs

-- ---- zero behind what is in use
module _ (n : ℕ) (xs : List ℕ) where
  abbrev clean : ℕ → Bool
  clean i = ltb i n || eqb (get_or xs i 0) 0

  pub zero_in : ((i : ℕ) → n ≤ i → i < 64 → get_or xs i 0 ≡ 0) → zero_from n xs ≡ true
  unfolding zero_from
  zero_in h =
      all_in 64 clean
      (λ i l. by_test (ltb i n)
      (λ q. or_left (ltb i n) (eqb (get_or xs i 0) 0) q)
      (λ q. or_right (ltb i n) (eqb (get_or xs i 0) 0) (eq-eqb (get_or xs i 0) 0 (h i (ltb-false i n q) l))))

-- where nothing is in use, what is behind it is all
pub none_used : (a : Bool) (n : ℕ) (xs : List ℕ) → (a ≡ true → n ≡ 0) → (a && zero_from n xs) ≡ (a && zero_from 0 xs)
none_used true n xs h = ap (λ (k : ℕ). zero_from k xs) (h refl)
none_used false n xs h = refl

-- ---- all zero, as a loop finds it that joins the bits of all slots
-- the joined bits of two numbers are none where both numbers are zero
pub or_none : (a b : ℕ) → eqb (bit_or a b) 0 ≡ (eqb a 0 && eqb b 0)
or_none a b =
    same_test (eqb (bit_or a b) 0) (eqb a 0 && eqb b 0)
    (λ e. let z = eqb-true (bit_or a b) 0 e in
    and_in (eqb a 0) (eqb b 0)
    (eq-eqb a 0 (omega (arith, z, or_add_and a b, and_le_r a b)))
    (eq-eqb b 0 (omega (arith, z, or_add_and a b, and_le_l a b))))
    (λ e. let p = eqb-true a 0 (and_left (eqb a 0) (eqb b 0) e) in
    let q = eqb-true b 0 (and_right (eqb a 0) (eqb b 0) e) in
    eq-eqb (bit_or a b) 0 (omega (arith, p, q, or_add_and a b)))

-- ---- all zero, as a test of each slot finds it
-- the first k slots, those from n on looked at one by one
zero_upto : (n k : ℕ) (xs : List ℕ) → k ≤ length xs → all_below k (λ i. ltb i n || eqb (get_or xs i 0) 0) ≡ list_all (λ x. eqb x 0) (drop n (take k xs))
unfolding all_below
zero_upto n zero xs h = sym (ap (list_all (λ x. eqb x 0)) (drop-nil {A = ℕ} n))
zero_upto n (suc k) xs h =
    let l : k < length xs = omega arith in
    let f = λ (i : ℕ). ltb i n || eqb (get_or xs i 0) 0 in
    let z = length-take-le (suc k) xs h in
    let y = length-take-le k xs (omega arith) in
    by_test (ltb k n)
    (λ q. let w = ltb-true k n q in
    rw (zero_upto n k xs (omega arith), q, drop_all n (take k xs) (omega arith), drop_all n (take (suc k) xs) (omega arith)))
    (λ q. let w = ltb-false k n q in
    rw (zero_upto n k xs (omega arith), q, ← add-one, take_more xs k 0 l, drop-append-le n (take k xs) (get_or xs k 0 ∷ []) (omega arith), list_all-append)
    (sym (ap (λ (b : Bool). list_all (λ x. eqb x 0) (drop n (take k xs)) && b) (and-true (eqb (get_or xs k 0) 0)))))

-- of k slots those from n on, looked at one by one
pub zero_behind : (n m k : ℕ) (xs : List ℕ) → length xs ≡ k → m ≡ min n k
    → list_all (λ x. eqb x 0) (drop m xs) ≡ all_below k (λ i. ltb i n || eqb (get_or xs i 0) 0)
zero_behind n m k xs e g =
    let zeros = λ (x : ℕ). eqb x 0 in
    ap (λ (j : ℕ). list_all zeros (drop j xs)) (g ∙ ap (min n) (sym e))
    ∙ ap (list_all zeros) (drop_min n xs ∙ ap (drop n) (sym (take_all k xs (omega (arith, e)))))
    ∙ sym (zero_upto n k xs (omega (arith, e)))

pub zero_rest : (n m : ℕ) (xs : List ℕ) → length xs ≡ 64 → m ≡ min n 64 → list_all (λ x. eqb x 0) (drop m xs) ≡ zero_from n xs
unfolding zero_from
zero_rest n m xs e g = zero_behind n m 64 xs e g

-- 64 slots have no more in use than 64
pub zero_cut : (n m : ℕ) (xs : List ℕ) → m ≡ min n 64 → zero_from m xs ≡ zero_from n xs
unfolding zero_from
zero_cut n m xs e =
    all_same 64 (λ k. ltb k m || eqb (get_or xs k 0) 0) (λ k. ltb k n || eqb (get_or xs k 0) 0)
    (λ k l. ap (λ (b : Bool). b || eqb (get_or xs k 0) 0)
    (by_test (ltb k n)
    (λ w. lt-ltb k m (let h = ltb-true k n w in omega (arith, h, e, l)) ∙ sym w)
    (λ w. le-ltb k m (let h = ltb-false k n w in omega (arith, h, e, l)) ∙ sym w)))

-- ---- slots filled from the front
-- filled with zeros, they are padded
pub filled_pad : (n : ℕ) (xs : List ℕ) → filled n 0 xs ≡ pad n xs
unfolding filled pad
filled_pad n xs = go n n xs (omega arith)
  where
    go : (n m : ℕ) (xs : List ℕ) → n ≤ m → take n (xs ++ replicate m 0) ≡ pad n xs
    go zero m xs h = refl
    go (suc n) zero xs h = absurd (not-suc-le-zero h)
    go (suc n) (suc m) [] h = ap {B = List ℕ} (λ r. 0 ∷ r) (go n m [] (le_of_suc-le-suc h))
    go (suc n) m (x ∷ xs) h = ap {B = List ℕ} (λ r. x ∷ r) (go n m xs (omega arith))
