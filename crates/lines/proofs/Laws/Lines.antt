-- Laws of lines: what stands in a line that was made from a list.
use mathlib.Core.Path.{◌≡◌, refl, sym, ap, ◌∙◌, ap₂}
use mathlib.Core.List.{List, [], ◌∷◌, ◌++◌, append_assoc, append-nil}
use mathlib.Core.Bool.{Bool, true, false, ◌||◌}
use Prim.Native.Nat.{ℕ, zero, suc, ◌+◌, ◌-◌, ◌≤◌, ◌<◌, min}
use native.Mathlib.Nat.{not-suc-le-zero, le_of_suc-le-suc}
use native.Mathlib.Omega.{arith}
use native.Mathlib.Numerals.{add-one}
use lib.ListN.{length, take, drop, get_or, set, replicate, length-append, length-take}
use lib.Dec.{eqb, ltb, leb}
use lib.Seq.{take_all, take-append-le, take-nil, get_or-take, drop-cons, drop-length, length-take-le}
use borrow.Author.Tests.{eq-eqb, le-leb, ltb-true, ltb-false}
use Rattle.std.proofs.lemmas.List.{take_more}
use Rattle.lines.specs.declared.Line.{Line}
use Rattle.lines.specs.Logic.{all_below}
use Rattle.lines.specs.Lists.{filter, without}
use Rattle.lines.specs.Lines.{members, pad, line_of, pushed, cleanb}
use Rattle.lines.proofs.Laws.Logic.{by_test, and_in, or_left, or_right, all_in}
use Rattle.lines.proofs.Laws.Lists.{filter_yes, filter_no, filter-append, without_keep, without_skip}

-- ---- slots
-- what was put in stands at the front
pub take-pad : (n : ℕ) (xs : List ℕ) → take (length (take n xs)) (pad n xs) ≡ take n xs
unfolding pad
take-pad zero xs = refl
take-pad (suc n) [] = refl
take-pad (suc n) (x ∷ xs) = ap {B = List ℕ} (λ r. x ∷ r) (take-pad n xs)

pub pad-take : (n : ℕ) (xs : List ℕ) → pad n (take n xs) ≡ pad n xs
unfolding pad
pad-take zero xs = refl
pad-take (suc n) [] = refl
pad-take (suc n) (x ∷ xs) = ap {B = List ℕ} (λ r. x ∷ r) (pad-take n xs)

pub length-pad : (n : ℕ) (xs : List ℕ) → length (pad n xs) ≡ n
unfolding pad
length-pad zero xs = refl
length-pad (suc n) [] = ap suc (length-pad n [])
length-pad (suc n) (x ∷ xs) = ap suc (length-pad n xs)

pub pad_none : (n : ℕ) → replicate n 0 ≡ pad n []
unfolding pad
pad_none zero = refl
pad_none (suc n) = ap {B = List ℕ} (λ r. 0 ∷ r) (pad_none n)

-- a slot of the list, or zero behind it
pub get_d-pad : (n : ℕ) (xs : List ℕ) (i : ℕ) → i < n → get_or (pad n xs) i 0 ≡ get_or xs i 0
unfolding pad
get_d-pad zero xs i h = absurd (not-suc-le-zero h)
get_d-pad (suc n) [] zero h = refl
get_d-pad (suc n) [] (suc i) h = get_d-pad n [] i (le_of_suc-le-suc h)
get_d-pad (suc n) (x ∷ xs) zero h = refl
get_d-pad (suc n) (x ∷ xs) (suc i) h = get_d-pad n xs i (le_of_suc-le-suc h)

-- one slot more is filled, also behind the list's end
pub pad_on : (n : ℕ) (xs : List ℕ) (i : ℕ) → set (pad n (take i xs)) i (get_or xs i 0) ≡ pad n (take (i + 1) xs)
unfolding pad
pad_on n xs i = rw add-one (go n xs i)
  where
    go : (n : ℕ) (xs : List ℕ) (i : ℕ) → set (pad n (take i xs)) i (get_or xs i 0) ≡ pad n (take (suc i) xs)
    go zero xs i = refl
    go (suc n) [] zero = refl
    go (suc n) [] (suc i) =
        ap {B = List ℕ} (λ r. 0 ∷ r)
        (ap {B = List ℕ} (λ r. set (pad n r) i 0) (sym (take-nil i)) ∙ go n [] i)
    go (suc n) (x ∷ xs) zero = refl
    go (suc n) (x ∷ xs) (suc i) = ap {B = List ℕ} (λ r. x ∷ r) (go n xs i)

-- a store into the first free slot
set-pad : (n : ℕ) (xs : List ℕ) (t : ℕ) → length xs < n → set (pad n xs) (length xs) t ≡ pad n (xs ++ (t ∷ []))
unfolding pad
set-pad zero xs t h = absurd (not-suc-le-zero h)
set-pad (suc n) [] t h = refl
set-pad (suc n) (x ∷ xs) t h = ap {B = List ℕ} (λ r. x ∷ r) (set-pad n xs t (le_of_suc-le-suc h))

zeros-pad : (n : ℕ) (xs : List ℕ) (i : ℕ) → length (take n xs) ≤ i → get_or (pad n xs) i 0 ≡ 0
unfolding pad
zeros-pad zero xs i h = refl
zeros-pad (suc n) [] zero h = refl
zeros-pad (suc n) [] (suc i) h = zeros-pad n [] i (let z = ap length (take-nil {A = ℕ} n) in omega (arith, z))
zeros-pad (suc n) (x ∷ xs) zero h = absurd (let z : suc (length (take n xs)) ≤ 0 = h in omega arith)
zeros-pad (suc n) (x ∷ xs) (suc i) h = zeros-pad n xs i (let z : suc (length (take n xs)) ≤ suc i = h in omega arith)

-- ---- lines
-- line_of sees the first 32 alone
pub line_of-take : (xs ys : List ℕ) → take 32 xs ≡ take 32 ys → line_of xs ≡ line_of ys
unfolding line_of
line_of-take xs ys p =
    let q : pad 32 xs ≡ pad 32 ys = sym (pad-take 32 xs) ∙ ap (pad 32) p ∙ pad-take 32 ys in
    λ i. record { ids = q i; len = length (p i) }

pub members-line_of : (xs : List ℕ) → members (line_of xs) ≡ take 32 xs
unfolding line_of members
members-line_of xs = take-pad 32 xs

pub members_short : (xs : List ℕ) → length xs ≤ 32 → members (line_of xs) ≡ xs
members_short xs h = members-line_of xs ∙ take_all 32 xs h

-- the slots of a line are read 32 at the most
pub length-members : (l : Line) → length l.ids ≡ 32 → length (members l) ≡ min l.len 32
unfolding members
length-members l e = simp (length-take, e)

pub members-take : (l : Line) → take (length (members l)) l.ids ≡ members l
unfolding members
members-take l = go l.len l.ids
  where
    go : (n : ℕ) (xs : List ℕ) → take (length (take n xs)) xs ≡ take n xs
    go zero xs = refl
    go (suc n) [] = refl
    go (suc n) (x ∷ xs) = ap {B = List ℕ} (λ r. x ∷ r) (go n xs)

-- ---- one more at the end
-- one slot more
pub take_one : (xs : List ℕ) (i : ℕ) → i < length xs → take (i + 1) xs ≡ take i xs ++ (get_or xs i 0 ∷ [])
take_one xs i h = take_more xs i 0 h

pub line_of-len : (l : Line) (xs : List ℕ) → l ≡ line_of xs → l.len ≡ min 32 (length xs)
unfolding line_of
line_of-len l xs e = ap (λ (u : Line). u.len) e ∙ length-take 32 xs

-- a full line takes nobody in
pub full : (l : Line) (xs : List ℕ) (t : ℕ) → l ≡ line_of xs → 32 ≤ l.len → l ≡ line_of (xs ++ (t ∷ []))
full l xs t e h =
    let n = line_of-len l xs e in
    e ∙ line_of-take _ _ (sym (take-append-le 32 xs (t ∷ []) (omega (arith, n, h))))

-- a store behind the last makes the line of one more
pub one_more : (l : Line) (xs : List ℕ) (t : ℕ) → l ≡ line_of xs → l.len < 32
    → ◌≡◌ {A = Line} (record { ids = set l.ids l.len t; len = l.len + 1 }) (line_of (xs ++ (t ∷ [])))
unfolding line_of
one_more l xs t e h =
    let n = line_of-len l xs e in
    let m : l.len ≡ length xs = omega (arith, n, h) in
    let s : length (xs ++ (t ∷ [])) ≡ length xs + 1 = length-append xs (t ∷ []) in
    let q : take 32 (xs ++ (t ∷ [])) ≡ xs ++ (t ∷ []) = take_all 32 (xs ++ (t ∷ [])) (omega (arith, s, m, h)) in
    let a : set l.ids l.len t ≡ pad 32 (xs ++ (t ∷ [])) =
    ap₂ (λ (r : List ℕ) (k : ℕ). set r k t) (ap (λ (u : Line). u.ids) e) m ∙ set-pad 32 xs t (omega (arith, m, h)) in
    let b : l.len + 1 ≡ length (take 32 (xs ++ (t ∷ []))) = omega (arith, ap length q, s, m) in
    λ i. record { ids = a i; len = b i }

-- whoever is pushed stands behind the others
pub pushes : {r l : Line} (xs : List ℕ) (t : ℕ) → r ≡ pushed l t → l ≡ line_of xs → r ≡ line_of (xs ++ (t ∷ []))
unfolding pushed
pushes {r} {l} xs t p e =
    by_test (ltb l.len 32)
    (λ q. (rw q at p) ∙ one_more l xs t e (ltb-true l.len 32 q))
    (λ q. (rw q at p) ∙ full l xs t e (ltb-false l.len 32 q))

-- ---- loops over a line
-- one slot on: the others than t behind ys
pub gather_keep : (ys : List ℕ) (t : ℕ) (xs : List ℕ) (i : ℕ) → i < length xs → (get_or xs i 0 ≡ t → ⊥)
    → ys ++ without t (take (i + 1) xs) ≡ ys ++ without t (take i xs) ++ (get_or xs i 0 ∷ [])
gather_keep ys t xs i h n =
    ap {B = List ℕ} (λ r. ys ++ without t r) (take_more xs i 0 h)
    ∙ ap {B = List ℕ} (λ r. ys ++ r) (without_keep t (get_or xs i 0) (take i xs) n)
    ∙ sym (append_assoc ys (without t (take i xs)) (get_or xs i 0 ∷ []))

pub gather_skip : (ys : List ℕ) (t : ℕ) (xs : List ℕ) (i : ℕ) → i < length xs → get_or xs i 0 ≡ t
    → ys ++ without t (take (i + 1) xs) ≡ ys ++ without t (take i xs)
gather_skip ys t xs i h e =
    ap {B = List ℕ} (λ r. ys ++ without t r) (take_more xs i 0 h)
    ∙ ap {B = List ℕ} (λ r. ys ++ r) (without_skip t (get_or xs i 0) (take i xs) e)

-- one slot on: the part for which a test holds
module _ (f : ℕ → Bool) (i : ℕ) (xs : List ℕ) (h : i < length xs) where
  one_on : filter f (take (i + 1) xs) ≡ filter f (take i xs) ++ filter f (get_or xs i 0 ∷ [])
  one_on = ap (filter f) (take_more xs i 0 h) ∙ filter-append f (take i xs) (get_or xs i 0 ∷ [])

  pub kept_one : f (get_or xs i 0) ≡ true → filter f (take (i + 1) xs) ≡ filter f (take i xs) ++ (get_or xs i 0 ∷ [])
  unfolding filter
  kept_one e = one_on ∙ ap {B = List ℕ} (λ r. filter f (take i xs) ++ r) (filter_yes f (get_or xs i 0) [] e)

  pub left_one : f (get_or xs i 0) ≡ false → filter f (take (i + 1) xs) ≡ filter f (take i xs)
  unfolding filter
  left_one e = one_on ∙ ap {B = List ℕ} (λ r. filter f (take i xs) ++ r) (filter_no f (get_or xs i 0) [] e) ∙ append-nil (filter f (take i xs))

-- one slot back in the first n
pub back : (n i : ℕ) (xs : List ℕ) → 0 < i → i ≤ length (take n xs) → drop (i - 1) (take n xs) ≡ get_or xs (i - 1) 0 ∷ drop i (take n xs)
back n i xs pos le =
    let e : suc (i - 1) ≡ i = omega arith in
    let w = length-take n xs in
    let g = get_or-take n xs (i - 1) 0 (omega (arith, w)) in
    drop-cons (take n xs) (i - 1) 0 (omega arith)
    ∙ (λ j. g j ∷ drop (e j) (take n xs))

-- nothing is left at the end
pub back_start : (n : ℕ) (xs : List ℕ) → n ≤ length xs → drop n (take n xs) ≡ []
back_start n xs h =
    let d = length-take-le n xs h in
    ap (λ (k : ℕ). drop k (take n xs)) (sym d) ∙ drop-length (take n xs)

-- ---- clean lines
pub line_of_clean : (xs : List ℕ) → cleanb (line_of xs) ≡ true
unfolding cleanb line_of
line_of_clean xs =
    and_in (leb n 32) (all_below 32 slots)
    (le-leb n 32 (let a = length-take 32 xs in omega (arith, a)))
    (all_in 32 slots
    (λ i h. by_test (ltb i n)
    (or_left (ltb i n) (eqb (get_or (pad 32 xs) i 0) 0))
    (λ q. or_right (ltb i n) (eqb (get_or (pad 32 xs) i 0) 0) (eq-eqb (get_or (pad 32 xs) i 0) 0 (zeros-pad 32 xs i (ltb-false i n q))))))
  where
    n : ℕ
    n = length (take 32 xs)

    slots : ℕ → Bool
    slots i = ltb i n || eqb (get_or (pad 32 xs) i 0) 0
