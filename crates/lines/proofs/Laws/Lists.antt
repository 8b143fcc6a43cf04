-- Laws of lists: the part for which a test holds, taking out, counting, numbers in order, beginning with a list.
use mathlib.Core.Path.{◌≡◌, refl, sym, ap, ◌∙◌}
use mathlib.Core.List.{List, [], ◌∷◌, ◌++◌, append-nil, append_assoc}
use mathlib.Core.Bool.{Bool, true, false, ◌&&◌, not}
use Prim.Native.Nat.{ℕ, zero, suc, ◌+◌, ◌≤◌, ◌<◌, min}
use native.Mathlib.Nat.{zero-add, not-suc-le-zero, le_of_suc-le-suc, zero-min, suc-min-suc}
use native.Mathlib.Omega.{arith}
use lib.ListN.{length, take, get_or}
use lib.Dec.{eqb, ltb}
use borrow.Author.Tests.{eq-eqb, ne_eqb, eqb-false, ltb-true, ltb-false}
use Rattle.std.specs.Prelude.{if◌then◌else◌}
use Rattle.lines.specs.Logic.{one_if}
use Rattle.lines.specs.Lists.{numbers_from, filter, without, only_if, count, below, first, first_with, Begins}
use Rattle.lines.proofs.Laws.Logic.{by_test, by_eq, never, and_left, and_right, and_in, one_at_most}

-- within a list the default is not read
pub get_d_any : {A : Type 0} (l : List A) (i : ℕ) (d e : A) → i < length l → get_or l i d ≡ get_or l i e
get_d_any [] i d e h = absurd (not-suc-le-zero h)
get_d_any (x ∷ l) zero d e h = refl
get_d_any (x ∷ l) (suc i) d e h = get_d_any l i d e (le_of_suc-le-suc h)

-- ---- the part for which a test holds
module _ (f : ℕ → Bool) where
  pub filter_yes : (x : ℕ) (xs : List ℕ) → f x ≡ true → filter f (x ∷ xs) ≡ x ∷ filter f xs
  unfolding filter
  filter_yes x xs e = rw e

  pub filter_no : (x : ℕ) (xs : List ℕ) → f x ≡ false → filter f (x ∷ xs) ≡ filter f xs
  unfolding filter
  filter_no x xs e = rw e

  pub filter-append : (xs ys : List ℕ) → filter f (xs ++ ys) ≡ filter f xs ++ filter f ys
  unfolding filter
  filter-append [] ys = refl
  filter-append (x ∷ xs) ys = go (f x) (filter-append xs ys)
    where
      go : (b : Bool) → filter f (xs ++ ys) ≡ filter f xs ++ filter f ys → (if b then x ∷ filter f (xs ++ ys) else filter f (xs ++ ys)) ≡ (if b then x ∷ filter f xs else filter f xs) ++ filter f ys
      go true h = ap {B = List ℕ} (λ r. x ∷ r) h
      go false h = h

  pub filter_only : (b : Bool) (t : ℕ) → filter f (only_if b t) ≡ only_if (b && f t) t
  unfolding filter
  filter_only true t = refl
  filter_only false t = refl

  -- two parts, in either order
  pub filter_swap : (g : ℕ → Bool) (xs : List ℕ) → filter f (filter g xs) ≡ filter g (filter f xs)
  unfolding filter
  filter_swap g [] = refl
  filter_swap g (x ∷ xs) =
      let h = filter_swap g xs in
      by_test (g x)
      (λ p. by_test (f x) (λ q. simp (p, q) (ap {B = List ℕ} (λ r. x ∷ r) h)) (λ q. simp (p, q) h))
      (λ p. by_test (f x) (λ q. simp (p, q) h) (λ q. simp (p, q) h))

  pub filter_same : (g : ℕ → Bool) (xs : List ℕ) → ((u : ℕ) → f u ≡ g u) → filter f xs ≡ filter g xs
  unfolding filter
  filter_same g [] h = refl
  filter_same g (x ∷ xs) h = let r = filter_same g xs h in λ i. if h x i then x ∷ r i else r i

-- a part is no longer than the list
pub length_part : (f : ℕ → Bool) (xs : List ℕ) → length (filter f xs) ≤ length xs
unfolding filter
length_part f [] = omega arith
length_part f (x ∷ xs) =
    let r = length_part f xs in
    by_test (f x)
    (λ q. let e = ap length (filter_yes f x xs q) in omega (arith, e, r))
    (λ q. let e = ap length (filter_no f x xs q) in omega (arith, e, r))

-- ---- counting
pub count_here : (t : ℕ) (xs : List ℕ) → count t (t ∷ xs) ≡ suc (count t xs)
unfolding count one_if
count_here t xs = rw (eq-eqb t t refl) (omega arith)

pub count_there : (t x : ℕ) (xs : List ℕ) → (x ≡ t → ⊥) → count t (x ∷ xs) ≡ count t xs
unfolding count one_if
count_there t x xs h = rw (ne_eqb x t h) (omega arith)

pub count-append : (t : ℕ) (xs ys : List ℕ) → count t (xs ++ ys) ≡ count t xs + count t ys
unfolding count
count-append t [] ys = sym (zero-add (count t ys))
count-append t (x ∷ xs) ys = omega (arith, count-append t xs ys)

pub count_one : (t x : ℕ) (xs : List ℕ) → count t (xs ++ (x ∷ [])) ≡ count t xs + one_if (eqb x t)
unfolding count
count_one t x xs = omega (arith, count-append t xs (x ∷ []))

pub count_only : (t : ℕ) (b : Bool) → count t (only_if b t) ≡ one_if b
unfolding count one_if
count_only t true = count_here t []
count_only t false = refl

pub count-not_only : (t u : ℕ) (b : Bool) → (u ≡ t → ⊥) → count u (only_if b t) ≡ 0
unfolding count
count-not_only t u true n = count_there u t [] (λ q. n (sym q))
count-not_only t u false n = refl

pub count_kept : (f : ℕ → Bool) (t : ℕ) (xs : List ℕ) → f t ≡ true → count t (filter f xs) ≡ count t xs
unfolding filter count
count_kept f t [] h = refl
count_kept f t (x ∷ xs) h =
    let r = count_kept f t xs h in
    by_test (f x)
    (λ q. simp q (ap (λ (n : ℕ). one_if (eqb x t) + n) r))
    (λ q. let n : x ≡ t → ⊥ = λ e. never h (ap f (sym e) ∙ q) in simp q (r ∙ sym (count_there t x xs n)))

pub count_dropped : (f : ℕ → Bool) (t : ℕ) (xs : List ℕ) → f t ≡ false → count t (filter f xs) ≡ 0
unfolding filter count
count_dropped f t [] h = refl
count_dropped f t (x ∷ xs) h =
    let r = count_dropped f t xs h in
    by_test (f x)
    (λ q. let n : x ≡ t → ⊥ = λ e. never q (ap f e ∙ h) in simp q (count_there t x (filter f xs) n ∙ r))
    (λ q. simp q r)

-- who stands in the part stands in the list
pub count-part : (f : ℕ → Bool) (t : ℕ) (xs : List ℕ) → count t (filter f xs) ≤ count t xs
count-part f t xs =
    by_test (f t)
    (λ q. let e = count_kept f t xs q in omega (arith, e))
    (λ q. let e = count_dropped f t xs q in omega (arith, e))

-- ---- taking out
pub without-append : (t : ℕ) (xs ys : List ℕ) → without t (xs ++ ys) ≡ without t xs ++ without t ys
unfolding without
without-append t xs ys = filter-append (λ x. not (eqb x t)) xs ys

pub without_here : (t : ℕ) (xs : List ℕ) → without t (t ∷ xs) ≡ without t xs
unfolding without
without_here t xs = filter_no (λ x. not (eqb x t)) t xs (ap not (eq-eqb t t refl))

pub without_there : (t x : ℕ) (xs : List ℕ) → (x ≡ t → ⊥) → without t (x ∷ xs) ≡ x ∷ without t xs
unfolding without
without_there t x xs h = filter_yes (λ y. not (eqb y t)) x xs (ap not (ne_eqb x t h))

pub without_skip : (t x : ℕ) (xs : List ℕ) → x ≡ t → without t (xs ++ (x ∷ [])) ≡ without t xs
unfolding without filter
without_skip t x xs e = without-append t xs (x ∷ []) ∙ ap (λ (b : Bool). without t xs ++ (if not b then x ∷ [] else [])) (eq-eqb x t e) ∙ append-nil (without t xs)

pub without_keep : (t x : ℕ) (xs : List ℕ) → (x ≡ t → ⊥) → without t (xs ++ (x ∷ [])) ≡ without t xs ++ (x ∷ [])
unfolding without filter
without_keep t x xs e = without-append t xs (x ∷ []) ∙ ap (λ (b : Bool). without t xs ++ (if not b then x ∷ [] else [])) (ne_eqb x t e)

pub filter-without : (f : ℕ → Bool) (t : ℕ) (xs : List ℕ) → filter f (without t xs) ≡ without t (filter f xs)
unfolding without
filter-without f t xs = filter_swap f (λ x. not (eqb x t)) xs

-- two tests that agree but for t pick the same of those that are not t
pub filter_agree : (f g : ℕ → Bool) (t : ℕ) (xs : List ℕ) → ((u : ℕ) → (u ≡ t → ⊥) → f u ≡ g u) → filter f (without t xs) ≡ filter g (without t xs)
unfolding filter without
filter_agree f g t [] h = refl
filter_agree f g t (x ∷ xs) h =
    let r = filter_agree f g t xs h in
    by_test (eqb x t)
    (λ p. simp p r)
    (λ p. let e = h x (eqb-false x t p) in simp p (λ i. if e i then x ∷ r i else r i))

-- what is taken out stands there no more, and of the others as many as before
pub count-without : (t : ℕ) (xs : List ℕ) → count t (without t xs) ≡ 0
unfolding without
count-without t xs = count_dropped (λ x. not (eqb x t)) t xs (ap not (eq-eqb t t refl))

pub count_others : (t u : ℕ) (xs : List ℕ) → (u ≡ t → ⊥) → count u (without t xs) ≡ count u xs
unfolding without
count_others t u xs h = count_kept (λ x. not (eqb x t)) u xs (ap not (ne_eqb u t h))

-- nothing changes where it does not stand
pub without_none : (t : ℕ) (xs : List ℕ) → count t xs ≡ 0 → without t xs ≡ xs
unfolding without filter
without_none t [] h = refl
without_none t (x ∷ xs) h =
    by_eq x t
    (λ e. absurd (not-suc-le-zero (let z : suc (count t xs) ≡ 0 = sym (count_here t xs) ∙ ap (λ (y : ℕ). count t (y ∷ xs)) (sym e) ∙ h in let y : 1 ≤ 0 = omega arith in y)))
    (λ e. without_there t x xs e ∙ ap {B = List ℕ} (λ r. x ∷ r) (without_none t xs (sym (count_there t x xs e) ∙ h)))

-- the first, where it stands once
pub without-first : (t : ℕ) (xs : List ℕ) → count t (t ∷ xs) ≡ 1 → without t (t ∷ xs) ≡ xs
without-first t xs h = without_here t xs ∙ without_none t xs (let c = count_here t xs in omega (arith, c, h))

pub length_without : (t : ℕ) (xs : List ℕ) → length (without t xs) + count t xs ≡ length xs
unfolding without filter count
length_without t [] = refl
length_without t (x ∷ xs) =
    by_eq x t
    (λ e. let c : count t (x ∷ xs) ≡ suc (count t xs) = ap (λ (y : ℕ). count t (y ∷ xs)) e ∙ count_here t xs in
    let w : length (without t (x ∷ xs)) ≡ length (without t xs) = ap length (ap (λ (y : ℕ). without t (y ∷ xs)) e ∙ without_here t xs) in
    omega (arith, length_without t xs, c, w))
    (λ e. let c : count t (x ∷ xs) ≡ count t xs = count_there t x xs e in
    let w : length (without t (x ∷ xs)) ≡ suc (length (without t xs)) = ap length (without_there t x xs e) in
    omega (arith, length_without t xs, c, w))

-- a list of numbers below n, each at most once, has at most n
pub at_most : (n : ℕ) (xs : List ℕ) → ((t : ℕ) → count t xs ≤ 1) → ((t : ℕ) → n ≤ t → count t xs ≡ 0) → length xs ≤ n
at_most zero [] one out = omega arith
at_most zero (x ∷ xs) one out = absurd (not-suc-le-zero (let z : suc (count x xs) ≡ 0 = sym (count_here x xs) ∙ out x (omega arith) in let y : 1 ≤ 0 = omega arith in y))
at_most (suc n) xs one out =
    let r : length (without n xs) ≤ n =
    at_most n (without n xs)
    (λ t. by_eq t n
    (λ e. let z : count t (without n xs) ≡ 0 = ap (λ (y : ℕ). count t (without y xs)) (sym e) ∙ count-without t xs in omega arith)
    (λ e. let z = count_others n t xs e in let o = one t in omega (arith, z, o)))
    (λ t h. by_eq t n
    (λ e. ap (λ (y : ℕ). count t (without y xs)) (sym e) ∙ count-without t xs)
    (λ e. count_others n t xs e ∙ out t (by_eq t n (λ q. absurd (e q)) (λ q. omega arith)))) in
    omega (arith, length_without n xs, one n)

-- ---- all below a bound
pub below_out : (n : ℕ) (xs : List ℕ) → below n xs ≡ true → (t : ℕ) → n ≤ t → count t xs ≡ 0
unfolding below count
below_out n [] e t h = refl
below_out n (x ∷ xs) e t h =
    let l = ltb-true x n (and_left (ltb x n) (below n xs) e) in
    count_there t x xs (λ q. not-suc-le-zero (let y : 1 ≤ 0 = omega (arith, l) in y)) ∙ below_out n xs (and_right (ltb x n) (below n xs) e) t h

pub below_in : (n : ℕ) (xs : List ℕ) → ((t : ℕ) → n ≤ t → count t xs ≡ 0) → below n xs ≡ true
unfolding below count
below_in n [] h = refl
below_in n (x ∷ xs) h =
    and_in (ltb x n) (below n xs)
    (by_test (ltb x n) (λ e. e) (λ e. absurd (not-suc-le-zero (let z = h x (ltb-false x n e) in let c = count_here x xs in let y : 1 ≤ 0 = omega (arith, z, c) in y))))
    (below_in n xs (λ t l. let z = h t l in omega (arith, z)))

-- ---- numbers in order
pub length_numbers : (i n : ℕ) → length (numbers_from i n) ≡ n
unfolding numbers_from
length_numbers i zero = refl
length_numbers i (suc n) = ap suc (length_numbers (suc i) n)

pub number_at : (i n k : ℕ) → k < n → get_or (numbers_from i n) k 0 ≡ i + k
unfolding numbers_from
number_at i zero k h = absurd (not-suc-le-zero h)
number_at i (suc n) zero h = omega arith
number_at i (suc n) (suc k) h = let r = number_at (suc i) n k (le_of_suc-le-suc h) in omega (arith, r)

pub take_numbers : (k i n : ℕ) → take k (numbers_from i n) ≡ numbers_from i (min k n)
unfolding numbers_from
take_numbers zero i n = ap (numbers_from i) (sym (zero-min n))
take_numbers (suc k) i zero = ap (numbers_from i) (let e : 0 ≡ min (suc k) 0 = omega arith in e)
take_numbers (suc k) i (suc n) = ap {B = List ℕ} (λ r. i ∷ r) (take_numbers k (suc i) n) ∙ ap (numbers_from i) (sym (suc-min-suc k n))

-- each number of the range stands there once, and no other
pub numbers_before : (i n t : ℕ) → t < i → count t (numbers_from i n) ≡ 0
unfolding numbers_from count
numbers_before i zero t h = refl
numbers_before i (suc n) t h =
    count_there t i (numbers_from (suc i) n) (λ q. not-suc-le-zero (let y : 1 ≤ 0 = omega (arith, q, h) in y))
    ∙ numbers_before (suc i) n t (omega arith)

pub numbers_past : (i n t : ℕ) → i + n ≤ t → count t (numbers_from i n) ≡ 0
unfolding numbers_from count
numbers_past i zero t h = refl
numbers_past i (suc n) t h =
    count_there t i (numbers_from (suc i) n) (λ q. not-suc-le-zero (let y : 1 ≤ 0 = omega (arith, q, h) in y))
    ∙ numbers_past (suc i) n t (omega arith)

pub numbers_once : (i n t : ℕ) → count t (numbers_from i n) ≤ 1
unfolding numbers_from count
numbers_once i zero t = omega arith
numbers_once i (suc n) t =
    by_eq i t
    (λ q. let z = numbers_before (suc i) n t (omega (arith, q)) in let o = one_at_most (eqb i t) in omega (arith, z, o))
    (λ q. let r = numbers_once (suc i) n t in let e = count_there t i (numbers_from (suc i) n) q in omega (arith, r, e))

-- ---- the first for whom a test holds
module _ (f : ℕ → Bool) where
  pub first_here : (x : ℕ) (xs : List ℕ) → f x ≡ true → first_with f (x ∷ xs) ≡ x
  unfolding first_with first
  first_here x xs e = ap first (filter_yes f x xs e)

  pub first_later : (x : ℕ) (xs : List ℕ) → f x ≡ false → first_with f (x ∷ xs) ≡ first_with f xs
  unfolding first_with
  first_later x xs e = ap first (filter_no f x xs e)

  pub first_holds : (xs : List ℕ) → first_with f xs < 32 → f (first_with f xs) ≡ true
  unfolding first_with first filter
  first_holds [] h = absurd (let z : 32 < 32 = h in omega arith)
  first_holds (x ∷ xs) h =
      by_test (f x)
      (λ q. let e = first_here x xs q in ap f e ∙ q)
      (λ q. let e = first_later x xs q in ap f e ∙ first_holds xs (let l : first_with f (x ∷ xs) < 32 = h in omega (arith, e, l)))

  pub first_stands : (xs : List ℕ) → first_with f xs < 32 → 0 < count (first_with f xs) xs
  unfolding first_with first filter count
  first_stands [] h = absurd (let z : 32 < 32 = h in omega arith)
  first_stands (x ∷ xs) h =
      by_test (f x)
      (λ q. let e = first_here x xs q in let c = count_here x xs in let z = ap (λ (y : ℕ). count y (x ∷ xs)) e in omega (arith, c, z))
      (λ q. let e = first_later x xs q in
      let c = first_stands xs (let l : first_with f (x ∷ xs) < 32 = h in omega (arith, e, l)) in
      let z = ap (λ (y : ℕ). count y (x ∷ xs)) e in omega (arith, c, z))

-- of a list of threads: a thread or nobody, and somebody where the test holds of somebody
pub first_known : (f : ℕ → Bool) (xs : List ℕ) → ((v : ℕ) → 0 < count v xs → v < 32) → first_with f xs ≤ 32
unfolding first_with first filter count
first_known f [] small = omega arith
first_known f (x ∷ xs) small =
    by_test (f x)
    (λ q. let e = first_here f x xs q in let l = small x (let c = count_here x xs in omega (arith, c)) in omega (arith, e, l))
    (λ q. let e = first_later f x xs q in
    let r = first_known f xs (λ v c. small v (let z : count v xs ≤ count v (x ∷ xs) = omega arith in omega (arith, z, c))) in omega (arith, e, r))

pub first_some : (f : ℕ → Bool) (xs : List ℕ) (u : ℕ) → 0 < count u xs → f u ≡ true → ((v : ℕ) → 0 < count v xs → v < 32) → first_with f xs < 32
unfolding first_with first filter count
first_some f [] u c h small = absurd (let z : 0 < 0 = c in omega arith)
first_some f (x ∷ xs) u c h small =
    by_test (f x)
    (λ q. let e = first_here f x xs q in let l = small x (let d = count_here x xs in omega (arith, d)) in omega (arith, e, l))
    (λ q. let e = first_later f x xs q in
    let n : x ≡ u → ⊥ = λ w. never h (ap f (sym w) ∙ q) in
    let d = count_there u x xs n in
    let l : 0 < count u (x ∷ xs) = c in
    let r = first_some f xs u (omega (arith, d, l)) h (λ v g. small v (let z : count v xs ≤ count v (x ∷ xs) = omega arith in omega (arith, z, g))) in omega (arith, e, r))

-- ---- a list that begins with a list
-- whoever is taken out, and whoever joins the end
pub begins-moved : (r l : List ℕ) (t : ℕ) (ys : List ℕ) → Begins r l → Begins (without t r) (without t l ++ ys)
begins-moved r l t ys (w, e) =
    (without t w ++ ys, ap (λ (z : List ℕ). without t z ++ ys) e ∙ ap (λ (z : List ℕ). z ++ ys) (without-append t r w) ∙ append_assoc (without t r) (without t w) ys)

-- who stands in the beginning stands in the list
pub begins-count : (r l : List ℕ) → Begins r l → (t : ℕ) → count t r ≤ count t l
begins-count r l (w, e) t = let a = ap (count t) e ∙ count-append t r w in omega (arith, a)

pub begins-first : (x : ℕ) (r l : List ℕ) → Begins (x ∷ r) l → first l ≡ x
unfolding first
begins-first x r l (w, e) = ap (λ (z : List ℕ). get_or z 0 32) e
