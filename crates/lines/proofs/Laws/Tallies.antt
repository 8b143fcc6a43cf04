-- The tally of a list says how often each number stands in it.
use mathlib.Core.Path.{◌≡◌, refl, sym, ap, ◌∙◌}
use mathlib.Core.List.{List, [], ◌∷◌, ◌++◌}
use mathlib.Core.Bool.{Bool, ◌&&◌}
use Prim.Native.Nat.{ℕ, zero, suc, ◌+◌, ◌≤◌, ◌<◌, min}
use native.Mathlib.Omega.{arith}
use lib.ListN.{length, get_or, length-set, replicate}
use lib.Seq.{get_or-set_same, get_or-set_other}
use lib.Dec.{eqb, ltb}
use borrow.Author.Tests.{eq-eqb, ne_eqb, ltb-true, ltb-false}
use Rattle.std.proofs.lemmas.List.{ext_get_or}
use Rattle.lines.specs.Logic.{one_if}
use Rattle.lines.specs.Loops.{slot_of, tally}
use Rattle.lines.specs.Lists.{count, below}
use Rattle.lines.proofs.Laws.Logic.{by_test, by_eq, by_choice, one_at_most}
use Rattle.lines.proofs.Laws.Lists.{count_here, count_there}

pub slot-min : (x : ℕ) → slot_of x ≡ min x 32
unfolding slot_of
slot-min x = by_choice (λ (z : ℕ). z ≡ min x 32) (ltb x 32) _ _ (λ q. let l = ltb-true x 32 q in omega (arith, l)) (λ q. let l = ltb-false x 32 q in omega (arith, l))

pub slot_in : (x : ℕ) → x < 32 → slot_of x ≡ x
slot_in x h = omega (arith, slot-min x)

pub slot_out : (x : ℕ) → 32 ≤ x → slot_of x ≡ 32
slot_out x h = omega (arith, slot-min x)

pub tally-length : (xs : List ℕ) → length (tally xs) ≡ 33
unfolding tally
tally-length [] = refl
tally-length (x ∷ xs) = simp length-set (tally-length xs)

-- one number more
tally_hit : (x : ℕ) (xs : List ℕ) → get_or (tally (x ∷ xs)) (slot_of x) 0 ≡ get_or (tally xs) (slot_of x) 0 + 1
unfolding tally
tally_hit x xs = get_or-set_same (tally xs) (slot_of x) _ 0 (omega (arith, slot-min x, tally-length xs))

tally-at : (x : ℕ) (xs : List ℕ) (k : ℕ) → k ≡ slot_of x → get_or (tally (x ∷ xs)) k 0 ≡ get_or (tally xs) k 0 + 1
tally-at x xs k e = ap (λ (j : ℕ). get_or (tally (x ∷ xs)) j 0) e ∙ tally_hit x xs ∙ ap (λ (j : ℕ). get_or (tally xs) j 0 + 1) (sym e)

tally_miss : (x : ℕ) (xs : List ℕ) (k : ℕ) → (k ≡ slot_of x → ⊥) → get_or (tally (x ∷ xs)) k 0 ≡ get_or (tally xs) k 0
unfolding tally
tally_miss x xs k n = get_or-set_other (tally xs) (slot_of x) k _ 0 n

zeros-at : (n k : ℕ) → ◌≡◌ {A = ℕ} (get_or (replicate n 0) k 0) 0
zeros-at zero k = refl
zeros-at (suc n) zero = refl
zeros-at (suc n) (suc k) = zeros-at n k

pub tally-count : (t : ℕ) (xs : List ℕ) → t < 32 → get_or (tally xs) t 0 ≡ count t xs
unfolding count tally
tally-count t [] h = zeros-at 33 t
tally-count t (x ∷ xs) h =
    let r = tally-count t xs h in
    by_eq x t
    (λ e. let s : slot_of x ≡ t = slot_in x (omega (arith, e)) ∙ e in
    tally-at x xs t (sym s)
    ∙ (let c : count t (x ∷ xs) ≡ suc (count t xs) = ap (λ (y : ℕ). count t (y ∷ xs)) e ∙ count_here t xs in omega (arith, r, c)))
    (λ e. tally_miss x xs t (λ q. by_test (ltb x 32)
    (λ l. e (sym (slot_in x (ltb-true x 32 l)) ∙ sym q))
    (λ l. let s = slot_out x (ltb-false x 32 l) in omega (arith, s, q)))
    ∙ r ∙ sym (count_there t x xs e))

pub tally-below : (xs : List ℕ) → eqb (get_or (tally xs) 32 0) 0 ≡ below 32 xs
unfolding below tally
tally-below [] = ap (λ (n : ℕ). eqb n 0) (zeros-at 33 32)
tally-below (x ∷ xs) =
    by_test (ltb x 32)
    (λ l. let s = slot_in x (ltb-true x 32 l) in let g = ltb-true x 32 l in
    ap (λ (n : ℕ). eqb n 0) (tally_miss x xs 32 (λ q. omega (arith, s, q, g))) ∙ tally-below xs ∙ ap (λ (b : Bool). b && below 32 xs) (sym l))
    (λ l. let s = slot_out x (ltb-false x 32 l) in
    let e : get_or (tally (x ∷ xs)) 32 0 ≡ get_or (tally xs) 32 0 + 1 = tally-at x xs 32 (sym s) in
    ne_eqb (get_or (tally (x ∷ xs)) 32 0) 0 (λ q. omega (arith, e, q)) ∙ ap (λ (b : Bool). b && below 32 xs) (sym l))

-- how often each slot is counted, with one number more
tally-step : (x : ℕ) (xs : List ℕ) (k : ℕ) → get_or (tally (x ∷ xs)) k 0 ≡ one_if (eqb k (slot_of x)) + get_or (tally xs) k 0
unfolding one_if
tally-step x xs k =
    by_eq k (slot_of x)
    (λ e. rw (eq-eqb k (slot_of x) e) (omega (arith, tally-at x xs k e)))
    (λ e. rw (ne_eqb k (slot_of x) e) (omega (arith, tally_miss x xs k e)))

-- the order of the numbers does not matter
tally-slot : (xs : List ℕ) (x k : ℕ) → get_or (tally (xs ++ (x ∷ []))) k 0 ≡ get_or (tally (x ∷ xs)) k 0
tally-slot [] x k = refl
tally-slot (y ∷ xs) x k =
    omega (arith, tally-slot xs x k, tally-step y (xs ++ (x ∷ [])) k, tally-step x (y ∷ xs) k, tally-step y xs k, tally-step x xs k)

pub tally_more : (xs : List ℕ) (x : ℕ) → tally (xs ++ (x ∷ [])) ≡ tally (x ∷ xs)
tally_more xs x = ext_get_or 0 _ _ (tally-length (xs ++ (x ∷ [])) ∙ sym (tally-length (x ∷ xs))) (λ k h. tally-slot xs x k)

pub tally_small : (k : ℕ) (xs : List ℕ) → get_or (tally xs) k 0 ≤ length xs
unfolding tally one_if
tally_small k [] = let z = zeros-at 33 k in omega (arith, z)
tally_small k (x ∷ xs) = omega (arith, tally_small k xs, tally-step x xs k, one_at_most (eqb k (slot_of x)))
