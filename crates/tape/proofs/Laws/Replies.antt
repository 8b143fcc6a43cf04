-- Laws of replies: sixteen words spelled out.
use mathlib.Core.Path.{◌≡◌, ap, ◌∙◌}
use mathlib.Core.List.{List, [], ◌∷◌}
use Prim.Native.Nat.{ℕ, zero, suc, ◌+◌}
use native.Mathlib.Omega.{arith}
use lib.ListN.{length, get_or, drop}
use lib.Seq.{drop-cons, drop-length}

-- n elements of a list from place i on, one by one
abbrev pub spelt : List ℕ → ℕ → ℕ → List ℕ
spelt l zero i = []
spelt l (suc n) i = get_or l i 0 ∷ spelt l n (suc i)

-- they are all that is left of a list of that length
pub spelled : (l : List ℕ) (n i : ℕ) → length l ≡ i + n → drop i l ≡ spelt l n i
spelled l zero i e = ap (λ (k : ℕ). drop k l) (let h : i ≡ length l = omega (arith, e) in h) ∙ drop-length l
spelled l (suc n) i e =
    drop-cons l i 0 (omega (arith, e)) ∙ ap (λ (xs : List ℕ). get_or l i 0 ∷ xs) (spelled l n (suc i) (omega (arith, e)))

-- sixteen words, one by one
pub sixteen : (l : List ℕ) → length l ≡ 16 → l ≡ spelt l 16 0
sixteen l e = spelled l 16 0 e
