-- Laws of bits that lib.Bits lacks: the operations are associative, and so a union may grow at its end.
use mathlib.Core.Path.{◌≡◌, refl, sym, ap, ap₂, ◌∙◌}
use mathlib.Core.List.{List, [], ◌∷◌, ◌++◌}
use Prim.Native.Nat.{ℕ, zero, ◌+◌, ◌*◌, ◌/◌, ◌%◌, ◌<◌, min, max}
use native.Mathlib.Nat.{mod-lt, zero-lt-suc}
use native.Mathlib.Omega.{arith}
use lib.Arith.{bin_ind, digits_div, digits_mod}
use lib.Bits.{bit_and, bit_or, and_step, or_step, or_zero_r}
use Rattle.lines.specs.Lists.{union_of}

-- an operation that works on the lowest digits and on the rest apart
module _ (op f : ℕ → ℕ → ℕ)
    (step : (a b : ℕ) → op a b ≡ op (a / 2) (b / 2) * 2 + f (a % 2) (b % 2))
    (small : (x y : ℕ) → x < 2 → y < 2 → f x y < 2) where
  digit : (a b : ℕ) → f (a % 2) (b % 2) < 2
  digit a b = small (a % 2) (b % 2) (mod-lt a (zero-lt-suc 1)) (mod-lt b (zero-lt-suc 1))

  half : (a b : ℕ) → op a b / 2 ≡ op (a / 2) (b / 2)
  half a b = ap (λ (x : ℕ). x / 2) (step a b) ∙ digits_div (op (a / 2) (b / 2)) (digit a b)

  odd : (a b : ℕ) → op a b % 2 ≡ f (a % 2) (b % 2)
  odd a b = ap (λ (x : ℕ). x % 2) (step a b) ∙ digits_mod (op (a / 2) (b / 2)) (digit a b)

  assoc : ((x y z : ℕ) → f (f x y) z ≡ f x (f y z)) → ((b c : ℕ) → op (op zero b) c ≡ op zero (op b c))
      → (a b c : ℕ) → op (op a b) c ≡ op a (op b c)
  assoc fs base a =
      bin_ind (λ (n : ℕ). (b c : ℕ) → op (op n b) c ≡ op n (op b c)) base
      (λ n ih b c. step (op n b) c
      ∙ ap₂ (λ (x y : ℕ). op x (c / 2) * 2 + f y (c % 2)) (half n b) (odd n b)
      ∙ ap₂ (λ (x y : ℕ). x * 2 + y) (ih (b / 2) (c / 2)) (fs (n % 2) (b % 2) (c % 2))
      ∙ sym (step n (op b c) ∙ ap₂ (λ (x y : ℕ). op (n / 2) x * 2 + f (n % 2) y) (half b c) (odd b c))) a

pub and_assoc : (a b c : ℕ) → bit_and (bit_and a b) c ≡ bit_and a (bit_and b c)
and_assoc = assoc bit_and min and_step (λ x y h g. omega arith) (λ x y z. omega arith) (λ b c. refl)

pub or_assoc : (a b c : ℕ) → bit_or (bit_or a b) c ≡ bit_or a (bit_or b c)
or_assoc = assoc bit_or max or_step (λ x y h g. omega arith) (λ x y z. omega arith) (λ b c. refl)

-- one more at the end
pub union_more : (flags : ℕ → ℕ) (xs : List ℕ) (x : ℕ) → union_of flags (xs ++ (x ∷ [])) ≡ bit_or (union_of flags xs) (flags x)
unfolding union_of
union_more flags [] x = or_zero_r (flags x)
union_more flags (y ∷ xs) x = ap (bit_or (flags y)) (union_more flags xs x) ∙ sym (or_assoc (flags y) (union_of flags xs) (flags x))
