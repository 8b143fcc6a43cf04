-- The fewest digits that hold a number are its decimal digits.
use mathlib.Core.Path.{◌≡◌, refl, ap₂, subst, ◌∙◌}
use mathlib.Core.List.{List, [], ◌∷◌, ◌++◌}
use mathlib.Core.Bool.{Bool, true, false}
use Prim.Native.Nat.{ℕ, zero, suc, ◌+◌, ◌-◌, ◌*◌, ◌/◌, ◌%◌, ◌^◌, ◌≤◌, ◌<◌}
use native.Mathlib.Nat.{not-suc-le-zero, le_of_suc-le-suc, pow-suc, mod-lt, mod-eq_of_lt, div-lt_iff_lt-mul, le-div_iff_mul-le, one-le-pow, pow-le-pow_right}
use native.Mathlib.Omega.{arith}
use lib.Dec.{ltb, lit<}
use borrow.Author.Tests.{lt-ltb, le-ltb, ltb-true, ltb-false}
use Rattle.io.specs.Digits.{last_digits, IsDigitCount, hex_digit_ascii}
use Rattle.output.specs.Texts.{decimal_in, decimal_of}

glyph_small : (d : ℕ) → d < 10 → hex_digit_ascii d ≡ 48 + d
glyph_small d h = rw (lt-ltb d 10 h)

digits_decimal : (k f n : ℕ) → k ≤ f → IsDigitCount 10 1 n k → last_digits 10 k n ≡ decimal_in f n
unfolding decimal_in
digits_decimal zero f n h w = absurd (not-suc-le-zero w.0)
digits_decimal (suc k) zero n h w = absurd (not-suc-le-zero h)
digits_decimal (suc zero) (suc f) n h w =
    let l : n < 10 = w.1 in
    let e : n % 10 ≡ n = mod-eq_of_lt l in
    rw (lt-ltb n 10 l, e, lt-ltb n 10 l)
digits_decimal (suc (suc k)) (suc f) n h w =
    let least : 10 ^ (suc (suc k) - 1) ≤ n = w.2 (omega arith) in
    let big : 10 ^ suc k ≤ n = subst (λ (j : ℕ). 10 ^ j ≤ n) (let z : suc (suc k) - 1 ≡ suc k = omega arith in z) least in
    let ten : 10 ^ k * 10 ≤ n = rw (pow-suc 10 k) at big in
    let one : 1 ≤ 10 ^ k = one-le-pow k 10 (lit< tt) in
    let up : n < 10 ^ suc k * 10 = rw (pow-suc 10 (suc k)) at w.1 in
    let low : 10 ^ k ≤ n / 10 = (le-div_iff_mul-le (lit< tt)).1 ten in
    let r =
    digits_decimal (suc k) f (n / 10) (le_of_suc-le-suc h)
    (omega arith, (div-lt_iff_lt-mul (lit< tt)).1 up, λ l. subst (λ (j : ℕ). 10 ^ j ≤ n / 10) (let z : k ≡ suc k - 1 = omega arith in z) low) in
    ap₂ (λ (ds : List ℕ) (d : ℕ). ds ++ (d ∷ [])) r (glyph_small (n % 10) (mod-lt n (lit< tt)))
    ∙ rw (le-ltb n 10 (omega arith))

-- a number of 64 bits has at most 20 digits
pub few_digits : (k n : ℕ) → n < 2 ^ 64 → IsDigitCount 10 1 n k → k ≤ 20
few_digits k n h w = go (ltb 20 k) refl
  where
    go : (b : Bool) → ltb 20 k ≡ b → k ≤ 20
    go true q =
        let l = ltb-true 20 k q in
        let low : 10 ^ (k - 1) ≤ n = w.2 (omega (arith, l)) in
        let up : 10 ^ 20 ≤ 10 ^ (k - 1) = pow-le-pow_right (lit< tt) (let z : 20 ≤ k - 1 = omega (arith, l) in z) in
        absurd (not-suc-le-zero (let z : 1 ≤ 0 = omega (arith, low, up, h) in z))
    go false q = ltb-false 20 k q

pub digits-all : (k n : ℕ) → n < 2 ^ 64 → IsDigitCount 10 1 n k → last_digits 10 k n ≡ decimal_of n
unfolding decimal_of
digits-all k n h w = digits_decimal k 20 n (few_digits k n h w) w

-- a number below ten is one digit
pub one_digit : (n : ℕ) → n < 10 → decimal_of n ≡ (48 + n) ∷ []
unfolding decimal_of decimal_in
one_digit n h = rw (lt-ltb n 10 h)
