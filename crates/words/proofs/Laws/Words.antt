-- The bytes of a number spell it, and the number that bytes spell has these bytes.
use mathlib.Core.Path.{◌≡◌, refl}
use mathlib.Core.List.{◌∷◌, []}
use Prim.Native.Nat.{ℕ, zero, suc, ◌/◌, ◌%◌}
use native.Mathlib.Omega.{arith}
use native.Mathlib.Nat.{mod-lt}
use lib.ListN.{get_or}
use Rattle.std.proofs.lemmas.Nat.{from_le_bytes-to_le_bytes_2, from_le_bytes-to_le_bytes_4, le_bytes_2, le_bytes_4}
use Rattle.words.specs.Words.{Byte, Half, Word, word, word_bytes, half, half_bytes, WordClaims}

-- a byte of a number
pub low_byte : (x : ℕ) → Byte (x % 0x100)
low_byte x = mod-lt x (omega arith)

-- ---- numbers from their bytes
pub word_spelled_lem : (x : ℕ) → Word x → word (x % 0x100) (x / 0x100 % 0x100) (x / 0x1_0000 % 0x100) (x / 0x100_0000 % 0x100) ≡ x
word_spelled_lem x h = omega (arith, from_le_bytes-to_le_bytes_4 x h)

pub half_spelled_lem : (x : ℕ) → Half x → half (x % 0x100) (x / 0x100 % 0x100) ≡ x
half_spelled_lem x h = omega (arith, from_le_bytes-to_le_bytes_2 x h)

-- ---- bytes from the number that they spell
word_split_lem : (b0 b1 b2 b3 : ℕ) → Byte b0 → Byte b1 → Byte b2 → Byte b3 → word_bytes (word b0 b1 b2 b3) ≡ b0 ∷ b1 ∷ b2 ∷ b3 ∷ []
unfolding word_bytes
word_split_lem b0 b1 b2 b3 h0 h1 h2 h3 = le_bytes_4 (b0 ∷ b1 ∷ b2 ∷ b3 ∷ []) (word b0 b1 b2 b3) refl small (omega arith)
  where
    small : (i : ℕ) → Byte (get_or (b0 ∷ b1 ∷ b2 ∷ b3 ∷ []) i 0)
    small zero = h0
    small (suc zero) = h1
    small (suc (suc zero)) = h2
    small (suc (suc (suc zero))) = h3
    small (suc (suc (suc (suc i)))) = omega arith

half_split_lem : (b0 b1 : ℕ) → Byte b0 → Byte b1 → half_bytes (half b0 b1) ≡ b0 ∷ b1 ∷ []
unfolding half_bytes
half_split_lem b0 b1 h0 h1 = le_bytes_2 (b0 ∷ b1 ∷ []) (half b0 b1) refl small (omega arith)
  where
    small : (i : ℕ) → Byte (get_or (b0 ∷ b1 ∷ []) i 0)
    small zero = h0
    small (suc zero) = h1
    small (suc (suc i)) = omega arith

pub claims : WordClaims
claims = record { word_spelled = word_spelled_lem; half_spelled = half_spelled_lem; word_split = word_split_lem; half_split = half_split_lem }
