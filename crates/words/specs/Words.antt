-- Little-endian numbers (rules 11.1, 14.1): what bytes spell, and the bytes of a number. That each undoes the other is proved as
-- `claims` of proofs/Laws/Words.antt.
use Rattle.std.specs.Prelude.{◌≡◌, List, [], ◌∷◌, ℕ, ◌+◌, ◌*◌, ◌/◌, ◌%◌, ◌<◌}

-- a number that one byte holds
abbrev pub Byte : ℕ → Type 0
Byte x = x < 0x100

-- a number that two bytes hold
abbrev pub Half : ℕ → Type 0
Half x = x < 0x1_0000

-- a number that four bytes hold
abbrev pub Word : ℕ → Type 0
Word x = x < 0x1_0000_0000

-- rule 14.1: how many bytes a word has
abbrev pub word_size : ℕ
word_size = 4

-- rule 14.1: how many bytes a half has
abbrev pub half_size : ℕ
half_size = 2

-- ---- words
-- rules 11.1, 14.1: the word that four bytes spell, the least one first
abbrev pub word : ℕ → ℕ → ℕ → ℕ → ℕ
word b0 b1 b2 b3 = b0 + 0x100 * b1 + 0x1_0000 * b2 + 0x100_0000 * b3

-- rule 14.1: the four bytes of a word, the least one first
unfoldable pub word_bytes : ℕ → List ℕ
word_bytes x = x % 0x100 ∷ x / 0x100 % 0x100 ∷ x / 0x1_0000 % 0x100 ∷ x / 0x100_0000 % 0x100 ∷ []

-- ---- halves
-- rule 14.1: the half that two bytes spell, the least one first
abbrev pub half : ℕ → ℕ → ℕ
half b0 b1 = b0 + 0x100 * b1

-- rule 14.1: the two bytes of a half, the least one first
unfoldable pub half_bytes : ℕ → List ℕ
half_bytes x = x % 0x100 ∷ x / 0x100 % 0x100 ∷ []

-- ---- claims
-- rule 14.2: bytes and the number that they spell are each other's
pub record WordClaims : Type 0 where
  -- the bytes of a number spell it
  pub word_spelled : (x : ℕ) → Word x → word (x % 0x100) (x / 0x100 % 0x100) (x / 0x1_0000 % 0x100) (x / 0x100_0000 % 0x100) ≡ x
  pub half_spelled : (x : ℕ) → Half x → half (x % 0x100) (x / 0x100 % 0x100) ≡ x
  -- the number that bytes spell has these bytes
  pub word_split : (b0 b1 b2 b3 : ℕ) → Byte b0 → Byte b1 → Byte b2 → Byte b3 → word_bytes (word b0 b1 b2 b3) ≡ b0 ∷ b1 ∷ b2 ∷ b3 ∷ []
  pub half_split : (b0 b1 : ℕ) → Byte b0 → Byte b1 → half_bytes (half b0 b1) ≡ b0 ∷ b1 ∷ []
