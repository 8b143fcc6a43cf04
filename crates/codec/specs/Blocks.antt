-- Blocks of bytes: parts, words and flags in them, tables of records that lie one behind the other (rule 14.1).
use Rattle.std.specs.Prelude.{if◌then◌else◌, List, [], ◌∷◌, ◌++◌, map, Bool, ℕ, ◌*◌, take, drop, get_or, eqb}
use Rattle.words.specs.Words.{word_size, word, half}
use Rattle.lines.specs.Lists.{numbers_from}

-- the n bytes from byte a on
unfoldable pub part : ℕ → ℕ → List ℕ → List ℕ
part a n b = take n (drop a b)

-- ---- reading
-- byte i of a part; past its end 0
abbrev pub byte_at : List ℕ → ℕ → ℕ
byte_at b i = get_or b i 0

-- a flag is a byte: 1 where it is set
abbrev pub flag_at : List ℕ → ℕ → Bool
flag_at b i = eqb (byte_at b i) 1

-- the word that the first four bytes spell
unfoldable pub word_of : List ℕ → ℕ
word_of b = word (byte_at b 0) (byte_at b 1) (byte_at b 2) (byte_at b 3)

-- the half that the first two bytes spell
unfoldable pub half_of : List ℕ → ℕ
half_of b = half (byte_at b 0) (byte_at b 1)

-- n records of `size` bytes each, one behind the other
unfoldable pub table_of : {A : Type 0} → (List ℕ → A) → ℕ → ℕ → List ℕ → List A
table_of read size n b = map (λ i. read (part (size * i) size b)) (numbers_from 0 n)

-- n words, one behind the other
abbrev pub words_of : ℕ → List ℕ → List ℕ
words_of n b = table_of word_of word_size n b

-- ---- writing
-- a flag as a byte
unfoldable pub flag_byte : Bool → ℕ
flag_byte x = if x then 1 else 0

-- records written one behind the other
unfoldable pub all_bytes : {A : Type 0} → (A → List ℕ) → List A → List ℕ
all_bytes write [] = []
all_bytes write (x ∷ xs) = write x ++ all_bytes write xs
