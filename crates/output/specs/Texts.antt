-- Text that goes into a buffer, byte by byte: where each byte goes, and what the buffer then holds. A buffer is its bytes and a position,
-- up to which it holds text that is not written out yet.
use Rattle.std.specs.Prelude.{◌≡◌, cond, List, [], ◌∷◌, ◌++◌, ℕ, zero, suc, ◌+◌, ◌/◌, ◌%◌, ◌≤◌, min, length, take, drop, set, ltb}
use Prim.Native.Char.{code}
use Prim.Native.String.{String, [] as noText, ◌∷◌ as ◌then◌}
use Rattle.output.specs.declared.Writer.{Writer}

-- where the next byte goes: at the position, or at the front, once a buffer that is full was written out
unfoldable pub place_in : ℕ → ℕ → ℕ
place_in size at = cond (ltb at size) at 0

-- the position behind a byte; a buffer of no size holds nothing
unfoldable pub byte_end : ℕ → ℕ → ℕ
byte_end size at = min (place_in size at + 1) size

-- the position behind a text, in a buffer of a size; a position past the buffer counts as a full buffer
unfoldable pub text_end : ℕ → ℕ → List ℕ → ℕ
text_end size at [] = min at size
text_end size at (b ∷ bs) = text_end size (byte_end size at) bs

-- the buffer's bytes once a text went in
unfoldable pub text_in : List ℕ → ℕ → List ℕ → List ℕ
text_in buf at [] = buf
text_in buf at (b ∷ bs) = text_in (set buf (place_in (length buf) at) b) (byte_end (length buf) at) bs

-- a text went into a buffer: the position and the bytes are then these; the last part follows from the first
pub record Put (before : List ℕ) (at : ℕ) (text after : List ℕ) (r : ℕ) : Type 0 where
  pub end : r ≡ text_end (length before) at text
  pub bytes : after ≡ text_in before at text
  pub within : r ≤ length after

-- a text went into a writer's buffer, which stays the one that was lent
pub record Puts {P : Type 0} (before : Writer P) (text : List ℕ) (after : Writer P) : Type 0 where
  pub put : Put before.buf.now before.at text after.buf.now after.at
  pub lent : after.buf.ghost_name ≡ before.buf.ghost_name

-- A text that goes in behind another is one text with it. A text that finds room stands behind the text before it, and every other byte is
-- as before. Proved as `texts` of proofs/Laws/Texts.antt.
pub record TextClaims : Type 0 where
  pub append : {a b c : List ℕ} {at r s : ℕ} {xs ys : List ℕ} → Put a at xs b r → Put b r ys c s → Put a at (xs ++ ys) c s
  pub room_end : (size at : ℕ) (bs : List ℕ) → at + length bs ≤ size → text_end size at bs ≡ at + length bs
  pub room_bytes : (buf : List ℕ) (at : ℕ) (bs : List ℕ) → at + length bs ≤ length buf
      → text_in buf at bs ≡ take at buf ++ bs ++ drop (at + length bs) buf

-- the ASCII digits of a number that has at most so many
unfoldable pub decimal_in : ℕ → ℕ → List ℕ
decimal_in zero n = []
decimal_in (suc k) n = cond (ltb n 10) ((48 + n) ∷ []) (decimal_in k (n / 10) ++ ((48 + n % 10) ∷ []))

-- rule 11.6: the ASCII digits of a number of 64 bits, which has at most 20
unfoldable pub decimal_of : ℕ → List ℕ
decimal_of n = decimal_in 20 n

-- rule 11.6: the bytes of a text in ASCII
abbrev pub ascii : String → List ℕ
ascii noText = []
ascii (c then s) = code c ∷ ascii s
