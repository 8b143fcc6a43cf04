-- rule 15.13: a tape of one record and two message words. What it holds, and that it is refused with a byte more or a byte less, with
-- another offset, or where it says other counts. Proved as `cases` of proofs/Laws/Cases.antt.
use Rattle.std.specs.Prelude.{◌≡◌, List, [], ◌∷◌, ◌++◌, true, false, ℕ, take, set}
use Rattle.tape.specs.Tapes.{refusedb, records_of, messages_of}

-- rule 15.13: a send by a thread to queue 3, without end, of the words from 0 on; the fourth argument is 256
unfoldable pub sample : List ℕ
sample =
    1 ∷ 0 ∷ 0 ∷ 0 ∷ 16 ∷ 0 ∷ 0 ∷ 0 ∷ 2 ∷ 0 ∷ 0 ∷ 0 ∷
    40 ∷ 0 ∷ 0 ∷ 0 ∷ 24 ∷ 0 ∷ 0 ∷ 0 ∷ 2 ∷ 0 ∷ 0 ∷ 0 ∷
    3 ∷ 0 ∷ 0 ∷ 0 ∷ 255 ∷ 255 ∷ 255 ∷ 255 ∷ 0 ∷ 0 ∷ 0 ∷ 0 ∷
    0 ∷ 1 ∷ 0 ∷ 0 ∷ 1 ∷ 2 ∷ 3 ∷ 4 ∷ 7 ∷ 0 ∷ 0 ∷ 0 ∷ []

-- rule 15.13: what it holds, and how it is refused
pub record Cases : Type 0 where
  -- accepted, with one record and two message words
  pub accepted : refusedb sample ≡ false
  pub records : records_of sample ≡ record { number = 24; caller = 2; a = 3; b = 0xFFFF_FFFF; c = 0; d = 256 } ∷ []
  pub messages : messages_of sample ≡ 0x0403_0201 ∷ 7 ∷ []
  -- refused: a byte more, a byte less, a header cut short, no bytes
  pub length : (refusedb (sample ++ (0 ∷ [])) ≡ true) × (refusedb (take 47 sample) ≡ true)
      × (refusedb (take 15 sample) ≡ true) × (refusedb [] ≡ true)
  -- refused: two records, one message word
  pub counts : (refusedb (set sample 0 2) ≡ true) × (refusedb (set sample 8 1) ≡ true)
  -- refused: records or messages from another offset; a refused tape has no message words
  pub offsets : (refusedb (set sample 4 17) ≡ true) × (refusedb (set sample 12 41) ≡ true) × (messages_of (set sample 12 41) ≡ [])
