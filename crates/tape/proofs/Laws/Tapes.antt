-- Laws of tapes: words past the end, how many records and message words there are, and where each is.
use mathlib.Core.Path.{◌≡◌, refl, sym, ap, ap₂, ◌∙◌}
use mathlib.Core.List.{List, map}
use mathlib.Core.Bool.{Bool, true, false, ◌||◌, not}
use Prim.Native.Nat.{ℕ, ◌+◌, ◌-◌, ◌≤◌, ◌<◌}
use native.Mathlib.Omega.{arith}
use lib.ListN.{length, get_or, take, drop, length-drop, length-map, get_or-eq_default, get_or-map}
use lib.Seq.{take_all, length-take-le, get_or-take, get_or-drop}
use lib.Dec.{eqb, ltb}
use borrow.Author.Tests.{ltb-false, eqb-true, not-false}
use Rattle.lines.specs.Lists.{numbers_from}
use Rattle.lines.specs.Lines.{pad}
use Rattle.lines.proofs.Laws.Logic.{by_test, never}
use Rattle.lines.proofs.Laws.Lists.{get_d_any, length_numbers, number_at}
use Rattle.lines.proofs.Laws.Lines.{take-pad, length-pad}
use Rattle.words.specs.Words.{word}
use Rattle.calls.specs.declared.call.Request.{Request}
use Rattle.tape.specs.Tapes.{word_at, header_bytes, record_bytes, most_records, most_message_words, records_said, records_offset, messages_said, messages_offset, records_end, tape_end, refusedb, count_of, message_count_of, record_from, record_at, message_at, records_of, messages_of}

-- past the end there are zeros
pub word_past : (bytes : List ℕ) (at : ℕ) → length bytes ≤ at → word_at bytes at ≡ 0
unfolding word_at
word_past bytes at h =
    let b0 = get_or-eq_default bytes 0 h in
    let b1 : get_or bytes (at + 1) 0 ≡ 0 = get_or-eq_default bytes 0 (omega arith) in
    let b2 : get_or bytes (at + 2) 0 ≡ 0 = get_or-eq_default bytes 0 (omega arith) in
    let b3 : get_or bytes (at + 3) 0 ≡ 0 = get_or-eq_default bytes 0 (omega arith) in
    omega (arith, b0, b1, b2, b3)

-- ---- a record that lies whole on the tape, read from its part: the n bytes from byte `at` on
module _ (bytes : List ℕ) (at n : ℕ) where
  -- the part has its size
  pub part_size : at + n ≤ length bytes → length (take (at + n - at) (drop at bytes)) ≡ n
  part_size h =
      let d = length-drop at bytes in
      length-take-le (at + n - at) (drop at bytes) (omega (arith, d, h)) ∙ (let z : at + n - at ≡ n = omega arith in z)

  part_byte : (k : ℕ) → k < n → get_or (take (at + n - at) (drop at bytes)) k 0 ≡ get_or bytes (at + k) 0
  part_byte k h = get_or-take (at + n - at) (drop at bytes) k 0 (omega (arith, h)) ∙ get_or-drop at bytes k 0

  part-word : (k m : ℕ) → k + 4 ≤ n → m ≡ at + k → word_at (take (at + n - at) (drop at bytes)) k ≡ word_at bytes m
  unfolding word_at
  part-word k m h e =
      let b0 = part_byte k (omega (arith, h)) in
      let b1 = part_byte (k + 1) (omega (arith, h)) ∙ ap (λ (j : ℕ). get_or bytes j 0) (let z : at + (k + 1) ≡ at + k + 1 = omega arith in z) in
      let b2 = part_byte (k + 2) (omega (arith, h)) ∙ ap (λ (j : ℕ). get_or bytes j 0) (let z : at + (k + 2) ≡ at + k + 2 = omega arith in z) in
      let b3 = part_byte (k + 3) (omega (arith, h)) ∙ ap (λ (j : ℕ). get_or bytes j 0) (let z : at + (k + 3) ≡ at + k + 3 = omega arith in z) in
      (λ i. word (b0 i) (b1 i) (b2 i) (b3 i)) ∙ sym (ap (word_at bytes) e)

-- its words are those of the tape
pub part_record : (bytes : List ℕ) (at : ℕ) → record_from (take (at + record_bytes - at) (drop at bytes)) 0 ≡ record_from bytes at
unfolding record_from
part_record bytes at =
    let w = part-word bytes at record_bytes in
    λ i.
    record {
      number = w 0 at (omega arith) (omega arith) i;
      caller = w 4 (at + 4) (omega arith) refl i;
      a = w 8 (at + 8) (omega arith) refl i;
      b = w 12 (at + 12) (omega arith) refl i;
      c = w 16 (at + 16) (omega arith) refl i;
      d = w 20 (at + 20) (omega arith) refl i;
    }

-- ---- what a function makes of the first n numbers
module _ {A : Type 0} (f : ℕ → A) (n : ℕ) where
  pub length-made : length (map f (numbers_from 0 n)) ≡ n
  length-made = length-map (numbers_from 0 n) f ∙ length_numbers 0 n

  pub made_at : (k : ℕ) (d : A) → k < n → get_or (map f (numbers_from 0 n)) k d ≡ f k
  made_at k d h =
      get_d_any (map f (numbers_from 0 n)) k d (f 0) (let l = length-made in omega (arith, l))
      ∙ get_or-map f (numbers_from 0 n) k 0
      ∙ ap f (let r = number_at 0 n k h in omega (arith, r))

-- ---- a tape that is not refused
or_no_left : (a b : Bool) → (a || b) ≡ false → a ≡ false
or_no_left true b e = e
or_no_left false b e = refl

or_no_right : (a b : Bool) → (a || b) ≡ false → b ≡ false
or_no_right true b e = never refl e
or_no_right false b e = e

or_no : (a b c d e f : Bool) → (a || b || c || d || e || f) ≡ false → (a ≡ false) × (b ≡ false) × (c ≡ false) × (d ≡ false) × (e ≡ false) × (f ≡ false)
or_no a b c d e f h =
    let h5 = or_no_left (a || b || c || d || e) f h in
    let h4 = or_no_left (a || b || c || d) e h5 in
    let h3 = or_no_left (a || b || c) d h4 in
    let h2 = or_no_left (a || b) c h3 in
    (or_no_left a b h2, or_no_right a b h2, or_no_right (a || b) c h3, or_no_right (a || b || c) d h4, or_no_right (a || b || c || d) e h5, or_no_right (a || b || c || d || e) f h)

module _ (bytes : List ℕ) where
  -- its offsets, its counts and its length are as the format says
  pub accepted : refusedb bytes ≡ false
      → (records_offset bytes ≡ header_bytes)
      × (records_said bytes ≤ most_records)
      × (messages_offset bytes ≡ records_end (records_said bytes))
      × (messages_said bytes ≤ most_message_words)
      × (length bytes ≡ tape_end (records_said bytes) (messages_said bytes))
  unfolding refusedb
  accepted h =
      let n = records_said bytes in
      let m = messages_said bytes in
      let t =
      or_no (ltb (length bytes) header_bytes) (not (eqb (records_offset bytes) header_bytes)) (ltb most_records n)
      (not (eqb (messages_offset bytes) (records_end n))) (ltb most_message_words m) (not (eqb (length bytes) (tape_end n m))) h in (
        eqb-true _ _ (not-false (eqb (records_offset bytes) header_bytes) t.1),
        ltb-false most_records n t.2,
        eqb-true _ _ (not-false (eqb (messages_offset bytes) (records_end n)) t.3),
        ltb-false most_message_words m t.4,
        eqb-true _ _ (not-false (eqb (length bytes) (tape_end n m)) t.5),
      )

  pub count-refused : refusedb bytes ≡ true → count_of bytes ≡ 0
  unfolding count_of
  count-refused e = rw e

  pub count_accepted : refusedb bytes ≡ false → count_of bytes ≡ records_said bytes
  unfolding count_of
  count_accepted e = rw e

  pub messages-refused : refusedb bytes ≡ true → message_count_of bytes ≡ 0
  unfolding message_count_of
  messages-refused e = rw e

  pub messages_accepted : refusedb bytes ≡ false → message_count_of bytes ≡ messages_said bytes
  unfolding message_count_of
  messages_accepted e = rw e

  pub count_most : count_of bytes ≤ most_records
  count_most =
      by_test (refusedb bytes)
      (λ e. let z = count-refused e in omega (arith, z))
      (λ e. let z = count_accepted e in let h = (accepted e).1 in omega (arith, z, h))

  pub messages_most : message_count_of bytes ≤ most_message_words
  messages_most =
      by_test (refusedb bytes)
      (λ e. let z = messages-refused e in omega (arith, z))
      (λ e. let z = messages_accepted e in let h = (accepted e).3 in omega (arith, z, h))

  -- ---- its records and its message words
  pub length_records : length (records_of bytes) ≡ count_of bytes
  unfolding records_of
  length_records = length-made (record_at bytes) (count_of bytes)

  pub record_in : (i : ℕ) (r : Request) → i < count_of bytes → get_or (records_of bytes) i r ≡ record_at bytes i
  unfolding records_of
  record_in i r h = made_at (record_at bytes) (count_of bytes) i r h

  pub length-messages : length (messages_of bytes) ≡ message_count_of bytes
  unfolding messages_of
  length-messages = length-made (message_at bytes) (message_count_of bytes)

  pub message_in_lem : (i : ℕ) → i < message_count_of bytes → get_or (messages_of bytes) i 0 ≡ message_at bytes i
  unfolding messages_of
  message_in_lem i h = made_at (message_at bytes) (message_count_of bytes) i 0 h

  -- the first words of the table that is read are the message words
  pub messages-front : take (message_count_of bytes) (pad most_message_words (messages_of bytes)) ≡ messages_of bytes
  messages-front =
      let xs = messages_of bytes in
      let a = take_all most_message_words xs (let z = length-messages in let h = messages_most in omega (arith, z, h)) in
      ap (λ (k : ℕ). take k (pad most_message_words xs)) (sym length-messages ∙ ap length (sym a)) ∙ take-pad most_message_words xs ∙ a

-- ---- lending the message words: of the table that `messages` answers and the number that `message_count` answers, the first m words of
-- the table may be lent, and they are the message words
module _ (bytes words : List ℕ) (m : ℕ) (e : words ≡ pad most_message_words (messages_of bytes)) (g : m ≡ message_count_of bytes) where
  pub lent_within : m ≤ length words
  lent_within = let h = messages_most bytes in let l = ap length e ∙ length-pad most_message_words (messages_of bytes) in omega (arith, h, l)

  pub lent-words : take m words ≡ messages_of bytes
  lent-words = ap₂ take g e ∙ messages-front bytes

  pub lent_length : m ≡ length (take m words)
  lent_length = g ∙ sym (length-messages bytes) ∙ ap length (sym lent-words)
