-- What the bytes of a tape spell are words, so that its records are calls with words; and a run of them is that list of calls.
use mathlib.Core.Path.{◌≡◌, refl, sym, ap, ◌∙◌}
use mathlib.Core.List.{List, [], ◌∷◌, map}
use mathlib.Core.Bool.{Bool, false}
use Prim.Native.Nat.{ℕ, ◌+◌}
use native.Mathlib.Omega.{arith}
use lib.ListN.{take}
use lib.Dec.{ltb}
use Rattle.std.specs.Prelude.{if◌then◌else◌}
use Rattle.lines.specs.Lists.{numbers_from}
use Rattle.lines.proofs.Laws.Logic.{by_choice, never}
use Rattle.words.specs.Words.{Byte, Word}
use Rattle.calls.specs.declared.call.Request.{Request}
use Rattle.tape.specs.Replies.{replied}
use Rattle.tape.specs.Tapes.{most_records, word_at, refusedb, count_of, message_count_of, records_end, no_request, record_from, record_at, message_at, records_of, messages_of}
use Rattle.kernel.specs.declared.Kernel.{Kernel}
use Rattle.kernel.specs.Runs.{after_record, after_records, ran, reply_to, replied_all, ran_replies}
use Rattle.kernel.specs.declared.run.Ran.{Ran}
use Rattle.codec.specs.Restored.{All}
use Rattle.codec.proofs.Laws.Arrays.{all_take, all_made}
use Rattle.codec.proofs.Laws.Rewritten.{byte-at, word_fits}
use Rattle.claims.specs.Lists.{Made, answer, next, after}
use Rattle.boundary.specs.Calls.{Passed, replies_to, made_of, replied_list}

-- of any number
abbrev Any : ℕ → Type 0
Any n = Unit {0}

anything : (xs : List ℕ) → All Any xs
anything [] = tt
anything (x ∷ xs) = (tt, anything xs)

-- ---- words
module _ (tape : List ℕ) (f : All Byte tape) where
  word-at : (at : ℕ) → Word (word_at tape at)
  unfolding word_at
  word-at at = word_fits _ _ _ _ (byte-at tape at f) (byte-at tape (at + 1) f) (byte-at tape (at + 2) f) (byte-at tape (at + 3) f)

  message-words : All Word (messages_of tape)
  unfolding messages_of message_at
  message-words = all_made Word (message_at tape) Any (λ i u. word-at _) (numbers_from 0 (message_count_of tape)) (anything (numbers_from 0 (message_count_of tape)))

  -- a record with the tape's message words
  abbrev Words : Request → Type 0
  Words r = Passed (record { request = r; messages = messages_of tape })

  record-words : (i : ℕ) → Words (record_at tape i)
  unfolding record_at record_from no_request
  record-words i =
      by_choice Words (ltb i most_records) (record_from tape (records_end i)) no_request
      (λ e. record { a = word-at _; b = word-at _; c = word-at _; d = word-at _; messages = message-words })
      (λ e. record { a = omega arith; b = omega arith; c = omega arith; d = omega arith; messages = message-words })

  pub made-words : (most : ℕ) → All Passed (made_of tape most)
  unfolding made_of records_of
  made-words most =
      all_made Passed (λ r. record { request = r; messages = messages_of tape }) Words (λ r w. w) (take most (records_of tape))
      (all_take Words most (records_of tape) (all_made Words (record_at tape) Any (λ i u. record-words i) (numbers_from 0 (count_of tape)) (anything (numbers_from 0 (count_of tape)))))

-- ---- a run
module _ (messages : List ℕ) where
  abbrev made : List Request → List Made
  made rs = map (λ r. record { request = r; messages = messages }) rs

  after-made : (k : Kernel) (rs : List Request) → after k (made rs) ≡ after_records k messages rs
  unfolding after next answer after_records after_record
  after-made k [] = refl
  after-made k (r ∷ rs) = after-made (after_record k messages r) rs

  replied-made : (k : Kernel) (rs : List Request) (i : ℕ) (out : List ℕ) → replied_all k messages rs i out ≡ replied_list out i (replies_to k (made rs))
  unfolding next answer replied_all after_record reply_to replied_list replies_to
  replied-made k [] i out = refl
  replied-made k (r ∷ rs) i out = replied-made (after_record k messages r) rs (i + 1) (replied out i (reply_to k messages r))

module _ (k : Kernel) (tape : List ℕ) (most : ℕ) (a : refusedb tape ≡ false) where
  pub ran_tables : (ran k tape most).kernel ≡ after k (made_of tape most)
  unfolding ran made_of
  ran_tables =
      by_choice (λ (x : Ran). x.kernel ≡ after k (made_of tape most)) (refusedb tape) _ _ (λ e. never e a) (λ e. sym (after-made (messages_of tape) k (take most (records_of tape))))

  pub ran_replies_lem : (out : List ℕ) → ran_replies k tape most out ≡ replied_list out 0 (replies_to k (made_of tape most))
  unfolding ran_replies made_of
  ran_replies_lem out = ap (λ (b : Bool). if b then out else replied_all k (messages_of tape) (take most (records_of tape)) 0 out) a ∙ replied-made (messages_of tape) k (take most (records_of tape)) 0 out
