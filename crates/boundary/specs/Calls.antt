-- Lists of calls through the block that a user of the library lends (rules 14.8, 14.9).
use Rattle.std.specs.Prelude.{◌≡◌, List, [], ◌∷◌, map, ℕ, ◌+◌, take}
use Rattle.words.specs.Words.{Byte, Word}
use Rattle.tape.specs.declared.replies.Reply.{Reply}
use Rattle.tape.specs.Replies.{replied}
use Rattle.tape.specs.Tapes.{records_of, messages_of}
use Rattle.kernel.specs.declared.Kernel.{Kernel}
use Rattle.kernel.specs.Runs.{reply_of}
use Rattle.codec.specs.State.{kernel_of}
use Rattle.codec.specs.Restored.{All}
use Rattle.apachimo.specs.Library.{block_refusal, call_reply, call_block}
use Rattle.claims.specs.Lists.{Made, answer, next}

-- ---- what is lent and passed
-- rule 14.8: a lent block that is not refused, whose numbers are bytes as every value of its type is
pub record Lent (b : List ℕ) : Type 0 where
  pub bytes : All Byte b
  pub taken : block_refusal b ≡ 0

-- rule 14.8: a call whose arguments and message words are words, as every value of their types is
pub record Passed (m : Made) : Type 0 where
  pub a : Word m.request.a
  pub b : Word m.request.b
  pub c : Word m.request.c
  pub d : Word m.request.d
  pub messages : All Word m.messages

-- ---- a list of calls, each through the block that the last one left
-- rules 14.6, 14.8: the block after one call, as the exported function leaves it
unfoldable pub block_after_call : List ℕ → Made → List ℕ
block_after_call b m = call_block b (answer (kernel_of b) m)

-- rule 14.8: the block after a list of calls
unfoldable pub block_after_calls : List ℕ → List Made → List ℕ
block_after_calls b [] = b
block_after_calls b (m ∷ ms) = block_after_calls (block_after_call b m) ms

-- rule 14.8: the replies to a list of calls through the block
unfoldable pub block_replies : List ℕ → List Made → List Reply
block_replies b [] = []
block_replies b (m ∷ ms) = call_reply b (answer (kernel_of b) m) ∷ block_replies (block_after_call b m) ms

-- rule 14.8: the replies to a list of calls on tables, each on those that the last one handed back
unfoldable pub replies_to : Kernel → List Made → List Reply
replies_to k [] = []
replies_to k (m ∷ ms) = reply_of (answer k m) ∷ replies_to (next k m) ms

-- ---- a run
-- rule 14.9: the records of a tape that a run carries out, as a list of calls: each has the tape's message words
unfoldable pub made_of : List ℕ → ℕ → List Made
made_of tape most = map (λ r. record { request = r; messages = messages_of tape }) (take most (records_of tape))

-- rule 14.9: the lent words after a list of replies is written to them, the first as that to record i
unfoldable pub replied_list : List ℕ → ℕ → List Reply → List ℕ
replied_list out i [] = out
replied_list out i (r ∷ rs) = replied_list (replied out i r) (i + 1) rs
