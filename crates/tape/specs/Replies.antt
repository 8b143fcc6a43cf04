-- Replies to the records of a tape, as words (rules 11.4, 11.5).
use Rattle.std.specs.Prelude.{if◌then◌else◌, List, [], ◌∷◌, ◌++◌, ℕ, zero, suc, ◌+◌, ◌*◌, length, leb}
use Rattle.std.proofs.Math.Seq.{paste}
use Rattle.calls.specs.Held.{no_words}
use Rattle.tape.specs.declared.replies.Reply.{Reply}

-- rule 11.5: a reply has nineteen words
abbrev pub reply_size : ℕ
reply_size = 19

-- rule 2.4: the reply to a refused call, with the thread that runs next: no words, no ended waits
unfoldable pub refusal : ℕ → ℕ → Reply
refusal status next = record { status = status; words = no_words; next = next; ended = 0 }

-- rule 11.5: status, sixteen words, next thread and ended waits, in this order
unfoldable pub reply_words : Reply → List ℕ
reply_words r = r.status ∷ (r.words ++ (r.next ∷ r.ended ∷ []))

-- rule 11.5: the lent words after the reply to record i is written to its place, where there is room for all of it
unfoldable pub replied : List ℕ → ℕ → Reply → List ℕ
replied out i r = if leb (reply_size * i + reply_size) (length out) then paste out (reply_size * i) (reply_words r) reply_size else out

-- rule 11.4: the lent words after the same reply to each of the first n records
unfoldable pub replied_each : List ℕ → ℕ → Reply → List ℕ
replied_each out zero r = out
replied_each out (suc n) r = replied (replied_each out n r) n r
