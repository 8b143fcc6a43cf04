-- Runs of call tapes: the records one after the other, each on the tables that the last one handed back (rules 11.2 to 11.5).
use Rattle.std.specs.Prelude.{if◌then◌else◌, List, [], ◌∷◌, ℕ, ◌+◌, min, take}
use Rattle.calls.specs.Statuses as Statuses
use Rattle.calls.specs.declared.call.Request.{Request}
use Rattle.tape.specs.declared.replies.Reply.{Reply}
use Rattle.tape.specs.Replies.{replied}
use Rattle.tape.specs.Tapes.{refusedb, count_of, records_of, messages_of}
use Rattle.kernel.specs.declared.Kernel.{Kernel}
use Rattle.kernel.specs.declared.Answer.{Answer}
use Rattle.kernel.specs.declared.run.Ran.{Ran}
use Rattle.kernel.specs.General.{call}
use Rattle.kernel.specs.Sound.{soundb}

-- rule 11.3: the tables after one record
unfoldable pub after_record : Kernel → List ℕ → Request → Kernel
after_record k messages r = (call k r messages).kernel

-- rule 11.3: the tables after a list of records, in order
unfoldable pub after_records : Kernel → List ℕ → List Request → Kernel
after_records k messages [] = k
after_records k messages (r ∷ rs) = after_records (after_record k messages r) messages rs

-- rules 11.2 to 11.4: a refused tape leaves the tables as they are, and no record is carried out; that comes before the test of the tables.
-- Else as many records are carried out as there are, but no more than the given number
unfoldable pub ran : Kernel → List ℕ → ℕ → Ran
ran k bytes most =
    if refusedb bytes
    then record { status = Statuses.tape_refused; carried = 0; kernel = k }
    else
    record {
      status = if soundb k then Statuses.success else Statuses.tables_unsound;
      carried = min most (count_of bytes);
      kernel = after_records k (messages_of bytes) (take most (records_of bytes));
    }

-- ---- replies
-- rule 11.5: a call's result without the tables
unfoldable pub reply_of : Answer → Reply
reply_of a = record { status = a.status; words = a.words; next = a.next.0; ended = a.ended }

-- rule 11.5: the reply to one record
unfoldable pub reply_to : Kernel → List ℕ → Request → Reply
reply_to k messages r = reply_of (call k r messages)

-- rule 11.5: the lent words after the replies to a list of records, of which the first is record i
unfoldable pub replied_all : Kernel → List ℕ → List Request → ℕ → List ℕ → List ℕ
replied_all k messages [] i out = out
replied_all k messages (r ∷ rs) i out = replied_all (after_record k messages r) messages rs (i + 1) (replied out i (reply_to k messages r))

-- rules 11.2, 11.4, 11.5: the lent words after a run: of a refused tape no reply is written, on unsound tables each record answers 0x100
unfoldable pub ran_replies : Kernel → List ℕ → ℕ → List ℕ → List ℕ
ran_replies k bytes most out = if refusedb bytes then out else replied_all k (messages_of bytes) (take most (records_of bytes)) 0 out
