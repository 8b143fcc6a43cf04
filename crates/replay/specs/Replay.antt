-- What the program `replay` prints of a tape (rule 11.6).
use Rattle.std.specs.Prelude.{if◌then◌else◌, List, ◌++◌, ℕ, length}
use Rattle.calls.specs.declared.call.Request.{Request}
use Rattle.tape.specs.Tapes.{refusedb, records_of, messages_of}
use Rattle.kernel.specs.declared.Answer.{Answer}
use Rattle.kernel.specs.Tables.{started}
use Rattle.output.specs.Texts.{ascii, decimal_of}
use Rattle.text.specs.Texts.{field_text, thread_text, refused_text}
use Rattle.text.specs.Records.{records_text}

-- rule 11.6: the line of a record: its status, the next thread or `-`, and its ended waits
unfoldable pub record_text : ℕ → ℕ → ℕ → List ℕ
record_text status next ended = decimal_of status ++ ascii " " ++ thread_text next ++ field_text (ascii " ") ended ++ ascii "\n"

-- rule 11.6: the line of a record by its answer
unfoldable pub answer_text : Answer → List ℕ
answer_text a = record_text a.status a.next.0 a.ended

-- rule 11.6: a line with a label and a number
unfoldable pub count_text : List ℕ → ℕ → List ℕ
count_text label n = field_text label n ++ ascii "\n"

-- rule 11.6: how many records there are, a line for each, and how many were carried out
unfoldable pub calls_text : List ℕ → List Request → List ℕ
calls_text messages rs =
    count_text (ascii "calls ") (length rs) ++ records_text (λ i r a. answer_text a) 0 started messages rs ++ count_text (ascii "done ") (length rs)

-- rule 11.6: what is printed of a tape
unfoldable pub replay_text : List ℕ → List ℕ
replay_text bytes = if refusedb bytes then refused_text else calls_text (messages_of bytes) (records_of bytes)
