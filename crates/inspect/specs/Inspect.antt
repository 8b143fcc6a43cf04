-- What the program `inspect` prints of a tape: the tables before the first call, and for each call the call itself, its result and the tables
-- after it.
use Rattle.std.specs.Prelude.{if◌then◌else◌, List, ◌++◌, ℕ}
use Prim.Native.Char.{code}
use Rattle.calls.specs.declared.call.Request.{Request}
use Rattle.tape.specs.Tapes.{refusedb, records_of, messages_of}
use Rattle.kernel.specs.declared.Answer.{Answer}
use Rattle.kernel.specs.Tables.{started}
use Rattle.output.specs.Texts.{ascii}
use Rattle.text.specs.Texts.{field_text, thread_text, separated, refused_text}
use Rattle.text.specs.Records.{records_text}
use Rattle.inspect.specs.Tables.{tables_text}

-- a call's four arguments
unfoldable pub arguments_text : Request → List ℕ
arguments_text r =
    field_text (ascii " ") r.a ++ field_text (ascii " ") r.b ++ field_text (ascii " ") r.c ++ field_text (ascii " ") r.d

-- call i of the tape, from 0: its number, its caller and its arguments
unfoldable pub call_text : ℕ → Request → List ℕ
call_text i r =
    field_text (ascii "call ") i ++ field_text (ascii " ") r.number ++ field_text (ascii " ") r.caller ++ arguments_text r ++ ascii "\n"

-- a call's status, the next thread or `-`, and its ended waits
unfoldable pub answer_text : ℕ → ℕ → ℕ → List ℕ
answer_text status next ended = field_text (ascii "result ") status ++ ascii " " ++ thread_text next ++ field_text (ascii " ") ended

-- the same, and the words that it gave
unfoldable pub result_text : ℕ → ℕ → ℕ → List ℕ → List ℕ
result_text status next ended words = answer_text status next ended ++ ascii " " ++ separated (code " ") words ++ ascii "\n"

-- record i, its answer, and the tables that it left
unfoldable pub record_text : ℕ → Request → Answer → List ℕ
record_text i r a = call_text i r ++ result_text a.status a.next.0 a.ended a.words ++ tables_text a.kernel

-- the tables with nothing created, and then the records
unfoldable pub calls_text : List ℕ → List Request → List ℕ
calls_text messages rs = tables_text started ++ records_text record_text 0 started messages rs

-- what is printed of a tape
unfoldable pub inspect_text : List ℕ → List ℕ
inspect_text bytes = if refusedb bytes then refused_text else calls_text (messages_of bytes) (records_of bytes)
