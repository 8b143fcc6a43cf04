-- The functions that C and Rust call: what each answers, and what it leaves in the lent block and the lent words (rules 14.3 to 14.7).
use Rattle.std.specs.Prelude.{if◌then◌else◌, List, ℕ, ◌*◌, min, length, eqb, ltb}
use Rattle.numbers.specs.Numbers.{nobody}
use Rattle.calls.specs.Statuses as Statuses
use Rattle.calls.specs.declared.call.Request.{Request}
use Rattle.tape.specs.declared.replies.Reply.{Reply}
use Rattle.tape.specs.Replies.{reply_size, refusal, replied_each}
use Rattle.tape.specs.Tapes.{refusedb, count_of}
use Rattle.kernel.specs.declared.Answer.{Answer}
use Rattle.kernel.specs.Tables.{started}
use Rattle.kernel.specs.Sound.{soundb}
use Rattle.kernel.specs.Claims.{doneb}
use Rattle.kernel.specs.Runs.{reply_of, ran, ran_replies}
use Rattle.apachimo.specs.declared.Run.{Run}
use Rattle.codec.specs.Layout.{state_bytes}
use Rattle.codec.specs.State.{kernel_of, flags_fitb}
use Rattle.codec.specs.Bytes.{bytes_of}

-- rule 14.3: why a block is refused: 0x05 another length, 0x100 a flag that is neither 0 nor 1; 0 where it is not
unfoldable pub block_refusal : List ℕ → ℕ
block_refusal b = if eqb (length b) state_bytes then (if flags_fitb b then 0 else Statuses.tables_unsound) else Statuses.size_error

-- ---- start
-- rules 14.3, 14.4: 0x00, or 0x05 for another length
unfoldable pub start_status : List ℕ → ℕ
start_status b = if eqb (length b) state_bytes then Statuses.success else Statuses.size_error

-- rules 14.3, 14.4: the block afterwards: tables with nothing created; one of another length stays as it is
unfoldable pub start_block : List ℕ → List ℕ
start_block b = if eqb (length b) state_bytes then bytes_of started else b

-- ---- the soundness test
-- rule 14.5: 0x00 of sound tables, 0x100 of others; a refused block gets the status that it is refused with
unfoldable pub sound_status : List ℕ → ℕ
sound_status b =
    if eqb (block_refusal b) 0
    then (if soundb (kernel_of b) then Statuses.success else Statuses.tables_unsound)
    else block_refusal b

-- ---- one call
-- the request that the numbers of a call make
unfoldable pub request_of : ℕ → ℕ → ℕ → ℕ → ℕ → ℕ → Request
request_of number caller a b c d = record { number = number; caller = caller; a = a; b = b; c = c; d = d }

-- rule 14.6: the reply to a call, a the general call's answer; a refused block gets no words, no ended waits and nobody as next thread
unfoldable pub call_reply : List ℕ → Answer → Reply
call_reply b a = if eqb (block_refusal b) 0 then reply_of a else refusal (block_refusal b) nobody

-- rule 14.6: the block afterwards: written for 0x00, 0x19 and 0x101; that of a refused call and one that is refused stay as they are
unfoldable pub call_block : List ℕ → Answer → List ℕ
call_block b a = if eqb (block_refusal b) 0 then (if doneb a.status then bytes_of a.kernel else b) else b

-- ---- a run
-- rule 14.7: why a run is refused before the test of the tables, in this order: 0x05 another length, 0x103 no tape, 0x05 no room for all
-- replies, 0x100 a flag that is neither 0 nor 1; 0 where it is not
unfoldable pub run_refusal : List ℕ → List ℕ → ℕ → ℕ → ℕ
run_refusal b tape most room =
    if eqb (length b) state_bytes
    then (if refusedb tape then Statuses.tape_refused
    else if ltb room (reply_size * min most (count_of tape)) then Statuses.size_error
    else if flags_fitb b then 0 else Statuses.tables_unsound)
    else Statuses.size_error

-- rule 14.7: status, and how many records were carried out: at 0x100 those that are answered with it count, in every other refusal none
unfoldable pub run_result : List ℕ → List ℕ → ℕ → ℕ → Run
run_result b tape most room =
    if eqb (run_refusal b tape most room) 0
    then record { status = (ran (kernel_of b) tape most).status; carried = (ran (kernel_of b) tape most).carried }
    else
    record {
      status = run_refusal b tape most room;
      carried = if eqb (run_refusal b tape most room) Statuses.tables_unsound then min most (count_of tape) else 0;
    }

-- rule 14.7: the block afterwards: that of a refused run, for its tables too, stays as it is
unfoldable pub run_block : List ℕ → List ℕ → ℕ → ℕ → List ℕ
run_block b tape most room =
    if eqb (run_refusal b tape most room) 0
    then (if eqb (ran (kernel_of b) tape most).status Statuses.success then bytes_of (ran (kernel_of b) tape most).kernel else b)
    else b

-- rule 14.7: the lent words afterwards: at 0x100, for flags or for tables, each record is answered with it; in every other refusal none is
unfoldable pub run_replies : List ℕ → List ℕ → ℕ → List ℕ → List ℕ
run_replies b tape most out =
    if eqb (run_refusal b tape most (length out)) 0 then ran_replies (kernel_of b) tape most out
    else if eqb (run_refusal b tape most (length out)) Statuses.tables_unsound
    then replied_each out (min most (count_of tape)) (refusal Statuses.tables_unsound nobody)
    else out
