use Rattle.std.proofs.Common.{◌≡◌, length, sym, ◌∙◌}
use Rattle.tape.specs.Tapes.{records_of}
use Rattle.tape.proofs.Laws.Tapes.{length_records}
use Rattle.output.proofs.Laws.Texts.{puts-append}
use Rattle.replay.specs.Replay.{calls_text}
use Rattle.replay.proofs.put_calls.Goals as goal

pub returns : goal.returns
unfolding calls_text
returns g c =
    let bytes = c.args.bytes.now in
    let e : c.count-n.result ≡ length (records_of bytes) = c.count-n.ensures ∙ sym (length_records bytes) in
    puts-append (puts-append (rw e at c.put_count.ensures) c.put_record_reports.ensures) (rw e at c.put_count-2.ensures)
