use Rattle.std.proofs.Common.{◌<◌, ◌≤◌, length, refl, arith}
use lib.Seq.{take_all}
use Rattle.tape.specs.Tapes.{count_of, records_of}
use Rattle.tape.proofs.Laws.Tapes.{length_records}
use Rattle.kernel.specs.Runs.{after_records}
use Rattle.text.specs.Records.{records_text}
use Rattle.text.proofs.Laws.Records.{next_tables, put_record}
use Rattle.text.proofs.records.put_records.Goals as goal

pub loop-i-init : goal.loop-i-init
unfolding records_text after_records
loop-i-init g c = record { tables = refl; put = c.put_nothing.ensures.put }

pub loop-i-preserved : goal.loop-i-preserved
loop-i-preserved g c =
    let l = c.loop-i in
    let k = c.start-tables.result in
    let ms = c.args.messages.now in
    let bytes = c.args.bytes.now in
    let n : l.i < count_of bytes = omega (arith, c.count-i-end.ensures) in
    record {
      tables = next_tables k ms bytes n l.invariant.tables c.record_at-request.ensures c.call-answer.ensures;
      put = put_record k ms bytes n l.invariant.tables c.record_at-request.ensures c.call-answer.ensures g.L.Listing.listed_text l.invariant.put c.put_record.ensures;
    }

pub returns : goal.returns
returns g c =
    let l = c.loop-i in
    let rs = records_of c.args.bytes.now in
    let z = length_records c.args.bytes.now in
    let h : length rs ≤ l.i = omega (arith, c.count-i-end.ensures, z) in
    rw (take_all l.i rs h, c.start-tables.ensures) at l.invariant.put
