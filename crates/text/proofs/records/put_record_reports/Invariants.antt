use Rattle.std.proofs.Common.{◌≡◌, take}
use Rattle.tape.specs.Tapes.{records_of}
use Rattle.kernel.specs.Runs.{after_records}
use Rattle.output.specs.Texts.{Puts}
use Rattle.text.specs.Records.{records_text}
use Rattle.text.proofs.records.put_record_reports.Given as goal

abbrev pub invariant-loop-i : goal.invariant-loop-i
invariant-loop-i g l = record {
  tables : l.k ≡ after_records l.initial.k l.messages (take l.i (records_of l.bytes));
  put : Puts l.fn.w (records_text g.L.RecordReport.listed_text 0 l.initial.k l.messages (take l.i (records_of l.bytes))) l.w;
}
