use Rattle.std.proofs.Common.{◌≡◌, take}
use Rattle.tape.specs.Tapes.{records_of}
use Rattle.kernel.specs.Runs.{after_records}
use Rattle.output.specs.Texts.{Put}
use Rattle.text.specs.Records.{records_text}
use Rattle.text.proofs.records.put_records.Given as goal

abbrev pub invariant-loop-i : goal.invariant-loop-i
invariant-loop-i g l = record {
  tables : l.tables ≡ after_records l.initial.tables l.messages (take l.i (records_of l.bytes));
  put : Put l.fn.w.buf.now l.fn.w.at (records_text g.L.Listing.listed_text 0 l.initial.tables l.messages (take l.i (records_of l.bytes))) l.w.buf.now l.w.at;
}
