use Rattle.codec.proofs.Laws.Reading.{Read}
use Rattle.codec.proofs.records.read_table.Given as goal

abbrev pub invariant-loop-i : goal.invariant-loop-i
invariant-loop-i g l = let r = g.T.Record in Read r.value_of r.BYTES g.row.N l.b l.all l.i
