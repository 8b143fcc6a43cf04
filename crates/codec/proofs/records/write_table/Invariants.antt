use Rattle.codec.proofs.Laws.Writing.{Put}
use Rattle.codec.proofs.records.write_table.Given as goal

abbrev pub invariant-loop-i : goal.invariant-loop-i
invariant-loop-i g l = let r = g.T.Record in Put r.bytes_of r.BYTES g.row.N l.all l.b l.i
