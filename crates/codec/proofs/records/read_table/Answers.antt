use Rattle.std.proofs.Common.{rules}
use Rattle.codec.proofs.Laws.Reading.{read_more}
use Rattle.codec.proofs.records.read_table.Goals as goal

pub loop-i-preserved : goal.loop-i-preserved
loop-i-preserved g c = read_more _ _ _ _ _ _ _ c.loop-i.invariant c.loop-i-test.true (search rules)
