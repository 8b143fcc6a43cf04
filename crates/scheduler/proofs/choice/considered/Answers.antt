use Rattle.scheduler.specs.Loops.{considered_of}
use Rattle.scheduler.proofs.choice.considered.Goals as goal

pub returns-then-wanted-clause-best : goal.returns-then-wanted-clause-best
unfolding considered_of
returns-then-wanted-clause-best c = rw c.if-wanted.true c.better.ensures

pub returns-else-wanted-clause-best : goal.returns-else-wanted-clause-best
unfolding considered_of
returns-else-wanted-clause-best c = rw c.if-wanted.false
