use Rattle.scheduler.proofs.Laws.Loops.{Passed}
use Rattle.scheduler.proofs.Scheduler.best.Given as goal

abbrev pub invariant-loop-x : goal.invariant-loop-x
invariant-loop-x g l = Passed l.self (g.T.Test.test l.wanted) l.x-iterator.iter.rest.now l.b
