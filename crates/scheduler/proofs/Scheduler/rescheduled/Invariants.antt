use Rattle.scheduler.specs.Threads.{readyb, markedb}
use Rattle.scheduler.proofs.Laws.Loops.{Passed}
use Rattle.scheduler.proofs.Scheduler.rescheduled.Given as goal

abbrev pub invariant-loop-x : goal.invariant-loop-x
invariant-loop-x l = record {
  ready : Passed l.self readyb l.x-iterator.iter.rest.now l.ready;
  marked : Passed l.self markedb l.x-iterator.iter.rest.now l.marked;
}
