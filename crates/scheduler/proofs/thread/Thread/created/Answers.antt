use Rattle.scheduler.specs.Threads.{uncreated, created}
use Rattle.scheduler.proofs.thread.Thread.created.Goals as goal

pub returns : goal.returns
unfolding created uncreated
returns c = rw c.uncreated.ensures
