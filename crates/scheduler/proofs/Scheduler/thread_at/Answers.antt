use Rattle.scheduler.specs.Orders.{thread_at}
use Rattle.scheduler.proofs.Scheduler.thread_at.Goals as goal

pub returns : goal.returns
unfolding thread_at
returns c = cc
