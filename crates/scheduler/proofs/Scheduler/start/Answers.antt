use Rattle.scheduler.specs.Orders.{idle}
use Rattle.scheduler.proofs.Scheduler.start.Goals as goal

pub returns : goal.returns
unfolding idle
returns c = cc
