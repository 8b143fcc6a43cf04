use Rattle.scheduler.specs.Orders.{joined}
use Rattle.scheduler.proofs.Scheduler.moved_front.Goals as goal

pub returns : goal.returns
unfolding joined
returns c = c.join.ensures
