use Rattle.scheduler.specs.Orders.{woken}
use Rattle.scheduler.proofs.Scheduler.woken.Goals as goal

pub returns : goal.returns
unfolding woken
returns c = cc
