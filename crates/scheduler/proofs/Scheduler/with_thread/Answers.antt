use Rattle.scheduler.specs.Orders.{with_thread}
use Rattle.scheduler.proofs.Scheduler.with_thread.Goals as goal

pub returns : goal.returns
unfolding with_thread
returns c = cc
