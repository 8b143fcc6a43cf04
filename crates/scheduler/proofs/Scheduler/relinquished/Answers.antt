use Rattle.scheduler.specs.Choice.{relinquished}
use Rattle.scheduler.proofs.Scheduler.relinquished.Goals as goal

pub returns : goal.returns
unfolding relinquished
returns c = cc
