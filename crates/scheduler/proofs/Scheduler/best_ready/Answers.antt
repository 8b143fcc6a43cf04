use Rattle.scheduler.specs.Choice.{best_ready}
use Rattle.scheduler.proofs.Scheduler.best_ready.Goals as goal

pub returns : goal.returns
unfolding best_ready
returns c = c.best.ensures
