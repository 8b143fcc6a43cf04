use Rattle.scheduler.specs.Orders.{line_at, with_order, prioritised_at}
use Rattle.scheduler.specs.Choice.{best_among}
use Rattle.scheduler.proofs.Scheduler.prioritised.Goals as goal

pub returns : goal.returns
unfolding prioritised_at with_order line_at best_among
returns c = let b = c.best-b.ensures in rw (c.fronted-self.ensures, b)
