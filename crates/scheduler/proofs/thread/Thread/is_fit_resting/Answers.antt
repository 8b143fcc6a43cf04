use Rattle.scheduler.specs.Threads.{restsb}
use Rattle.scheduler.proofs.Laws.Placing.{rests_fit}
use Rattle.scheduler.proofs.thread.Thread.is_fit_resting.Goals as goal

pub returns : goal.returns
unfolding restsb
returns c = rw c.is_limited.ensures (rests_fit c.args.self)
