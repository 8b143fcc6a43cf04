use Rattle.scheduler.proofs.Laws.Placing.{ready_fit}
use Rattle.scheduler.proofs.thread.Thread.is_fit_ready.Goals as goal

pub returns : goal.returns
returns c = rw (c.is_ready.ensures, c.is_limited.ensures, ready_fit c.args.self)
