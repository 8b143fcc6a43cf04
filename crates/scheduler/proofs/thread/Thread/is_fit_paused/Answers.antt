use Rattle.scheduler.proofs.Laws.Placing.{paused_fit}
use Rattle.scheduler.proofs.thread.Thread.is_fit_paused.Goals as goal

pub returns : goal.returns
returns c = rw (c.is_paused.ensures, c.is_limited.ensures, paused_fit c.args.self)
