use Rattle.scheduler.specs.Threads.{standsb}
use Rattle.scheduler.proofs.thread.Thread.is_standing.Goals as goal

pub returns : goal.returns
unfolding standsb
returns c = rw (c.is_ready.ensures, c.is_waiting.ensures)
