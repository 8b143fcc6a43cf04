use Rattle.scheduler.specs.Threads.{sleepsb, pausedb}
use Rattle.scheduler.proofs.thread.Thread.is_paused.Goals as goal

pub returns : goal.returns
unfolding pausedb sleepsb
returns c = rw c.is_waiting.ensures
