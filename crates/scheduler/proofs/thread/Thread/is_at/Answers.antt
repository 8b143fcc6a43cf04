use Rattle.scheduler.specs.Threads.{placedb}
use Rattle.scheduler.proofs.thread.Thread.is_at.Goals as goal

pub returns : goal.returns
unfolding placedb
returns c = cc
