use mathlib.Core.Path.{refl}
use Rattle.scheduler.specs.Threads.{readyb}
use Rattle.scheduler.proofs.thread.Thread.is_ready.Goals as goal

pub returns : goal.returns
unfolding readyb
returns c = refl
