use mathlib.Core.Path.{refl}
use Rattle.scheduler.specs.Threads.{with_suspension}
use Rattle.scheduler.proofs.thread.Thread.with_suspension.Goals as goal

pub returns : goal.returns
unfolding with_suspension
returns c = refl
