use mathlib.Core.Path.{refl}
use Rattle.scheduler.specs.Threads.{uncreated}
use Rattle.scheduler.proofs.thread.Thread.uncreated.Goals as goal

pub returns : goal.returns
unfolding uncreated
returns c = refl
