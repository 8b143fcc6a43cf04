use mathlib.Core.Path.{refl}
use Rattle.scheduler.specs.Threads.{waitsb}
use Rattle.scheduler.proofs.thread.Thread.is_waiting.Goals as goal

pub returns : goal.returns
unfolding waitsb
returns c = refl
