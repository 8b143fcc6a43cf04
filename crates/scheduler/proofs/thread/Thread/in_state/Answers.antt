use mathlib.Core.Path.{refl}
use Rattle.scheduler.specs.Threads.{in_state}
use Rattle.scheduler.proofs.thread.Thread.in_state.Goals as goal

pub returns : goal.returns
unfolding in_state
returns c = refl
