use mathlib.Core.Path.{refl}
use Rattle.scheduler.specs.Changes.{with_levels}
use Rattle.scheduler.proofs.thread.Thread.with_levels.Goals as goal

pub returns : goal.returns
unfolding with_levels
returns c = refl
