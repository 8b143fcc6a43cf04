use mathlib.Core.Path.{refl}
use Rattle.scheduler.specs.Sound.{limitsb}
use Rattle.scheduler.proofs.thread.Thread.is_limited.Goals as goal

pub returns : goal.returns
unfolding limitsb
returns c = refl
