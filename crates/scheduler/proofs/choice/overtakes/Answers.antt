use mathlib.Core.Path.{refl}
use Rattle.scheduler.proofs.choice.overtakes.Goals as goal

pub returns : goal.returns
returns c = refl
