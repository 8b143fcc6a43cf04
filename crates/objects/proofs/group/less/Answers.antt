use mathlib.Core.Path.{refl}
use Rattle.objects.specs.Groups.{less_flags}
use Rattle.objects.proofs.group.less.Goals as goal

pub returns : goal.returns
unfolding less_flags
returns c = refl
