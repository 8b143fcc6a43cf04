use mathlib.Core.Path.{refl}
use Rattle.objects.specs.Groups.{no_group}
use Rattle.objects.proofs.group.Group.none.Goals as goal

pub returns : goal.returns
unfolding no_group
returns c = refl
