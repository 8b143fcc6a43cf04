use mathlib.Core.Path.{refl}
use Rattle.objects.specs.Groups.{group_with}
use Rattle.objects.proofs.group.Group.of.Goals as goal

pub returns : goal.returns
unfolding group_with
returns c = refl
