use mathlib.Core.Path.{refl}
use Rattle.objects.specs.Queues.{emptyb}
use Rattle.objects.proofs.queue.Queue.is_empty.Goals as goal

pub returns : goal.returns
unfolding emptyb
returns c = refl
