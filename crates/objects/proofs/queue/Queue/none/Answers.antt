use mathlib.Core.Path.{refl}
use Rattle.objects.specs.Queues.{no_queue}
use Rattle.objects.proofs.queue.Queue.none.Goals as goal

pub returns : goal.returns
unfolding no_queue
returns c = refl
