use Rattle.objects.specs.Queues.{fullb}
use Rattle.objects.proofs.queue.Queue.is_full.Goals as goal

pub returns : goal.returns
unfolding fullb
returns c = cc
