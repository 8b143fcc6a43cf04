use Rattle.objects.specs.Queues.{roomb}
use Rattle.objects.proofs.queue.Queue.has_room.Goals as goal

pub returns : goal.returns
unfolding roomb
returns c = cc
