use borrow.Author.Rules.{rules}
use Rattle.objects.specs.Queues.{no_queue, empty_queue}
use Rattle.objects.proofs.queue.Queue.of.Goals as goal

pub returns : goal.returns
unfolding no_queue empty_queue
returns c = search rules
