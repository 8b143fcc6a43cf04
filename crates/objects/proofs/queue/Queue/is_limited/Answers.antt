use borrow.Author.Rules.{rules}
use Rattle.objects.specs.Queues.{queue_limitsb}
use Rattle.objects.proofs.queue.Queue.is_limited.Goals as goal

pub returns : goal.returns
unfolding queue_limitsb
returns c = search rules
