use borrow.Author.Rules.{rules}
use Rattle.objects.specs.Queues.{with_sent}
use Rattle.objects.proofs.queue.Queue.with_first.Goals as goal

pub returns : goal.returns
unfolding with_sent
returns c = search rules
