use borrow.Author.Rules.{rules}
use Rattle.objects.specs.Queues.{with_sent, left_past}
use Rattle.objects.proofs.queue.Queue.left_past.Goals as goal

pub returns-then-front : goal.returns-then-front
unfolding left_past with_sent
returns-then-front c = search rules

pub returns-else-front : goal.returns-else-front
unfolding left_past with_sent
returns-else-front c = cc
