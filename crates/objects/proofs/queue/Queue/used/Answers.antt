use borrow.Author.Rules.{rules}
use Rattle.objects.specs.Queues.{used_words}
use Rattle.objects.proofs.queue.Queue.used.Goals as goal

pub returns : goal.returns
unfolding used_words
returns c = search rules
