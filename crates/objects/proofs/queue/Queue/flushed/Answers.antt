use borrow.Author.Rules.{rules}
use Rattle.objects.specs.Queues.{storing, flushed}
use Rattle.lines.specs.Lines.{pad}
use Rattle.objects.proofs.queue.Queue.flushed.Goals as goal

pub returns : goal.returns
unfolding flushed storing pad
returns c = search rules
