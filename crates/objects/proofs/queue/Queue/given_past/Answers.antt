use mathlib.Core.Path.{refl}
use Rattle.objects.specs.Queues.{given_past}
use Rattle.objects.proofs.queue.Queue.given_past.Goals as goal

pub returns-then-front : goal.returns-then-front
unfolding given_past
returns-then-front c = rw c.if-front.true refl

pub returns-else-front : goal.returns-else-front
unfolding given_past
returns-else-front c = rw (c.if-front.false, c.oldest.ensures) refl
