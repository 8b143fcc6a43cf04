use mathlib.Core.Path.{◌∙◌}
use borrow.Author.Tests.{eq-eqb}
use Rattle.objects.specs.Queues.{emptyb}
use Rattle.kernel.proofs.sound.queue_fits.Goals as goal

pub returns-then-q-eq0 : goal.returns-then-q-eq0
unfolding emptyb
returns-then-q-eq0 c = c.is_fit_empty.ensures ∙ rw (eq-eqb _ 0 c.if-q-eq0.true)
