use mathlib.Core.Path.{refl}
use Rattle.objects.specs.Queues.{sizes_fitb}
use Rattle.objects.proofs.queue.sizes_fit.Goals as goal

pub returns-then-words-eq0 : goal.returns-then-words-eq0
unfolding sizes_fitb
returns-then-words-eq0 c = cc

pub returns-else-words-eq0 : goal.returns-else-words-eq0
unfolding sizes_fitb
returns-else-words-eq0 c = refl
