use mathlib.Core.Path.{refl}
use Rattle.objects.specs.Semaphores.{no_semaphore}
use Rattle.objects.proofs.semaphore.Semaphore.none.Goals as goal

pub returns : goal.returns
unfolding no_semaphore
returns c = refl
