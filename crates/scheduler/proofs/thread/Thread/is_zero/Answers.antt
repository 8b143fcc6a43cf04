use mathlib.Core.Path.{◌≡◌, refl}
use mathlib.Core.Bool.{Bool, true, false, not, beq, and_assoc}
use Rattle.scheduler.specs.Threads.{uncreated}
use Rattle.scheduler.specs.Sound.{zerob}
use Rattle.scheduler.proofs.thread.Thread.is_zero.Goals as goal

not_set : (b : Bool) → beq b false ≡ not b
not_set true = refl
not_set false = refl

pub returns : goal.returns
unfolding zerob uncreated
returns c = rw (c.eq.ensures, c.uncreated.ensures) (simp (not_set, and_assoc))
