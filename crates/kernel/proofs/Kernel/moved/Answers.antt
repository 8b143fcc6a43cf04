use mathlib.Core.Path.{◌∙◌}
use Rattle.kernel.specs.Tables.{with_held}
use Rattle.kernel.proofs.Kernel.moved.Goals as goal

pub returns : goal.returns
unfolding with_held
returns c = c.carried.ensures ∙ rw (c.moved.ensures, c.store.ensures, c.of.ensures)
