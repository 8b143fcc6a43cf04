use mathlib.Core.Path.{sym, ◌∙◌}
use Rattle.blocks.proofs.Laws.Pools
use Rattle.kernel.proofs.sound.pool_fits.Goals as goal

pub returns-else-p : goal.returns-else-p
returns-else-p c = c.is_zero.ensures ∙ sym (Pools.fit-uncreated _ c.if-p.false)
