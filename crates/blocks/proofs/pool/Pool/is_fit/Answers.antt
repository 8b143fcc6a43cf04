use mathlib.Core.Path.{sym, ◌∙◌}
use Rattle.blocks.specs.Pools.{list_fitb}
use Rattle.blocks.proofs.Laws.Pools
use Rattle.blocks.proofs.pool.Pool.is_fit.Goals as goal

pub returns-then-self : goal.returns-then-self
unfolding list_fitb
returns-then-self c = rw (c.is_limited.ensures, c.blocks-then-self.ensures, c.is_listing.ensures, c.is_clean-clean.ensures) (sym (Pools.fit-created c.args.self c.if-self.true))

pub returns-else-self : goal.returns-else-self
returns-else-self c = rw c.is_clean-clean.ensures (Pools.zero-list c.args.self ∙ sym (Pools.fit-uncreated c.args.self c.if-self.false))
