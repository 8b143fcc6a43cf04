use borrow.Author.Rules.{rules}
use Rattle.blocks.specs.Pools.{pool_limitsb}
use Rattle.blocks.proofs.pool.Pool.is_limited.Goals as goal

pub returns : goal.returns
unfolding pool_limitsb
returns c = search rules
