use mathlib.Core.Path.{refl}
use Rattle.blocks.specs.Pools.{no_pool}
use Rattle.blocks.proofs.pool.Pool.none.Goals as goal

pub returns : goal.returns
unfolding no_pool
returns c = refl
