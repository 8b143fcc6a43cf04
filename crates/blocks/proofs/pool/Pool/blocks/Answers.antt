use mathlib.Core.Path.{refl}
use Rattle.blocks.specs.Pools.{blocks_of}
use Rattle.blocks.proofs.pool.Pool.blocks.Goals as goal

pub returns : goal.returns
unfolding blocks_of
returns c = refl
