use Rattle.blocks.specs.Views.{viewedb}
use Rattle.blocks.proofs.pool.Pool.is_viewed.Goals as goal

pub returns : goal.returns
unfolding viewedb
returns c = cc
