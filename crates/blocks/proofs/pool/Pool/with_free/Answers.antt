use Rattle.blocks.specs.Pools.{with_free}
use Rattle.blocks.proofs.pool.Pool.with_free.Goals as goal

pub returns : goal.returns
unfolding with_free
returns c = rw (c.listing.ensures, c.free_blocks.ensures)
