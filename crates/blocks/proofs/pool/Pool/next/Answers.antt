use Rattle.std.proofs.lemmas.Option.{unwrap_or-slice_get}
use Rattle.blocks.specs.Pools.{free_blocks, next_block}
use Rattle.blocks.proofs.pool.Pool.next.Goals as goal

pub returns : goal.returns
unfolding next_block
returns c =
    rw (c.unwrap_or.ensures, c.copied.ensures, c.first.ensures.value, c.free_blocks.ensures)
    (unwrap_or-slice_get (free_blocks c.args.self) 0 64)
