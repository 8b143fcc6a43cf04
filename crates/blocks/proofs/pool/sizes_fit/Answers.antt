use mathlib.Core.Path.{refl}
use mathlib.Core.Bool.{and-false}
use borrow.Author.Tests.{lt-leb}
use Rattle.blocks.specs.Pools.{block_sizesb}
use Rattle.blocks.proofs.pool.sizes_fit.Goals as goal

pub returns-then-block-le256 : goal.returns-then-block-le256
unfolding block_sizesb
returns-then-block-le256 c = refl

pub returns-else-block-le256 : goal.returns-else-block-le256
unfolding block_sizesb
returns-else-block-le256 c = rw (lt-leb c.args.block 256 c.if-block-le256.false, and-false)
