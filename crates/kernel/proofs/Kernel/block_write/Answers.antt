use mathlib.Core.Path.{ap, ◌∙◌}
use Rattle.blocks.specs.declared.pool.Pool.{Pool}
use Rattle.blocks.specs.Views.{written}
use Rattle.kernel.specs.Views.{block_written}
use Rattle.kernel.proofs.Kernel.block_write.Goals as goal

pub returns : goal.returns
unfolding block_written
returns c =
    let a = c.args in
    c.block_write.ensures ∙ ap (λ (p : Pool). written p a.block a.bytes.now a.area.now) c.viewed_pool.ensures
