use mathlib.Core.Path.{ap, ◌∙◌}
use Rattle.blocks.specs.declared.pool.Pool.{Pool}
use Rattle.blocks.specs.Views.{extent_of}
use Rattle.kernel.specs.Views.{block_extent}
use Rattle.kernel.proofs.Kernel.block_extent.Goals as goal

pub returns : goal.returns
unfolding block_extent
returns c =
    let a = c.args in
    c.block_extent.ensures ∙ ap (λ (p : Pool). extent_of p a.block a.len) c.viewed_pool.ensures
