use mathlib.Core.Path.{ap, ◌∙◌}
use lib.ListN.{length}
use Rattle.blocks.specs.declared.pool.Pool.{Pool}
use Rattle.blocks.specs.Pools.{block_start}
use Rattle.blocks.specs.Views.{viewedb, viewed, onwards}
use Rattle.kernel.specs.Views.{block_view}
use Rattle.kernel.proofs.Kernel.block_view.Goals as goal

pub returns : goal.returns
unfolding block_view
returns c =
    let a = c.args in
    let e = c.viewed_pool.ensures in
    let shown = ap (λ (p : Pool). viewed p a.block a.area.now) e in
    let test = ap (λ (p : Pool). viewedb p a.block (length a.area.now)) e in
    let at = ap (λ (p : Pool). onwards (block_start p a.block) a.area.ref_ptr) e in
    record { shows = c.block_view.ensures.shows ∙ shown; lies = λ v. c.block_view.ensures.lies (test ∙ v) ∙ at }
