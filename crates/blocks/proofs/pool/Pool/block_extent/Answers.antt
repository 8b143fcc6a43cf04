use mathlib.Core.Path.{sym, ◌∙◌}
use native.Mathlib.Omega.{arith}
use Rattle.blocks.specs.Pools.{block_start}
use Rattle.blocks.proofs.Laws.Views.{inside, shown_used, extent_shown, extent_none}
use Rattle.blocks.proofs.pool.Pool.block_extent.Goals as goal

pub overflow_mul-start : goal.overflow_mul-start
unfolding block_start
overflow_mul-start c =
    let a = c.args in
    let h = inside a.self a.block (shown_used a.self a.block a.len (sym c.is_viewed.ensures ∙ c.if-is_viewed.true)) in
    omega (arith, h)

pub overflow_add-start-then-is_viewed : goal.overflow_add-start-then-is_viewed
unfolding block_start
overflow_add-start-then-is_viewed c =
    let a = c.args in
    let h = inside a.self a.block (shown_used a.self a.block a.len (sym c.is_viewed.ensures ∙ c.if-is_viewed.true)) in
    omega (arith, h)

pub returns-then-is_viewed : goal.returns-then-is_viewed
unfolding block_start
returns-then-is_viewed c =
    let a = c.args in
    sym (extent_shown a.self a.block a.len (sym c.is_viewed.ensures ∙ c.if-is_viewed.true))

pub returns-else-is_viewed : goal.returns-else-is_viewed
returns-else-is_viewed c =
    let a = c.args in
    sym (extent_none a.self a.block a.len (sym c.is_viewed.ensures ∙ c.if-is_viewed.false))
