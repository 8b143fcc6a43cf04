use mathlib.Core.Path.{ap, ◌∙◌}
use Prim.Native.Nat.{◌+◌}
use native.Mathlib.Omega.{arith}
use lib.ListN.{length}
use Rattle.blocks.specs.declared.view.Extent.{Extent}
use Rattle.blocks.specs.Views.{onwards}
use Rattle.blocks.proofs.Laws.Views.{extent_shown, extent_inside, extent-viewed}
use Rattle.blocks.proofs.pool.Pool.block_view.Goals as goal

pub overflow_add-result : goal.overflow_add-result
overflow_add-result c =
    let a = c.args in
    let e = c.block_extent-e in
    let h = extent_inside a.self a.block (length a.area.now) e.result e.ensures in
    record { fits = omega (arith, h) }

pub slice_bounds-area-end : goal.slice_bounds-area-end
slice_bounds-area-end c =
    let a = c.args in
    let e = c.block_extent-e in
    let h = extent_inside a.self a.block (length a.area.now) e.result e.ensures in
    omega (arith, h)

pub returns : goal.returns
unfolding onwards
returns c =
    let a = c.args in
    let e = c.block_extent-e in
    record {
      shows = extent-viewed a.self a.block a.area.now e.result e.ensures;
      lies = λ v. ap (λ (x : Extent). (a.area.ref_ptr.0, x.start + a.area.ref_ptr.1)) (e.ensures ∙ extent_shown a.self a.block (length a.area.now) v);
    }
