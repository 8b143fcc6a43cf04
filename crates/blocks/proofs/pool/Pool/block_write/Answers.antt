use mathlib.Core.Path.{◌≡◌, sym, ◌∙◌}
use Prim.Native.Nat.{◌+◌, ◌-◌}
use native.Mathlib.Omega.{arith}
use lib.ListN.{length, take, length-take}
use Rattle.std.proofs.lemmas.Slice.{put_mid-paste}
use Rattle.std.proofs.lemmas.List.{take-take}
use Rattle.blocks.proofs.Laws.Views.{extent_inside, extent-written}
use Rattle.blocks.proofs.pool.Pool.block_write.Goals as goal

pub overflow_add-e : goal.overflow_add-e
overflow_add-e c =
    let a = c.args in
    let e = c.block_extent-e in
    let h = extent_inside a.self a.block (length a.area.now) e.result e.ensures in
    record { fits = omega (arith, h, c.min-n.ensures) }

pub slice_bounds-copy_from_slice-end : goal.slice_bounds-copy_from_slice-end
slice_bounds-copy_from_slice-end c =
    let a = c.args in
    let e = c.block_extent-e in
    let h = extent_inside a.self a.block (length a.area.now) e.result e.ensures in
    omega (arith, h, c.min-n.ensures)

pub returns : goal.returns
returns c =
    let a = c.args in
    let e = c.block_extent-e in
    let n = c.min-n in
    let i = extent_inside a.self a.block (length a.area.now) e.result e.ensures in
    let k : e.result.start + n.result - e.result.start ≡ n.result = omega arith in
    put_mid-paste e.result.start (e.result.start + n.result - e.result.start) a.area.now c.copy_from_slice.new.self (take n.result a.bytes.now) n.result c.copy_from_slice.ensures.after (sym k) (omega (arith, length-take n.result a.bytes.now, n.ensures))
    ∙ rw (take-take n.result n.result a.bytes.now (omega arith), n.ensures) (extent-written a.self a.block a.area.now a.bytes.now e.result e.ensures)
