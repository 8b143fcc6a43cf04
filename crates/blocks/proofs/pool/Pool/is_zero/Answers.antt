use mathlib.Core.Path.{◌≡◌, refl}
use borrow.Author.Rules.{rules}
use lib.ListN.{length}
use Rattle.lines.proofs.Laws.Slots.{zero_rest}
use Rattle.blocks.specs.Pools.{pool_zerob}
use Rattle.blocks.proofs.pool.Pool.is_zero.Goals as goal

pub returns : goal.returns
unfolding pool_zerob
returns c =
    let p = c.args.self in
    let e : length p.list ≡ 64 = search rules in
    rw (c.are_blank.ensures, zero_rest 0 0 p.list e refl)
