use mathlib.Core.Path.{◌≡◌}
use mathlib.Core.List.{◌++◌}
use native.Mathlib.Omega.{arith}
use lib.ListN.{length, take, length-take, length-append}
use Rattle.lines.proofs.Laws.Slots.{filled_pad}
use Rattle.blocks.specs.Pools.{listing}
use Rattle.blocks.proofs.pool.Pool.listing.Goals as goal

pub returns : goal.returns
unfolding listing
returns c =
    let a = c.args in
    let t = length-take 64 (a.front.now ++ a.back.now) in
    let e = length-append a.front.now a.back.now in
    let n : c.min-free.result ≡ length (take 64 (a.front.now ++ a.back.now)) = omega (arith, t, e, c.min-free.ensures, c.saturating_add.ensures) in
    rw (n, c.packed.ensures, filled_pad)
