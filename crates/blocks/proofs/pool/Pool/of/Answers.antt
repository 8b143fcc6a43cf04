use mathlib.Core.Path.{◌≡◌, sym, ◌∙◌}
use mathlib.Core.List.{append-nil}
use Prim.Native.Nat.{min}
use native.Mathlib.Omega.{arith}
use Rattle.std.proofs.Common.{rules, tests}
use lib.ListN.{get_or}
use lib.Seq.{ext_get_or}
use Rattle.lines.specs.Lists.{numbers_from}
use Rattle.lines.proofs.Laws.Lists.{number_at, length_numbers}
use Rattle.blocks.specs.Pools.{blocks_of, no_pool, fresh_pool}
use Rattle.blocks.proofs.Laws.Pools.{listing_numbers}
use Rattle.blocks.proofs.pool.Pool.of.Goals as goal

pub returns : goal.returns
unfolding fresh_pool blocks_of no_pool
returns c =
    let xs = c.from_fn-numbers in
    let m = xs.ensures.items.at in
    let h : xs.result ≡ numbers_from 0 64 =
    ext_get_or 0 xs.result (numbers_from 0 64) (xs.ensures.items.long ∙ sym (length_numbers 0 64))
    (λ i l. let n = number_at 0 64 i (omega (arith, xs.ensures.items.long)) in
    let e : get_or xs.result i 0 ≡ i = let q = m i 0 (omega (arith, xs.ensures.items.long)) in search (rules, tests) in
    omega (arith, n, e)) in
    let b : c.unwrap_or.result ≡ min c.args.block 65535 = search rules in
    rw (c.listing.ensures, append-nil, h, listing_numbers _ _ _ c.min-n.ensures, c.blocks-2.ensures, b, c.none.ensures)
