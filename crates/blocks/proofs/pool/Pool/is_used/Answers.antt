use mathlib.Core.Path.{◌≡◌}
use mathlib.Core.Bool.{not}
use Rattle.std.proofs.Common.{rules, tests}
use Rattle.std.proofs.lemmas.Iterator.{YieldsList-from_slice}
use lib.Dec.{eqb}
use Prim.Native.Nat.{ℕ}
use Rattle.std.specs.List.{list_all}
use Rattle.std.proofs.lemmas.Iterator.Search.{all_from_yields_List}
use Rattle.blocks.specs.Pools.{free_blocks, usedb}
use Rattle.blocks.proofs.Laws.Listings.{unlisted}
use Rattle.blocks.proofs.pool.Pool.is_used.Goals as goal

pub returns : goal.returns
unfolding usedb
returns c =
    let n = c.args.n in
    let h : c.all.result ≡ list_all (λ (x : ℕ). not (eqb x n)) c.free_blocks.result.now = all_from_yields_List (λ (x : ℕ). not (eqb x n)) _ _ c.all.result c.all.ensures.ran (YieldsList-from_slice c.free_blocks.result.now cc) (λ x b q k. search (rules, tests)) in
    rw (h, c.free_blocks.ensures, unlisted n (free_blocks c.args.self), c.blocks-2.ensures)
