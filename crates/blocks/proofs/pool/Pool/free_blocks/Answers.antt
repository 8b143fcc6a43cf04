use mathlib.Core.Path.{◌≡◌}
use lib.ListN.{length}
use borrow.Author.Rules.{rules}
use Rattle.std.proofs.lemmas.List.{take_min}
use Rattle.blocks.specs.Pools.{free_blocks}
use Rattle.blocks.proofs.pool.Pool.free_blocks.Goals as goal

pub returns : goal.returns
unfolding free_blocks
returns c =
    let p = c.args.self.now in
    let e : length p.list ≡ 64 = search rules in
    rw (c.listed.ensures, ← e) (take_min p.free p.list)
