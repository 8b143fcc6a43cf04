use mathlib.Core.Path.{◌≡◌}
use borrow.Author.Rules.{rules}
use lib.ListN.{length}
use Rattle.std.proofs.lemmas.List.{take_rest}
use Rattle.lines.proofs.Laws.Slots.{zero_rest}
use Rattle.blocks.proofs.pool.Pool.is_clean.Goals as goal

pub returns : goal.returns
returns c =
    let p = c.args.self in
    let e : length p.list ≡ 64 = search rules in
    rw (c.are_blank.ensures, take_rest p.list c.listed-n.result) (zero_rest _ _ p.list e c.listed-n.ensures)
