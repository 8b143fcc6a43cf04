use Rattle.std.proofs.Common.{◌≡◌, length, take, rules}
use Rattle.blocks.specs.Pools.{free_blocks}
use Rattle.text.specs.Texts.{separated}
use Rattle.text.specs.Objects.{free_text}
use Rattle.text.proofs.Laws.Texts.{take_least}
use Rattle.text.proofs.object_tables.put_free.Goals as goal

pub returns : goal.returns
unfolding free_text free_blocks separated
returns g c =
    let p = c.args.p.now in
    let e : length p.list ≡ 64 = search rules in
    let f : take c.min-n.result p.list ≡ free_blocks p = rw (c.min-n.ensures, c.from.ensures) (take_least p.free 64 p.list e) in
    rw f at c.put_numbers.ensures
