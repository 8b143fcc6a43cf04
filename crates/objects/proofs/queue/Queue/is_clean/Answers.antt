use mathlib.Core.Path.{◌≡◌}
use borrow.Author.Rules.{rules}
use lib.ListN.{length}
use Rattle.std.proofs.lemmas.List.{take_rest}
use Rattle.lines.proofs.Laws.Slots.{zero_rest}
use Rattle.objects.proofs.queue.Queue.is_clean.Goals as goal

pub returns : goal.returns
returns c =
    let q = c.args.self in
    let e : length q.store ≡ 64 = search rules in
    rw (c.are_blank.ensures, take_rest q.store c.used-n.result) (zero_rest _ _ q.store e c.used-n.ensures)
