use Rattle.std.proofs.Common.{◌≡◌, ◌-◌, length, take, drop, arith, rules}
use lib.ListN.{length-drop}
use lib.Seq.{take_all}
use Rattle.lines.proofs.Laws.Slots.{zero_behind}
use Rattle.waiting.specs.Fit.{blank_from}
use Rattle.waiting.proofs.fit.is_blank.Goals as goal

pub returns : goal.returns
unfolding blank_from
returns c =
    let n = c.min-n.result in
    let xs = c.args.words in
    let e : length xs ≡ 16 = search rules in
    let all : take (16 - n) (drop n xs) ≡ drop n xs = take_all (16 - n) (drop n xs) (omega (arith, e, length-drop n xs)) in
    rw (c.are_blank.ensures, all) (zero_behind c.args.from n 16 xs e c.min-n.ensures)
