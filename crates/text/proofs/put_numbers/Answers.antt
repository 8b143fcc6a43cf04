use Rattle.std.proofs.Common.{ℕ, ◌++◌}
use lib.Seq.{take_all}
use Rattle.output.specs.Texts.{decimal_of}
use Rattle.output.proofs.Laws.Texts.{puts-append}
use Rattle.text.specs.Texts.{each_text, separator_text}
use Rattle.text.proofs.Laws.Texts.{puts_item}
use Rattle.text.proofs.put_numbers.Goals as goal

pub loop-i-init : goal.loop-i-init
unfolding each_text
loop-i-init g c = c.put_nothing.ensures

pub loop-i-preserved : goal.loop-i-preserved
loop-i-preserved g c =
    let n = g.met.T.Number.converted c.index-numbers-i.result c.into.result c.into.ensures in
    puts_item (λ (i : ℕ) (x : _). separator_text i c.args.separator ++ decimal_of (g.T.Number.number x)) c.args.numbers.now c.loop-i-test.true
    c.index-numbers-i.is c.loop-i.invariant (puts-append {xs = separator_text c.loop-i.i c.args.separator} c.put_separator.ensures (rw n at c.put_decimal.ensures))

pub returns : goal.returns
returns g c = rw (take_all c.loop-i.i c.args.numbers.now c.loop-i-test.false) at c.loop-i.invariant
