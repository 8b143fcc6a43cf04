use Rattle.std.proofs.Common.{ℕ}
use lib.Seq.{take_all}
use Rattle.scheduler.specs.Orders.{line_at}
use Rattle.text.specs.Texts.{each_text}
use Rattle.text.proofs.Laws.Texts.{puts_item}
use Rattle.text.proofs.object_tables.put_table.Goals as goal

pub loop-i-init : goal.loop-i-init
unfolding each_text
loop-i-init g c = c.put_nothing.ensures

pub loop-i-preserved : goal.loop-i-preserved
loop-i-preserved g c =
    let s = c.args.s.now in
    puts_item (λ (n : ℕ) (x : _). g.T.Object.object_text n x (line_at s (g.T.Object.waiters n))) c.args.all.now c.loop-i-test.true c.index-all-i.is
    c.loop-i.invariant (rw (c.line_at-l.ensures.1, c.place.ensures) at c.put.ensures)

pub returns : goal.returns
returns g c = rw (take_all c.loop-i.i c.args.all.now c.loop-i-test.false) at c.loop-i.invariant
