use Rattle.std.proofs.Common.{◌≡◌, ℕ, ◌<◌, length, get_or, arith}
use lib.Seq.{take_all}
use Rattle.lines.specs.Lists.{numbers_from}
use Rattle.lines.proofs.Laws.Lists.{length_numbers, number_at, get_d_any}
use Rattle.scheduler.specs.Threads.{ready_at}
use Rattle.scheduler.specs.Orders.{line_at}
use Rattle.text.specs.Texts.{each_text}
use Rattle.text.specs.Threads.{order_text, orders_text}
use Rattle.text.proofs.Laws.Texts.{puts_item}
use Rattle.text.proofs.thread_table.put_orders.Goals as goal

pub loop-p-init : goal.loop-p-init
unfolding each_text
loop-p-init g c = c.put_nothing.ensures

pub loop-p-preserved : goal.loop-p-preserved
loop-p-preserved g c =
    let p = c.loop-p.p in
    let s = c.args.s.now in
    let z = length_numbers 0 32 in
    let h : p < length (numbers_from 0 32) = omega arith in
    let n : p ≡ get_or (numbers_from 0 32) p p = (let k = number_at 0 32 p (omega arith) in let d = get_d_any (numbers_from 0 32) p 0 p h in omega (arith, k, d)) in
    puts_item (λ (m q : ℕ). order_text q (line_at s (ready_at q))) (numbers_from 0 32) h n c.loop-p.invariant
    (rw (c.line_at-l.ensures.1, c.ready.ensures) at c.put_order.ensures)

pub returns : goal.returns
unfolding orders_text
returns g c =
    let z = length_numbers 0 32 in
    rw (take_all c.loop-p.p (numbers_from 0 32) (omega arith)) at c.loop-p.invariant
