use borrow.Author.Tests.{eq-eqb, ne_eqb}
use Rattle.output.proofs.Laws.Texts.{puts-append}
use Rattle.text.specs.Threads.{order_text}
use Rattle.text.proofs.thread_table.put_order.Goals as goal

pub returns-then-size-eq0 : goal.returns-then-size-eq0
unfolding order_text
returns-then-size-eq0 g c = rw (← c.size.ensures, eq-eqb c.size.result 0 c.if-size-eq0.true) c.put_nothing.ensures

pub returns : goal.returns
unfolding order_text
returns g c = rw (← c.size.ensures, ne_eqb c.size.result 0 c.if-size-eq0.false) (puts-append c.put_field.ensures c.put_line.ensures)
