use Rattle.output.proofs.Laws.Texts.{puts-append}
use Rattle.text.specs.Objects.{semaphore_text}
use Rattle.text.proofs.Laws.Texts.{puts_if}
use Rattle.text.proofs.object_tables.SemaphoreObject.put.Goals as goal

pub returns-then-not-self : goal.returns-then-not-self
unfolding semaphore_text
returns-then-not-self g c = rw c.if-not-self.true c.put_nothing.ensures

pub returns : goal.returns
unfolding semaphore_text
returns g c =
    puts_if c.args.self.now.created c.if-not-self.false
    (puts-append (puts-append (rw c.from.ensures at c.put_field.ensures) c.put_field-2.ensures) c.put_line.ensures)
