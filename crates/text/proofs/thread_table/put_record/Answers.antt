use Rattle.output.proofs.Laws.Texts.{puts-append}
use Rattle.text.specs.Threads.{record_text}
use Rattle.text.proofs.Laws.Texts.{puts_if}
use Rattle.text.proofs.thread_table.put_record.Goals as goal

pub returns-then-not-th : goal.returns-then-not-th
unfolding record_text
returns-then-not-th g c = rw c.if-not-th.true c.put_nothing.ensures

pub returns : goal.returns
unfolding record_text
returns g c =
    puts_if c.args.th.now.created c.if-not-th.false
    (puts-append (puts-append (puts-append (puts-append c.put_levels.ensures c.put_marks.ensures) c.put_wait.ensures) c.put_held.ensures) c.put_byte.ensures)
