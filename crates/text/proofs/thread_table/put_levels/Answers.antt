use Rattle.output.proofs.Laws.Texts.{puts-append}
use Rattle.text.specs.Threads.{levels_text}
use Rattle.text.proofs.thread_table.put_levels.Goals as goal

pub returns : goal.returns
unfolding levels_text
returns g c =
    puts-append
    (puts-append (puts-append c.put_field.ensures (rw c.from.ensures at c.put_field-2.ensures)) (rw c.from-2.ensures at c.put_field-3.ensures))
    (rw c.from-3.ensures at c.put_field-4.ensures)
