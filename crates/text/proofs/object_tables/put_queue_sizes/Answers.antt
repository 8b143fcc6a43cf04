use Rattle.output.proofs.Laws.Texts.{puts-append}
use Rattle.text.specs.Objects.{queue_sizes_text}
use Rattle.text.proofs.object_tables.put_queue_sizes.Goals as goal

pub returns : goal.returns
unfolding queue_sizes_text
returns g c =
    puts-append
    (puts-append (puts-append (rw c.from.ensures at c.put_field.ensures) (rw c.from-2.ensures at c.put_field-2.ensures)) (rw c.from-3.ensures at c.put_field-3.ensures))
    (rw (c.from-4.ensures, c.capacity.ensures) at c.put_field-4.ensures)
