use Rattle.output.proofs.Laws.Texts.{puts-append}
use Rattle.text.specs.Objects.{pool_sizes_text}
use Rattle.text.proofs.object_tables.put_pool_sizes.Goals as goal

pub returns : goal.returns
unfolding pool_sizes_text
returns g c =
    puts-append
    (puts-append (puts-append (rw c.from.ensures at c.put_field.ensures) (rw c.from-2.ensures at c.put_field-2.ensures)) c.put_field-3.ensures)
    (rw c.blocks-2.ensures at c.put_field-4.ensures)
