use Rattle.output.proofs.Laws.Texts.{puts-append}
use Rattle.inspect.specs.Tables.{start_text}
use Rattle.inspect.proofs.tables.put_start.Goals as goal

pub returns : goal.returns
unfolding start_text
returns g c = puts-append (puts-append (puts-append c.put_field.ensures c.put_text.ensures) c.put_thread.ensures) c.put_byte.ensures
