use Rattle.output.proofs.Laws.Texts.{puts-append}
use Rattle.text.specs.Texts.{field_text}
use Rattle.text.proofs.put_field.Goals as goal

pub returns : goal.returns
unfolding field_text
returns g c = puts-append c.put_text.ensures (rw c.from.ensures at c.put_decimal.ensures)
