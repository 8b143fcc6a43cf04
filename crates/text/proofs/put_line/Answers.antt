use Rattle.output.proofs.Laws.Texts.{puts-append}
use Rattle.text.specs.Texts.{separated, line_text}
use Rattle.text.proofs.put_line.Goals as goal

pub returns : goal.returns
unfolding line_text separated
returns g c = puts-append (puts-append c.put_text.ensures (rw c.as_slice.ensures at c.put_numbers.ensures)) c.put_byte.ensures
