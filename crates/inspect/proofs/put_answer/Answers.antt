use Rattle.output.proofs.Laws.Texts.{puts-append}
use Rattle.inspect.specs.Inspect.{answer_text}
use Rattle.inspect.proofs.put_answer.Goals as goal

pub returns : goal.returns
unfolding answer_text
returns g c = puts-append (puts-append (puts-append c.put_field.ensures c.put_byte.ensures) c.put_thread.ensures) c.put_field-2.ensures
