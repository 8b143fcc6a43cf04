use Rattle.output.proofs.Laws.Texts.{puts-append}
use Rattle.inspect.specs.Inspect.{arguments_text}
use Rattle.inspect.proofs.put_arguments.Goals as goal

pub returns : goal.returns
unfolding arguments_text
returns g c = puts-append (puts-append (puts-append c.put_field.ensures c.put_field-2.ensures) c.put_field-3.ensures) c.put_field-4.ensures
