use Rattle.output.proofs.Laws.Texts.{puts-append}
use Rattle.inspect.specs.Inspect.{call_text}
use Rattle.inspect.proofs.put_call.Goals as goal

pub returns : goal.returns
unfolding call_text
returns g c =
    puts-append (puts-append (puts-append (puts-append c.put_field.ensures c.put_field-2.ensures) c.put_field-3.ensures) c.put_arguments.ensures) c.put_byte.ensures
