use Rattle.output.proofs.Laws.Texts.{puts-append}
use Rattle.text.specs.Texts.{separated}
use Rattle.inspect.specs.Inspect.{result_text}
use Rattle.inspect.proofs.put_result.Goals as goal

pub returns : goal.returns
unfolding result_text separated
returns g c = puts-append (puts-append (puts-append c.put_answer.ensures c.put_byte.ensures) c.put_numbers.ensures) c.put_byte-2.ensures
