use Rattle.output.proofs.Laws.Texts.{puts-append}
use Rattle.inspect.specs.Inspect.{calls_text}
use Rattle.inspect.proofs.put_calls.Goals as goal

pub returns : goal.returns
unfolding calls_text
returns g c = puts-append (rw c.start.ensures at c.put_tables.ensures) c.put_record_reports.ensures
