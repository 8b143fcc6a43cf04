use Rattle.output.proofs.Laws.Texts.{puts-append}
use Rattle.inspect.specs.Inspect.{record_text}
use Rattle.inspect.proofs.InspectRecordReport.put_record.Goals as goal

pub returns : goal.returns
unfolding record_text
returns g c = puts-append (puts-append c.put_call.ensures c.put_result.ensures) c.put_tables.ensures
