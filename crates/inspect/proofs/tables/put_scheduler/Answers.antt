use Rattle.output.proofs.Laws.Texts.{puts-append}
use Rattle.inspect.specs.Tables.{scheduler_text}
use Rattle.inspect.proofs.tables.put_scheduler.Goals as goal

pub returns : goal.returns
unfolding scheduler_text
returns g c = puts-append (puts-append c.put_start.ensures c.put_threads.ensures) c.put_orders.ensures
