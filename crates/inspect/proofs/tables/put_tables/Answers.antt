use Rattle.output.proofs.Laws.Texts.{puts-append}
use Rattle.inspect.specs.Tables.{tables_text}
use Rattle.inspect.proofs.tables.put_tables.Goals as goal

pub returns : goal.returns
unfolding tables_text
returns g c =
    puts-append
    (puts-append
    (puts-append (puts-append (puts-append c.put_scheduler.ensures c.put_semaphores.ensures) c.put_queues.ensures) c.put_groups.ensures)
    c.put_pools.ensures)
    c.put_text.ensures
