use Rattle.scheduler.specs.Orders.{joined, woken}
use Rattle.kernel.specs.Tables.{with_scheduler, with_held}
use Rattle.kernel.specs.Edits.{status_by, record_by, held_by, frontb, edited}
use Rattle.kernel.proofs.Kernel.serve.Goals as goal

pub returns : goal.returns
unfolding edited status_by record_by held_by frontb with_held with_scheduler joined woken
returns c d n = rw (c.woken-self.ensures, c.store.ensures, c.of.ensures)
