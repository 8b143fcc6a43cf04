use Rattle.kernel.specs.Tables.{with_scheduler, with_held}
use Rattle.kernel.specs.Edits.{record_by, held_by, frontb, edited}
use Rattle.kernel.proofs.Kernel.begin_wait.Goals as goal

pub returns : goal.returns
unfolding edited record_by held_by frontb with_held with_scheduler
returns c = rw (c.with_runner_waiting-self.ensures, c.store.ensures)
