use Rattle.kernel.specs.Tables.{with_scheduler, with_clock}
use Rattle.kernel.specs.Answers.{answer_of}
use Rattle.kernel.specs.Loops.{answered}
use Rattle.kernel.specs.Edits.{edited, applied, gathered, status_of, carried_out, guarded}
use Rattle.kernel.specs.Clock.{clock_set_effect}
use Rattle.kernel.proofs.Kernel.time_set.Goals as goal

pub returns : goal.returns
unfolding guarded clock_set_effect edited with_clock carried_out applied gathered status_of answer_of answered with_scheduler
returns c = c.carried.ensures
