use mathlib.Core.Path.{◌∙◌}
use Rattle.kernel.specs.Tables.{with_scheduler}
use Rattle.kernel.specs.Answers.{answer_of}
use Rattle.kernel.specs.Loops.{answered}
use Rattle.kernel.specs.Edits.{applied, gathered, status_of, carried_out, guarded}
use Rattle.kernel.specs.Clock.{clock_effect}
use Rattle.kernel.proofs.Kernel.time_get.Goals as goal

pub returns : goal.returns
unfolding guarded clock_effect carried_out applied gathered status_of answer_of answered with_scheduler
returns c = c.carried.ensures ∙ rw c.two_words.ensures
