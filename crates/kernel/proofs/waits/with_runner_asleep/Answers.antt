use mathlib.Core.Path.{◌∙◌}
use Rattle.kernel.proofs.waits.with_runner_asleep.Goals as goal

pub returns : goal.returns
returns c = c.moved.ensures ∙ rw (c.sleeping.ensures, c.thread_at-th.ensures)
