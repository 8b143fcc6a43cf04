use mathlib.Core.Path.{◌∙◌}
use Rattle.kernel.proofs.waits.with_runner_waiting.Goals as goal

pub returns : goal.returns
returns c = c.joined.ensures ∙ rw (c.waiting_at.ensures, c.thread_at-th.ensures)
