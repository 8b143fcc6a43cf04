-- Each thread below the index is tested: what it holds, and what it waits on.
use mathlib.Core.Path.{◌≡◌}
use Rattle.lines.specs.Logic.{all_below}
use Rattle.waiting.specs.Fit.{held_fitb}
use Rattle.kernel.specs.Tables.{thread_of, held_at}
use Rattle.kernel.specs.Sound.{wait_fitb}
use Rattle.kernel.proofs.Kernel.is_sound.Given as goal

abbrev pub invariant-loop-t : goal.invariant-loop-t
invariant-loop-t l = (l.held ≡ all_below l.t (λ t. held_fitb (thread_of l.fn.self t) (held_at l.fn.self t))) × (l.waits ≡ all_below l.t (wait_fitb l.fn.self))
