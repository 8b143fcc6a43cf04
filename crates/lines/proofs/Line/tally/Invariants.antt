use mathlib.Core.Path.{◌≡◌}
use lib.ListN.{take}
use Rattle.lines.specs.Loops.{tally}
use Rattle.lines.proofs.Line.tally.Given as goal

abbrev pub invariant-loop-x : goal.invariant-loop-x
invariant-loop-x l = l.counts ≡ tally (take l.x-index l.x-items)
