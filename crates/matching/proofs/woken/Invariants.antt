use mathlib.Core.Path.{◌≡◌}
use lib.ListN.{take}
use Rattle.lines.specs.Lines.{line_of}
use Rattle.matching.specs.Loops.{woken_of, clears_of}
use Rattle.matching.proofs.woken.Given as goal

abbrev pub invariant-loop-x : goal.invariant-loop-x
invariant-loop-x l = (l.woken ≡ line_of (woken_of l.flags l.requests l.options (take l.x-index l.x-items)))
    × (l.clears ≡ clears_of l.flags l.requests l.options (take l.x-index l.x-items))
