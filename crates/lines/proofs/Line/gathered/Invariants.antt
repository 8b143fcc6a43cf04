use mathlib.Core.Path.{◌≡◌}
use mathlib.Core.List.{◌++◌}
use lib.ListN.{take}
use Rattle.lines.specs.Lists.{without, only_if}
use Rattle.lines.specs.Lines.{line_of}
use Rattle.lines.proofs.Line.gathered.Given as goal

abbrev pub invariant-loop-x : goal.invariant-loop-x
invariant-loop-x l = l.l ≡ line_of (only_if l.lead l.t.0 ++ without l.t.0 (take l.x-index l.x-items))
