use mathlib.Core.Path.{◌≡◌}
use Prim.Native.Nat.{◌≤◌}
use lib.ListN.{take}
use Rattle.lines.specs.Lists.{count}
use Rattle.lines.proofs.Line.count.Given as goal

abbrev pub invariant-loop-x : goal.invariant-loop-x
invariant-loop-x l = (l.k ≡ count l.t.0 (take l.x-index l.x-items)) × (l.k ≤ l.x-index)
