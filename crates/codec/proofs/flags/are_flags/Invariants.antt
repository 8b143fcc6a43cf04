use Rattle.std.proofs.Common.{◌≡◌, ◌+◌, ◌*◌}
use Rattle.lines.specs.Logic.{all_below}
use Rattle.codec.specs.State.{flagb}
use Rattle.codec.proofs.flags.are_flags.Given as goal

abbrev pub invariant-loop-i : goal.invariant-loop-i
invariant-loop-i l = l.fit ≡ all_below l.i (λ i. flagb l.block (l.first + l.size * i))
