use mathlib.Core.Path.{◌≡◌}
use lib.ListN.{length, take}
use Rattle.kernel.specs.Tables.{with_scheduler}
use Rattle.kernel.specs.Edits.{Cause, Holds, applied}
use Rattle.kernel.specs.Effects.{ends_each}
use Rattle.kernel.proofs.Kernel.ended_each.Given as goal

-- the waits of those before are ended
abbrev pub invariant-loop-x : goal.invariant-loop-x
invariant-loop-x l = (length l.self.held ≡ 32)
    × ((by : Cause) → Holds by l.fn.status → with_scheduler l.self l.s ≡ applied l.fn.self (ends_each by l.fn.words (take l.x-index l.x-items)))
