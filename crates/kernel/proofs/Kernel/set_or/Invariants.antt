use mathlib.Core.Path.{◌≡◌}
use Prim.Native.Nat.{ℕ, ◌<◌}
use lib.ListN.{length, get_or, take}
use Rattle.calls.specs.Held.{one_word}
use Rattle.kernel.specs.Tables.{held_at, with_scheduler}
use Rattle.kernel.specs.Edits.{Cause, Holds, applied}
use Rattle.kernel.specs.Effects.{ends_each}
use Rattle.kernel.proofs.Kernel.set_or.Given as goal

abbrev pub invariant-loop-t : goal.invariant-loop-t
invariant-loop-t l = (length l.requests ≡ 32) × (length l.options ≡ 32)
    × ((j : ℕ) → j < l.t → get_or l.requests j 0 ≡ (held_at l.fn.self j).request)
    × ((j : ℕ) → j < l.t → get_or l.options j 0 ≡ (held_at l.fn.self j).option)

-- the waits of those before are ended
abbrev pub invariant-loop-x : goal.invariant-loop-x
invariant-loop-x l = (length l.self.held ≡ 32)
    × ((by : Cause) → Holds by 0 → with_scheduler l.self l.s ≡ applied (with_scheduler l.initial.self l.initial.s) (ends_each by (one_word l.fn.flags) (take l.x-index l.x-items)))
