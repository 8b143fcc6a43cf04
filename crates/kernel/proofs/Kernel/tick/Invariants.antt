use mathlib.Core.Path.{◌≡◌}
use Prim.Native.Nat.{◌≤◌}
use lib.ListN.{length}
use Rattle.kernel.specs.Tables.{with_scheduler}
use Rattle.kernel.specs.Edits.{applied, movers, endsb}
use Rattle.kernel.proofs.Laws.Ticks.{ticks_below}
use Rattle.kernel.proofs.Kernel.tick.Given as goal

abbrev pub invariant-loop-t : goal.invariant-loop-t
invariant-loop-t l = (length l.self.held ≡ 32) × (length l.s.threads ≡ 32)
    × (with_scheduler l.self l.s ≡ applied (with_scheduler l.initial.self l.initial.s) (ticks_below l.t (with_scheduler l.initial.self l.initial.s)))
    × (l.ended ≡ length (movers endsb (ticks_below l.t (with_scheduler l.initial.self l.initial.s)))) × (l.ended ≤ l.t)
