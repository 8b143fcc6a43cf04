use Rattle.std.proofs.Common.{◌≡◌, true}
use Rattle.lines.specs.Logic.{all_below}
use Rattle.scheduler.proofs.Laws.Placing.{placed}
use Rattle.scheduler.proofs.Scheduler.is_sound.Given as goal

abbrev pub invariant-loop-t : goal.invariant-loop-t
invariant-loop-t l = all_below l.t (placed l.fn.self) ≡ true
