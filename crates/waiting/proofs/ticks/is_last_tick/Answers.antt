use Rattle.std.proofs.Common.{refl}
use Rattle.waiting.proofs.Laws.Ticks.{last_is, below_two}
use Rattle.waiting.proofs.ticks.is_last_tick.Goals as goal

pub returns : goal.returns
returns c = rw (last_is, below_two, c.is_timed.ensures) refl
