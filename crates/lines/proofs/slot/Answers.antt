use mathlib.Core.Path.{sym, ◌∙◌}
use Rattle.lines.proofs.Laws.Tallies.{slot-min}
use Rattle.lines.proofs.slot.Goals as goal

pub returns : goal.returns
returns c = c.min.ensures ∙ sym (slot-min c.args.t.0)
