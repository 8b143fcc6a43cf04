use Rattle.lines.specs.Lists.{without, to_end}
use Rattle.lines.specs.Lines.{members}
use Rattle.lines.proofs.Laws.Lines.{pushes}
use Rattle.lines.proofs.Line.joined_end.Goals as goal

pub returns : goal.returns
unfolding to_end
returns c = pushes (without c.args.t.0 (members c.args.self)) c.args.t.0 c.push.ensures c.gathered-l.ensures
