use mathlib.Core.Path.{refl}
use Rattle.lines.specs.Lines.{pad, line_of}
use Rattle.lines.proofs.Line.empty.Goals as goal

pub returns : goal.returns
unfolding line_of pad
returns c = refl
