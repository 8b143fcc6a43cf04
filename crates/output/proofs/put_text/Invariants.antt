use Rattle.std.proofs.Common.{take}
use Rattle.output.specs.Texts.{Put}
use Rattle.output.proofs.put_text.Given as goal

abbrev pub invariant-loop-b : goal.invariant-loop-b
invariant-loop-b g l = Put l.fn.buf l.fn.at (take l.b-index l.text) l.buf l.at
