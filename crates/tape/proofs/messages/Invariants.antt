use mathlib.Core.Path.{◌≡◌}
use lib.ListN.{take}
use Rattle.lines.specs.Lines.{pad}
use Rattle.tape.specs.Tapes.{messages_of}
use Rattle.tape.proofs.messages.Given as goal

abbrev pub invariant-loop-i : goal.invariant-loop-i
invariant-loop-i l = l.words ≡ pad 4000 (take l.i (messages_of l.bytes))
