use mathlib.Core.Path.{sym}
use Rattle.tape.specs.Tapes.{word_at}
use Rattle.tape.proofs.Laws.Tapes.{word_past}
use Rattle.tape.proofs.word.Goals as goal

pub returns-then-at-bytes : goal.returns-then-at-bytes
unfolding word_at
returns-then-at-bytes c = rw (← c.byte.ensures, ← c.byte-then-at-bytes.ensures, ← c.byte-then-at-bytes-2.ensures, ← c.byte-then-at-bytes-3.ensures) c.joined.ensures

pub returns-else-at-bytes : goal.returns-else-at-bytes
returns-else-at-bytes c = sym (word_past c.args.bytes.now c.args.at c.if-at-bytes.false)
