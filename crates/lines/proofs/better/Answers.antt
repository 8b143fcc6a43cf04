use borrow.Author.Tests.{lt-ltb, le-ltb}
use Rattle.lines.specs.Loops.{better_of}
use Rattle.lines.proofs.better.Goals as goal

pub returns-then-b-k : goal.returns-then-b-k
unfolding better_of
returns-then-b-k c = rw (lt-ltb _ _ c.if-b-k.true)

pub returns-else-b-k : goal.returns-else-b-k
unfolding better_of
returns-else-b-k c = rw (le-ltb _ _ c.if-b-k.false)
