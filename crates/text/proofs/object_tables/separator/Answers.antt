use Rattle.std.proofs.Common.{arith, ◌%◌}
use borrow.Author.Tests.{eq-eqb, ne_eqb, lt-ltb, le-ltb}
use Rattle.text.specs.Objects.{word_separator}
use Rattle.text.proofs.object_tables.separator.Goals as goal

pub returns-then-words-eq0 : goal.returns-then-words-eq0
unfolding word_separator
returns-then-words-eq0 c = rw (le-ltb 0 c.args.words (omega arith))

pub returns-then-i-words-eq0 : goal.returns-then-i-words-eq0
unfolding word_separator
returns-then-i-words-eq0 c =
    rw (lt-ltb 0 c.args.words (omega arith), eq-eqb (c.args.i % c.args.words) 0 c.if-i-words-eq0.true)

pub returns-else-i-words-eq0 : goal.returns-else-i-words-eq0
unfolding word_separator
returns-else-i-words-eq0 c =
    rw (lt-ltb 0 c.args.words (omega arith), ne_eqb (c.args.i % c.args.words) 0 c.if-i-words-eq0.false)
