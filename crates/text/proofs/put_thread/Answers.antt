use borrow.Author.Tests.{lt-ltb, le-ltb}
use Rattle.text.specs.Texts.{thread_text}
use Rattle.text.proofs.put_thread.Goals as goal

pub returns-then-t-lt-NOBODY : goal.returns-then-t-lt-NOBODY
unfolding thread_text
returns-then-t-lt-NOBODY g c = rw (lt-ltb c.args.t.0 32 c.if-t-lt-NOBODY.true) (rw c.from.ensures at c.put_decimal.ensures)

pub returns-else-t-lt-NOBODY : goal.returns-else-t-lt-NOBODY
unfolding thread_text
returns-else-t-lt-NOBODY g c = rw (le-ltb c.args.t.0 32 c.if-t-lt-NOBODY.false) c.put_byte.ensures
