use Rattle.std.proofs.Common.{arith}
use borrow.Author.Tests.{ne_eqb}
use Rattle.text.specs.Threads.{wait_text}
use Rattle.text.proofs.thread_table.put_wait.Goals as goal

pub returns-in-0 : goal.returns-in-0
unfolding wait_text
returns-in-0 g c = rw c.in-0.is c.put_text.ensures

pub returns-in-4294967295 : goal.returns-in-4294967295
unfolding wait_text
returns-in-4294967295 g c = rw c.in-4294967295.is c.put_text-in-4294967295.ensures

pub returns-in_default : goal.returns-in_default
unfolding wait_text
returns-in_default g c = rw (ne_eqb c.args.ticks 0 (omega arith), ne_eqb c.args.ticks 4294967295 (omega arith)) c.put_field.ensures
