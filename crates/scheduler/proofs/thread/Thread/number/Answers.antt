use borrow.Author.Tests.{eq-eqb, ne_eqb}
use Rattle.scheduler.specs.Threads.{number_of}
use Rattle.scheduler.proofs.thread.Thread.number.Goals as goal

pub returns-then-self-eq-READY : goal.returns-then-self-eq-READY
unfolding number_of
returns-then-self-eq-READY c = rw (eq-eqb _ _ c.if-self-eq-READY.true)

pub returns-else-self-eq-READY : goal.returns-else-self-eq-READY
unfolding number_of
returns-else-self-eq-READY c = rw (ne_eqb _ _ c.if-self-eq-READY.false)
