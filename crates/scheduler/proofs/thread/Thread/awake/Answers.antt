use Rattle.scheduler.specs.Threads.{in_state, awake}
use Rattle.scheduler.proofs.thread.Thread.awake.Goals as goal

pub returns-then-self : goal.returns-then-self
unfolding awake in_state
returns-then-self c = rw c.if-self.true c.at_rest.ensures

pub returns-else-self : goal.returns-else-self
unfolding awake in_state
returns-else-self c = rw c.if-self.false c.at_rest-else-self.ensures
