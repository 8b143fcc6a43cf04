use mathlib.Core.Path.{ap, ◌∙◌}
use borrow.Author.Tests.{le-ltb, lt-ltb}
use Rattle.scheduler.specs.Orders.{first_at}
use Rattle.kernel.specs.Answers.{answer_of}
use Rattle.kernel.specs.Edits.{applied, carried_out, edited, endsb, gathered, status_of}
use Rattle.kernel.specs.Effects.{give_effect, serve_effect, store_effect}
use Rattle.kernel.specs.Kinds.{Kind}
use Rattle.kernel.specs.Loops.{answered}
use Rattle.kernel.specs.Tables.{with_scheduler, with_semaphore}
use Rattle.kernel.proofs.Kernel.put.Goals as goal

pub returns-then-first-lt-NOBODY : goal.returns-then-first-lt-NOBODY
unfolding carried_out applied gathered status_of answer_of answered with_scheduler edited endsb give_effect serve_effect
returns-then-first-lt-NOBODY c =
    let f = c.first_at-first.ensures ∙ ap (first_at c.args.self.now.scheduler) c.semaphore.ensures in
    rw (← f, lt-ltb _ _ c.if-first-lt-NOBODY.true, c.serve.ensures Kind.semaphore c.args.n.0)

pub returns-else-first-lt-NOBODY : goal.returns-else-first-lt-NOBODY
unfolding carried_out applied gathered status_of answer_of answered with_scheduler edited endsb give_effect store_effect with_semaphore
returns-else-first-lt-NOBODY c =
    let f = c.first_at-first.ensures ∙ ap (first_at c.args.self.now.scheduler) c.semaphore.ensures in
    rw (← f, le-ltb _ _ c.if-first-lt-NOBODY.false, c.store.ensures, c.counting.ensures)
