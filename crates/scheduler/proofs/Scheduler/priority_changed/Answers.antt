use mathlib.Core.Path.{refl, sym, ◌∙◌}
use Rattle.scheduler.specs.Changes.{priority_changed}
use Rattle.scheduler.proofs.Scheduler.priority_changed.Goals as goal

pub returns-then-is_ready : goal.returns-then-is_ready
unfolding priority_changed
returns-then-is_ready c =
    let r = sym c.is_ready.ensures ∙ c.if-is_ready.true in
    rw (← c.thread_at-old.ensures, r) (c.moved.ensures ∙ rw c.with_levels-th.ensures refl)

pub returns : goal.returns
unfolding priority_changed
returns c =
    let r = sym c.is_ready.ensures ∙ c.if-is_ready.false in
    rw (← c.thread_at-old.ensures, r) (c.with_thread.ensures ∙ rw c.with_levels-th.ensures refl)
