use borrow.Author.Rules.{rules}
use Rattle.scheduler.specs.Changes.{preemption_changed}
use Rattle.scheduler.proofs.Scheduler.preemption_changed.Goals as goal

pub thread_at-old-requires : goal.thread_at-old-requires
unfolding preemption_changed
thread_at-old-requires c = search rules

pub with_levels-th-requires : goal.with_levels-th-requires
unfolding preemption_changed
with_levels-th-requires c = search rules

pub with_thread-requires : goal.with_thread-requires
unfolding preemption_changed
with_thread-requires c = search rules

pub returns : goal.returns
unfolding preemption_changed
returns c = cc
