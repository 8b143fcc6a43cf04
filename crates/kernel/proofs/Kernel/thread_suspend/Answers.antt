use mathlib.Core.Path.{◌≡◌, ◌∙◌}
use lib.Seq.{set-get_or}
use Rattle.scheduler.specs.Orders.{joined}
use Rattle.calls.specs.Chains.{suspend_refusal}
use Rattle.kernel.specs.Answers.{answer_of}
use Rattle.kernel.specs.Edits.{applied, carried_out, edited, endsb, frontb, gathered, held_by, record_by, status_of}
use Rattle.kernel.specs.Loops.{answered}
use Rattle.kernel.specs.Tables.{held_at, thread_of, with_held, with_scheduler}
use Rattle.kernel.specs.Threads.{suspend_effect}
use Rattle.kernel.proofs.Laws.Answers.{is_carried}
use Rattle.kernel.proofs.Laws.Arms.{refused_for}
use Rattle.kernel.proofs.Kernel.thread_suspend.Goals as goal

pub returns-in-Err : goal.returns-in-Err
returns-in-Err c = refused_for _ _ _ c.refused.ensures c.from.ensures (cc c.in-Err.ensures)

pub returns-then-is_paused : goal.returns-then-is_paused
unfolding carried_out applied gathered status_of answer_of answered with_scheduler edited suspend_effect
returns-then-is_paused c =
    let a = c.args in
    let z : suspend_refusal (thread_of a.self a.t.0) ≡ 0 = cc c.in_default.ensures in
    rw (is_carried, ← c.thread_at-th.ensures, ← c.is_paused.ensures, c.if-is_paused.true)
    (c.carried.ensures ∙ rw (c.with_thread.ensures, c.with_suspension.ensures, c.thread_at-th.ensures))

pub returns-then-is_ready : goal.returns-then-is_ready
unfolding carried_out applied gathered status_of answer_of answered with_scheduler edited record_by held_by frontb endsb joined with_held suspend_effect held_at
returns-then-is_ready c =
    let a = c.args in
    let z : suspend_refusal (thread_of a.self a.t.0) ≡ 0 = cc c.in_default.ensures in
    rw (is_carried, ← c.thread_at-th.ensures, ← c.is_paused.ensures, c.if-is_paused.false, ← c.is_ready.ensures, c.if-is_ready.true)
    (c.carried-then-is_ready.ensures ∙ rw (c.moved.ensures, c.at_rest.ensures, c.thread_at-th.ensures, set-get_or))

pub returns : goal.returns
unfolding carried_out applied gathered status_of answer_of answered with_scheduler suspend_effect
returns c =
    let a = c.args in
    let z : suspend_refusal (thread_of a.self a.t.0) ≡ 0 = cc c.in_default.ensures in
    rw (is_carried, ← c.thread_at-th.ensures, ← c.is_paused.ensures, c.if-is_paused.false, ← c.is_ready.ensures, c.if-is_ready.false) c.carried-2.ensures
