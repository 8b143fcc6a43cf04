use mathlib.Core.Bool.{false, true}
use mathlib.Core.Path.{ap, sym, ◌≡◌, ◌∙◌}
use lib.Seq.{set-get_or}
use Rattle.scheduler.specs.Orders.{joined}
use Rattle.scheduler.specs.declared.thread.Thread.{Thread}
use Rattle.calls.specs.Chains.{resume_refusal}
use Rattle.kernel.specs.Answers.{answer_of}
use Rattle.kernel.specs.Edits.{applied, carried_out, edited, endsb, frontb, gathered, held_by, record_by, status_of}
use Rattle.kernel.specs.Loops.{answered}
use Rattle.kernel.specs.Tables.{held_at, thread_of, with_held, with_scheduler}
use Rattle.kernel.specs.Threads.{resume_effect}
use Rattle.kernel.proofs.Laws.Answers.{is_carried}
use Rattle.kernel.proofs.Laws.Arms.{refused_for}
use Rattle.kernel.proofs.Kernel.thread_resume.Goals as goal

pub returns-in-Err : goal.returns-in-Err
returns-in-Err c = refused_for _ _ _ c.refused.ensures c.from.ensures (cc c.in-Err.ensures)

pub returns-then-th : goal.returns-then-th
unfolding carried_out applied gathered status_of answer_of answered with_scheduler edited resume_effect
returns-then-th c =
    let a = c.args in
    let z : resume_refusal (thread_of a.self a.t.0) ≡ 0 = cc c.in_default.ensures in
    let y : (thread_of a.self a.t.0).suspending ≡ true = sym (ap (λ (x : Thread). x.suspending) c.thread_at-th.ensures) ∙ c.if-th.true in
    rw (is_carried, y) (c.carried.ensures ∙ rw (c.with_thread.ensures, c.with_suspension.ensures, c.thread_at-th.ensures))

pub returns : goal.returns
unfolding carried_out applied gathered status_of answer_of answered with_scheduler edited record_by held_by frontb endsb joined with_held resume_effect held_at
returns c =
    let a = c.args in
    let z : resume_refusal (thread_of a.self a.t.0) ≡ 0 = cc c.in_default.ensures in
    let y : (thread_of a.self a.t.0).suspending ≡ false = sym (ap (λ (x : Thread). x.suspending) c.thread_at-th.ensures) ∙ c.if-th.false in
    rw (is_carried, y) (c.carried-2.ensures ∙ rw (c.moved.ensures, c.at_rest.ensures, c.thread_at-th.ensures, set-get_or))
