use mathlib.Core.Path.{ap, ◌≡◌, ◌∙◌}
use native.Mathlib.Omega.{arith}
use borrow.Author.Tests.{leb-true}
use Rattle.scheduler.specs.Changes.{preemption_changed}
use Rattle.scheduler.specs.declared.thread.Thread.{Thread}
use Rattle.calls.specs.Chains.{preemption_refusal}
use Rattle.kernel.specs.Answers.{answer_of}
use Rattle.kernel.specs.Edits.{applied, carried_out, edited, gathered, status_of}
use Rattle.kernel.specs.Loops.{answered}
use Rattle.kernel.specs.Tables.{thread_of, with_scheduler}
use Rattle.kernel.specs.Threads.{preemption_effect}
use Rattle.kernel.proofs.Laws.Answers.{first_none, is_carried, second_none, unless_none}
use Rattle.kernel.proofs.Laws.Arms.{refused_for}
use Rattle.kernel.proofs.Kernel.thread_preemption_change.Goals as goal

pub returns-in-Err : goal.returns-in-Err
returns-in-Err c = refused_for _ _ _ c.refused.ensures c.from.ensures (cc c.in-Err.ensures)

pub overflow_cast-threshold : goal.overflow_cast-threshold
unfolding preemption_refusal
overflow_cast-threshold c =
    let a = c.args in
    let z : preemption_refusal (thread_of a.self a.t.0) a.threshold a.caller ≡ 0 = cc c.in_default.ensures in
    let m = leb-true a.threshold (thread_of a.self a.t.0).priority (unless_none _ 24 (omega arith) (first_none _ _ (second_none _ _ z))) in
    let q = ap (λ (x : Thread). x.priority) c.thread_at-th.ensures in
    omega (arith, m, q, c.struct_known-1.given.1.1.0)

pub returns : goal.returns
unfolding carried_out applied gathered status_of answer_of answered with_scheduler edited preemption_effect preemption_changed
returns c =
    let a = c.args in
    let z : preemption_refusal (thread_of a.self a.t.0) a.threshold a.caller ≡ 0 = cc c.in_default.ensures in
    rw is_carried (c.carried.ensures ∙ rw (c.preemption_changed.ensures, c.two_words-words.ensures, c.thread_at-th.ensures))
