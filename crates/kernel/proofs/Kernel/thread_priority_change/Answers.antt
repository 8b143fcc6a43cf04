use mathlib.Core.Path.{◌≡◌, ◌∙◌}
use native.Mathlib.Omega.{arith}
use lib.Seq.{set-get_or}
use borrow.Author.Tests.{ltb-true}
use Rattle.lines.proofs.Laws.Logic.{by_test}
use Rattle.scheduler.specs.Changes.{priority_changed}
use Rattle.scheduler.specs.Orders.{joined}
use Rattle.scheduler.specs.Threads.{readyb}
use Rattle.calls.specs.Chains.{priority_refusal}
use Rattle.kernel.specs.Answers.{answer_of}
use Rattle.kernel.specs.Edits.{applied, carried_out, edited, endsb, frontb, gathered, held_by, record_by, status_of}
use Rattle.kernel.specs.Loops.{answered}
use Rattle.kernel.specs.Tables.{held_at, thread_of, with_held, with_scheduler}
use Rattle.kernel.specs.Threads.{priority_effect}
use Rattle.kernel.proofs.Laws.Answers.{first_none, is_carried, second_none, unless_none}
use Rattle.kernel.proofs.Laws.Arms.{refused_for}
use Rattle.kernel.proofs.Kernel.thread_priority_change.Goals as goal

pub returns-in-Err : goal.returns-in-Err
returns-in-Err c = refused_for _ _ _ c.refused.ensures c.from.ensures (cc c.in-Err.ensures)

pub overflow_cast-priority : goal.overflow_cast-priority
unfolding priority_refusal
overflow_cast-priority c =
    let a = c.args in
    let z : priority_refusal (thread_of a.self a.t.0) a.priority a.caller ≡ 0 = cc c.in_default.ensures in
    omega (arith, ltb-true a.priority 32 (unless_none _ 15 (omega arith) (first_none _ _ (second_none _ _ z))))

pub returns : goal.returns
unfolding carried_out applied gathered status_of answer_of answered with_scheduler edited record_by held_by frontb endsb joined with_held priority_effect priority_changed held_at
returns c =
    let a = c.args in
    let z : priority_refusal (thread_of a.self a.t.0) a.priority a.caller ≡ 0 = cc c.in_default.ensures in
    rw is_carried
    (c.carried.ensures ∙ rw (c.priority_changed.ensures, c.two_words-words.ensures, c.thread_at-th.ensures)
    (by_test (readyb (thread_of a.self a.t.0)) (λ r. rw (r, set-get_or)) (λ r. rw r)))
