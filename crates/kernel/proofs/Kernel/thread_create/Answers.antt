use mathlib.Core.Path.{◌≡◌, ◌∙◌}
use Prim.Native.Nat.{ℕ, ◌<◌, ◌≤◌}
use native.Mathlib.Omega.{arith}
use borrow.Author.Tests.{leb-true, ltb-true}
use Rattle.scheduler.specs.Orders.{joined}
use Rattle.scheduler.specs.declared.thread.Thread.{Thread}
use Rattle.calls.specs.Chains.{create_refusal}
use Rattle.kernel.specs.Answers.{answer_of}
use Rattle.kernel.specs.Edits.{applied, carried_out, edited, endsb, frontb, gathered, held_by, record_by, status_of}
use Rattle.kernel.specs.Loops.{answered}
use Rattle.kernel.specs.Tables.{thread_of, with_held, with_scheduler}
use Rattle.kernel.specs.Threads.{create_effect}
use Rattle.kernel.proofs.Laws.Answers.{first_none, is_carried, second_none, unless_none}
use Rattle.kernel.proofs.Laws.Arms.{refused_for}
use Rattle.kernel.proofs.Kernel.thread_create.Goals as goal

pub returns-in-Err : goal.returns-in-Err
returns-in-Err c = refused_for _ _ _ c.refused.ensures c.from.ensures (cc c.in-Err.ensures)

-- nothing refuses: the priority and the threshold are in range
in_range : (t : ℕ) (th : Thread) (p h start caller : ℕ) → create_refusal t th p h start caller ≡ 0 → (p < 32) × (h ≤ p)
unfolding create_refusal
in_range t th p h start caller z = (
  ltb-true p 32 (unless_none _ 15 (omega arith) (first_none _ _ (second_none _ _ z))),
  leb-true h p (unless_none _ 24 (omega arith) (first_none _ _ (second_none _ _ (second_none _ _ z)))),
)

pub overflow_cast-priority : goal.overflow_cast-priority
overflow_cast-priority c =
    let a = c.args in
    let z : create_refusal a.t.0 (thread_of a.self a.t.0) a.priority a.threshold a.start a.caller ≡ 0 = cc c.in_default.ensures in
    omega (arith, in_range a.t.0 (thread_of a.self a.t.0) a.priority a.threshold a.start a.caller z)

pub overflow_cast-threshold : goal.overflow_cast-threshold
overflow_cast-threshold c =
    let a = c.args in
    let z : create_refusal a.t.0 (thread_of a.self a.t.0) a.priority a.threshold a.start a.caller ≡ 0 = cc c.in_default.ensures in
    omega (arith, in_range a.t.0 (thread_of a.self a.t.0) a.priority a.threshold a.start a.caller z)

pub returns : goal.returns
unfolding carried_out applied gathered status_of answer_of answered with_scheduler edited record_by held_by frontb endsb joined with_held create_effect
returns c =
    let a = c.args in
    let z : create_refusal a.t.0 (thread_of a.self a.t.0) a.priority a.threshold a.start a.caller ≡ 0 = cc c.in_default.ensures in
    rw is_carried (c.moved.ensures ∙ rw (c.created.ensures, c.start_state-state.ensures))
