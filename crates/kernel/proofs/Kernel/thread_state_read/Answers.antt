use mathlib.Core.Path.{◌≡◌, ◌∙◌}
use Rattle.calls.specs.Chains.{read_refusal}
use Rattle.kernel.specs.Answers.{answer_of}
use Rattle.kernel.specs.Edits.{applied, carried_out, gathered, status_of}
use Rattle.kernel.specs.Loops.{answered}
use Rattle.kernel.specs.Tables.{held_at, thread_of, with_scheduler}
use Rattle.kernel.specs.Threads.{state_effect}
use Rattle.kernel.proofs.Laws.Answers.{is_carried}
use Rattle.kernel.proofs.Laws.Arms.{refused_for}
use Rattle.kernel.proofs.Kernel.thread_state_read.Goals as goal

pub returns-in-Err : goal.returns-in-Err
returns-in-Err c = refused_for _ _ _ c.refused.ensures c.from.ensures (cc c.in-Err.ensures)

pub returns : goal.returns
unfolding carried_out applied gathered status_of answer_of answered with_scheduler state_effect held_at
returns c =
    let a = c.args in
    let z : read_refusal (thread_of a.self a.t.0) ≡ 0 = cc c.in_default.ensures in
    rw is_carried (c.carried.ensures ∙ rw (c.two_words.ensures, c.record_in-h.ensures, c.of.ensures, c.thread_at-th.ensures))
