use mathlib.Core.Path.{◌≡◌, ◌∙◌}
use Rattle.calls.specs.Chains.{semaphore_create_refusal}
use Rattle.kernel.specs.Answers.{answer_of}
use Rattle.kernel.specs.Edits.{applied, carried_out, edited, gathered, status_of}
use Rattle.kernel.specs.Effects.{store_effect}
use Rattle.kernel.specs.Loops.{answered}
use Rattle.kernel.specs.Tables.{semaphore_at, with_scheduler, with_semaphore}
use Rattle.kernel.proofs.Laws.Answers.{is_carried}
use Rattle.kernel.proofs.Laws.Arms.{refused_for}
use Rattle.kernel.proofs.Kernel.semaphore_create.Goals as goal

pub returns-in-Err : goal.returns-in-Err
unfolding semaphore_at
returns-in-Err c = refused_for _ _ _ c.refused.ensures c.from.ensures (cc c.in-Err.ensures)

pub returns : goal.returns
unfolding carried_out applied gathered status_of answer_of answered with_scheduler edited store_effect with_semaphore semaphore_at
returns c =
    let a = c.args in
    let z : semaphore_create_refusal a.n.0 (semaphore_at a.self a.n.0) a.caller ≡ 0 = cc c.in_default.ensures in
    rw is_carried (c.carried.ensures ∙ rw (c.store.ensures, c.counting.ensures))
