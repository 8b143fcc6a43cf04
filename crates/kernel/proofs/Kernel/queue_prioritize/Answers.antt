use mathlib.Core.Path.{◌≡◌, ◌∙◌}
use Rattle.calls.specs.Chains.{queue_refusal}
use Rattle.kernel.specs.Answers.{answer_of}
use Rattle.kernel.specs.Edits.{applied, carried_out, edited, gathered, status_of}
use Rattle.kernel.specs.Effects.{rank_effect}
use Rattle.kernel.specs.Loops.{answered}
use Rattle.kernel.specs.Tables.{queue_at, with_scheduler}
use Rattle.kernel.proofs.Laws.Answers.{is_carried}
use Rattle.kernel.proofs.Laws.Arms.{refused_for}
use Rattle.kernel.proofs.Kernel.queue_prioritize.Goals as goal

pub returns-in-Err : goal.returns-in-Err
unfolding queue_at
returns-in-Err c = refused_for _ _ _ c.refused.ensures c.from.ensures (cc c.in-Err.ensures)

pub returns : goal.returns
unfolding carried_out applied gathered status_of answer_of answered with_scheduler edited rank_effect queue_at
returns c =
    let a = c.args in
    let z : queue_refusal (queue_at a.self a.n.0) ≡ 0 = cc c.in_default.ensures in
    rw is_carried (c.carried.ensures ∙ rw (c.prioritised-s.ensures, c.queue-2.ensures))
