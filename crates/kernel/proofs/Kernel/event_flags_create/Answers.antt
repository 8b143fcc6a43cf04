use mathlib.Core.Path.{◌≡◌, ◌∙◌}
use Rattle.calls.specs.Chains.{group_create_refusal}
use Rattle.kernel.specs.Answers.{answer_of}
use Rattle.kernel.specs.Edits.{applied, carried_out, edited, gathered, status_of}
use Rattle.kernel.specs.Effects.{store_effect}
use Rattle.kernel.specs.Loops.{answered}
use Rattle.kernel.specs.Tables.{group_at, with_group, with_scheduler}
use Rattle.kernel.proofs.Laws.Answers.{is_carried}
use Rattle.kernel.proofs.Laws.Arms.{refused_for}
use Rattle.kernel.proofs.Kernel.event_flags_create.Goals as goal

pub returns-in-Err : goal.returns-in-Err
unfolding group_at
returns-in-Err c = refused_for _ _ _ c.refused.ensures c.from.ensures (cc c.in-Err.ensures)

pub returns : goal.returns
unfolding carried_out applied gathered status_of answer_of answered with_scheduler edited store_effect with_group group_at
returns c =
    let a = c.args in
    let z : group_create_refusal a.n.0 (group_at a.self a.n.0) a.caller ≡ 0 = cc c.in_default.ensures in
    rw is_carried (c.carried.ensures ∙ rw (c.store.ensures, c.of.ensures))
