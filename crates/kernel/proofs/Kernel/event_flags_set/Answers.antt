use mathlib.Core.Path.{◌≡◌, ◌∙◌}
use borrow.Author.Tests.{eq-eqb, ne_eqb}
use Rattle.calls.specs.Chains.{set_refusal}
use Rattle.calls.specs.Held.{no_words}
use Rattle.calls.specs.Statuses.{success}
use Rattle.kernel.specs.Answers.{answer_of}
use Rattle.kernel.specs.Edits.{applied, carried_out, edited, gathered, status_of}
use Rattle.kernel.specs.Effects.{store_effect}
use Rattle.kernel.specs.Groups.{set_effect}
use Rattle.kernel.specs.Loops.{answered}
use Rattle.kernel.specs.Tables.{group_at, with_group, with_scheduler}
use Rattle.kernel.proofs.Laws.Answers.{is_carried}
use Rattle.kernel.proofs.Laws.Arms.{refused_for}
use Rattle.kernel.proofs.Kernel.event_flags_set.Goals as goal
use Rattle.kernel.proofs.Kernel.event_flags_set.Goals.{else-option-eq0, then-option-eq0}

pub returns-in-Err : goal.returns-in-Err
unfolding group_at
returns-in-Err c = refused_for _ _ _ c.refused.ensures c.from.ensures (cc c.in-Err.ensures)

pub returns : goal.returns
unfolding carried_out applied gathered status_of answer_of answered with_scheduler edited set_effect store_effect with_group group_at
returns c =
    let a = c.args in
    let z : set_refusal (group_at a.self a.n.0) a.option ≡ 0 = cc c.in_default.ensures in
    let i : c.record_in-g.result ≡ group_at a.self a.n.0 = cc in
    let d = c.if-option-eq0 in
    let m : answered d.self d.self.scheduler success no_words d.ended ≡ answer_of (carried_out a.self (set_effect a.self a.n.0 a.flags a.option)) =
    (elim d.branch [
      | then-option-eq0 w ↦ rw (w.self-is, w.ended-is, eq-eqb a.option 0 w.if-option-eq0.true, ← i) w.set_or-ended.ensures
      | else-option-eq0 w ↦ rw (w.self-is, w.ended-is, ne_eqb a.option 0 w.if-option-eq0.false, w.store.ensures, w.of.ensures, i)
    ]) in
    rw is_carried (c.carried.ensures ∙ m)
