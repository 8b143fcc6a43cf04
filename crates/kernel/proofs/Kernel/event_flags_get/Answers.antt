use mathlib.Core.Path.{◌≡◌, ◌∙◌}
use native.Mathlib.Omega.{arith}
use lib.Dec.{leb}
use borrow.Author.Tests.{leb-true}
use Rattle.objects.specs.Groups.{metb}
use Rattle.calls.specs.Chains.{get_refusal}
use Rattle.kernel.specs.Answers.{answer_of}
use Rattle.kernel.specs.Edits.{applied, carried_out, edited, endsb, gathered, status_of}
use Rattle.kernel.specs.Groups.{flags_get_effect}
use Rattle.kernel.specs.Loops.{answered}
use Rattle.kernel.specs.Tables.{group_at, with_group, with_scheduler}
use Rattle.kernel.proofs.Laws.Answers.{first_none, is_carried, second_none, unless_none}
use Rattle.kernel.proofs.Laws.Arms.{refused_for}
use Rattle.kernel.proofs.Kernel.event_flags_get.Goals as goal
use Rattle.kernel.proofs.Kernel.event_flags_get.Goals.{else-is_met, then-is_met}

pub returns-in-Err : goal.returns-in-Err
unfolding group_at
returns-in-Err c = refused_for _ _ _ c.refused.ensures c.from.ensures (cc c.in-Err.ensures)

pub returns : goal.returns
unfolding carried_out applied gathered status_of answer_of answered with_scheduler edited endsb flags_get_effect get_refusal with_group group_at
returns c =
    let a = c.args in
    let z : get_refusal (group_at a.self a.n.0) a.request a.option a.wait a.caller ≡ 0 = cc c.in_default.ensures in
    let i : c.record_in-g.result ≡ group_at a.self a.n.0 = cc in
    let known = leb-true a.option 3 (unless_none (leb a.option 3) 8 (omega arith) (first_none _ _ (second_none _ _ z))) in
    let o : c.option_of-o.result ≡ a.option = (let h = c.option_of-o.ensures in omega (arith, h, known)) in
    let t : c.is_met.result ≡ metb (group_at a.self a.n.0).flags a.request a.option = c.is_met.ensures ∙ (λ j. metb (i j).flags a.request (o j)) in
    let d = c.if-is_met in
    let m : answered d.self d.self.scheduler d.status.0 d.status.1 0 ≡ answer_of (carried_out a.self (flags_get_effect a.self a.n.0 a.request a.option a.wait)) =
    (elim d.branch [
      | then-is_met w ↦ rw (w.self-is, w.status-is, ← t, w.if-is_met.true) (rw (w.store.ensures, w.of.ensures, w.less.ensures, w.cleared_by.ensures, w.two_words.ensures, o, i))
      | else-is_met w ↦ rw (w.self-is, w.status-is, ← t, w.if-is_met.false, w.begin_wait.ensures, w.group.ensures, w.requester.ensures, o)
    ]) in
    rw is_carried (c.carried.ensures ∙ m)
