use mathlib.Core.Path.{ap, ◌∙◌}
use mathlib.Core.Bool.{not}
use Rattle.kernel.specs.Answers.{answer_of}
use Rattle.kernel.specs.General.{unsound}
use Rattle.kernel.proofs.Laws.Arms.{on-unsound, on_sound, on_unknown, on_known}
use Rattle.kernel.proofs.Kernel.call.Goals as goal

pub returns-then-not-is_sound : goal.returns-then-not-is_sound
unfolding unsound
returns-then-not-is_sound c = on-unsound _ _ _ c.is_sound.ensures (ap not c.if-not-is_sound.true)

pub returns-in_default : goal.returns-in_default
unfolding unsound
returns-in_default c =
    let x = c.args in
    let u = on_unknown _ _ _ c.decode.ensures c.in_default.is in
    c.refused.ensures ∙ ap answer_of u ∙ on_sound x.self x.request x.messages.now c.is_sound.ensures (ap not c.if-not-is_sound.false)

pub returns : goal.returns
unfolding unsound
returns c =
    let x = c.args in
    let u = on_known _ _ _ c.decode.ensures c.in-Some.is in
    c.step.ensures ∙ ap answer_of u ∙ on_sound x.self x.request x.messages.now c.is_sound.ensures (ap not c.if-not-is_sound.false)
