use Rattle.std.proofs.Common.{arith, sym, ◌∙◌, eq-eqb, ne_eqb}
use borrow.Author.Tests.{not-true, not-false}
use Rattle.calls.specs.Statuses as Statuses
use Rattle.waiting.specs.Fit.{paused_fitb}
use Rattle.waiting.proofs.Laws.Fit.{paused-status, paused_queue, paused-flags, paused_other}
use mathlib.Core.Path.{ap}
use mathlib.Core.Bool.{not}
use Rattle.waiting.proofs.fit.paused_fits.Goals as goal

pub returns-then-not-is_paused : goal.returns-then-not-is_paused
unfolding paused_fitb
returns-then-not-is_paused c =
    let m = c.is_paused in
    rw (sym m.ensures ∙ not-true m.result (ap not c.if-not-is_paused.true))

pub returns-then-h-ne-WAITING : goal.returns-then-h-ne-WAITING
returns-then-h-ne-WAITING c =
    let a = c.args in
    let m = c.is_paused in
    let p = sym m.ensures ∙ not-false m.result (ap not c.if-not-is_paused.false) in
    sym (paused-status a.h a.th p (ne_eqb a.h.status Statuses.waiting c.if-h-ne-WAITING.true))

pub returns-in-5 : goal.returns-in-5
returns-in-5 c =
    let a = c.args in
    let m = c.is_paused in
    let p = sym m.ensures ∙ not-false m.result (ap not c.if-not-is_paused.false) in
    let e = eq-eqb a.h.status Statuses.waiting c.if-h-ne-WAITING.false in
    rw c.is_blank.ensures (paused_queue a.h a.th p e c.in-5.is)

pub returns-in-7 : goal.returns-in-7
returns-in-7 c =
    let a = c.args in
    let m = c.is_paused in
    let p = sym m.ensures ∙ not-false m.result (ap not c.if-not-is_paused.false) in
    let e = eq-eqb a.h.status Statuses.waiting c.if-h-ne-WAITING.false in
    rw c.is_blank.ensures (paused-flags a.h a.th p e c.in-7.is)

pub returns-in_default : goal.returns-in_default
returns-in_default c =
    let a = c.args in
    let m = c.is_paused in
    let p = sym m.ensures ∙ not-false m.result (ap not c.if-not-is_paused.false) in
    let e = eq-eqb a.h.status Statuses.waiting c.if-h-ne-WAITING.false in
    rw c.is_blank.ensures (paused_other a.h a.th p e (λ z. omega (arith, z)) (λ z. omega (arith, z)))
