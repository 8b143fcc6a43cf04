use mathlib.Core.Path.{sym, ap, ◌∙◌}
use mathlib.Core.Bool.{Bool, true, false, ◌&&◌}
use Prim.Native.Nat.{◌≤◌, ◌<◌}
use native.Mathlib.Omega.{arith}
use lib.Dec.{eqb, leb}
use Rattle.lines.specs.Logic.{one_if}
use Rattle.scheduler.specs.Sound.{fitb}
use Rattle.scheduler.proofs.Laws.Threads.{fit-uncreated}
use Rattle.scheduler.proofs.Laws.States.{paused_in}
use Rattle.scheduler.proofs.Laws.Placing.{not-ready, none_stands-uncreated, rest_stands, wait_stands, ready_in, rests_in, placed-ready, placed_other}
use Rattle.scheduler.proofs.thread.Thread.is_placed.Goals as goal

pub returns-then-self-eq-READY : goal.returns-then-self-eq-READY
unfolding one_if
returns-then-self-eq-READY c =
    let a = c.args in
    let made = c.if-self.true in
    let r = ready_in a.self made c.if-self-eq-READY.true in
    ap (λ (b : Bool). eqb a.n 1 && b) (c.is_fit_ready.ensures ∙ ap (λ (b : Bool). b && fitb a.self && leb a.limit a.self.priority) r) ∙ placed-ready a.n a.limit a.self r

pub returns-then-self-lt-ASLEEP : goal.returns-then-self-lt-ASLEEP
unfolding one_if
returns-then-self-lt-ASLEEP c =
    let a = c.args in
    let l : 0 < a.self.state = omega arith in
    let h = c.if-self-lt-ASLEEP.true in
    ap (λ (b : Bool). eqb a.n 0 && b) (c.is_fit_resting.ensures ∙ ap (λ (b : Bool). b && fitb a.self) (rests_in a.self c.if-self.true l h))
    ∙ placed_other a.n a.limit a.self false (rest_stands a.self l (omega arith)) (not-ready a.self l)

pub returns-then-self-eq-ASLEEP : goal.returns-then-self-eq-ASLEEP
unfolding one_if
returns-then-self-eq-ASLEEP c =
    let a = c.args in
    let l : 0 < a.self.state = omega arith in
    let h : 4 ≤ a.self.state = omega arith in
    ap (λ (b : Bool). eqb a.n 0 && b) (c.is_fit_paused.ensures ∙ ap (λ (b : Bool). b && fitb a.self) (paused_in a.self c.if-self.true h))
    ∙ placed_other a.n a.limit a.self false (rest_stands a.self l (omega arith)) (not-ready a.self l)

pub returns-then-self : goal.returns-then-self
unfolding one_if
returns-then-self c =
    let a = c.args in
    let made = c.if-self.true in
    let l : 0 < a.self.state = omega arith in
    let h : 4 < a.self.state = omega arith in
    let w : 4 ≤ a.self.state = omega arith in
    ap (λ (b : Bool). eqb a.n 1 && b) (c.is_fit_paused-then-self.ensures ∙ ap (λ (b : Bool). b && fitb a.self) (paused_in a.self made w))
    ∙ placed_other a.n a.limit a.self true (wait_stands a.self made h) (not-ready a.self l)

pub returns : goal.returns
unfolding one_if
returns c =
    let a = c.args in
    let u = none_stands-uncreated a.self c.if-self.false in
    ap (λ (b : Bool). eqb a.n 0 && b) (c.is_zero.ensures ∙ sym (fit-uncreated a.self c.if-self.false))
    ∙ placed_other a.n a.limit a.self false u.1 u.0
