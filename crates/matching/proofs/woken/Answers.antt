use mathlib.Core.Path.{◌≡◌, refl, sym, ◌∙◌}
use mathlib.Core.Bool.{true, false}
use native.Mathlib.Omega.{arith}
use lib.ListN.{take, get_or}
use Rattle.lines.specs.Lists.{filter, union_of}
use Rattle.lines.proofs.Laws.Lines.{pushes}
use Rattle.matching.specs.Loops.{met_atb, woken_of, clears_of}
use Rattle.matching.proofs.Laws.Steps.{unknown, woken_more, woken_same, clears_more, clears_same}
use Rattle.matching.proofs.woken.Goals as goal
use Rattle.matching.proofs.woken.Goals.{then-t-lt-THREADS+then-is_met, then-t-lt-THREADS+else-is_met, else-t-lt-THREADS}

pub loop-x-init : goal.loop-x-init
unfolding woken_of filter clears_of union_of
loop-x-init c = (c.empty-woken.ensures, refl)

pub loop-x-preserved : goal.loop-x-preserved
unfolding met_atb
loop-x-preserved c =
    let a = c.args in
    let l = c.loop-x in
    let i = l.x-index in
    let xs = c.as_slice-x-items.result.now in
    let h = c.loop-x-test.true in
    elim c.if-t-lt-THREADS.branch [
      | then-t-lt-THREADS+then-is_met w ↦
          let y : met_atb a.flags a.requests a.options (get_or xs i 0) ≡ true = sym w.is_met.ensures ∙ w.if-is_met.true in
          let m = pushes (woken_of a.flags a.requests a.options (take i xs)) (get_or xs i 0) w.push.ensures l.invariant.0 in
          rw (w.woken-is, w.clears-is, w.cleared_by-clears.ensures, l.invariant.1, woken_more a.flags a.requests a.options xs i h y, clears_more a.flags a.requests a.options xs i h y)
          (m, refl)
      | then-t-lt-THREADS+else-is_met w ↦
          let y : met_atb a.flags a.requests a.options (get_or xs i 0) ≡ false = sym w.is_met.ensures ∙ w.if-is_met.false in
          rw (w.woken-is, w.clears-is, woken_same a.flags a.requests a.options xs i h y, clears_same a.flags a.requests a.options xs i h y) l.invariant
      | else-t-lt-THREADS w ↦
          let y = unknown a.flags a.requests a.options (get_or xs i 0) (omega arith) in
          rw (w.woken-is, w.clears-is, woken_same a.flags a.requests a.options xs i h y, clears_same a.flags a.requests a.options xs i h y) l.invariant
    ]
