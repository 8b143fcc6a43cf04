use mathlib.Core.Path.{◌≡◌, refl, ap, ◌∙◌}
use mathlib.Core.List.{List}
use Prim.Native.Nat.{ℕ}
use native.Mathlib.Omega.{arith}
use borrow.Author.Rules.{rules}
use lib.ListN.{length, take, get_or, length-take}
use Rattle.std.proofs.lemmas.List.{take_all, take_more}
use Rattle.lines.specs.Loops.{tally}
use Rattle.lines.proofs.Laws.Lines.{length-members}
use Rattle.lines.proofs.Laws.Tallies.{slot-min, tally_small, tally_more}
use Rattle.lines.proofs.Line.tally.Goals as goal

pub loop-x-init : goal.loop-x-init
unfolding tally
loop-x-init c = refl

pub bounds-counts-slot : goal.bounds-counts-slot
bounds-counts-slot c = omega (arith, slot-min (get_or c.as_slice-x-items.result.now c.loop-x.x-index 0), c.slot.ensures)

pub overflow_add-counts : goal.overflow_add-counts
overflow_add-counts c =
    let e : length c.args.self.ids ≡ 32 = search rules in
    let xs = take c.loop-x.x-index c.as_slice-x-items.result.now in
    let k = ap (λ (r : List ℕ). get_or r c.slot.result 0) c.loop-x.invariant in
    omega (arith, k, tally_small c.slot.result xs, length-take c.loop-x.x-index c.as_slice-x-items.result.now, length-members c.args.self e, ap length c.as_slice-x-items.ensures)

pub bounds-counts-slot-in-loop-x : goal.bounds-counts-slot-in-loop-x
bounds-counts-slot-in-loop-x c = omega (arith, slot-min (get_or c.as_slice-x-items.result.now c.loop-x.x-index 0), c.slot.ensures)

pub loop-x-preserved : goal.loop-x-preserved
unfolding tally
loop-x-preserved c =
    let i = c.loop-x.x-index in
    let xs = c.as_slice-x-items.result.now in
    rw (take_more xs i 0 c.loop-x-test.true, tally_more (take i xs) (get_or xs i 0), ← c.loop-x.invariant, ← c.slot.ensures)

pub returns : goal.returns
returns c = c.loop-x.invariant ∙ ap tally (take_all _ _ c.loop-x-test.false ∙ c.as_slice-x-items.ensures)
