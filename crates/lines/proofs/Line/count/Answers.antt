use mathlib.Core.Path.{◌≡◌, refl, ap, ◌∙◌}
use native.Mathlib.Omega.{arith}
use borrow.Author.Rules.{rules}
use borrow.Author.Tests.{eq-eqb, ne_eqb}
use lib.ListN.{take, get_or, length}
use Rattle.std.proofs.lemmas.List.{take_all, take_more}
use Rattle.lines.specs.Logic.{one_if}
use Rattle.lines.specs.Lists.{count}
use Rattle.lines.proofs.Laws.Lists.{count_one}
use Rattle.lines.proofs.Laws.Lines.{length-members}
use Rattle.lines.proofs.Line.count.Goals as goal
use Rattle.lines.proofs.Line.count.Goals.{then-x-t, else-x-t}

pub loop-x-init : goal.loop-x-init
unfolding count
loop-x-init c = (refl, omega arith)

pub overflow_add-k : goal.overflow_add-k
overflow_add-k c =
    let e : length c.args.self.ids ≡ 32 = search rules in
    omega (arith, length-members c.args.self e, ap length c.as_slice-x-items.ensures)

pub loop-x-preserved : goal.loop-x-preserved
unfolding one_if
loop-x-preserved c =
    let i = c.loop-x.x-index in
    let xs = c.as_slice-x-items.result.now in
    let t = c.args.t.0 in
    let x = get_or xs i 0 in
    let m = ap (count t) (take_more xs i 0 c.loop-x-test.true) in
    let o = count_one t x (take i xs) in
    elim c.if-x-t.branch [
      | then-x-t w ↦ let q = ap one_if (eq-eqb x t w.if-x-t.true) in (omega (arith, m, o, q), omega arith)
      | else-x-t w ↦ let q = ap one_if (ne_eqb x t w.if-x-t.false) in (omega (arith, m, o, q), omega arith)
    ]

pub returns : goal.returns
returns c = c.loop-x.invariant.0 ∙ ap (count c.args.t.0) (take_all _ _ c.loop-x-test.false ∙ c.as_slice-x-items.ensures)
