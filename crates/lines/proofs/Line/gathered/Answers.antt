use mathlib.Core.Path.{sym, ap, ◌∙◌}
use mathlib.Core.List.{List, ◌++◌, []}
use Prim.Native.Nat.{ℕ}
use lib.ListN.{take, get_or}
use Rattle.std.proofs.lemmas.List.{take_all}
use Rattle.lines.specs.Lists.{filter, without, only_if}
use Rattle.lines.specs.Lines.{line_of}
use Rattle.lines.proofs.Laws.Lines.{pushes, gather_keep, gather_skip}
use Rattle.lines.proofs.Line.gathered.Goals as goal
use Rattle.lines.proofs.Line.gathered.Goals.{then-lead, else-lead, then-x-t, else-x-t}

pub loop-x-init : goal.loop-x-init
unfolding without filter
loop-x-init c =
    elim c.if-lead.branch [
      | then-lead w ↦ rw w.if-lead.true (w.l-is ∙ pushes [] c.args.t.0 w.push.ensures c.empty-l.ensures)
      | else-lead w ↦ rw w.if-lead.false (w.l-is ∙ c.empty-l.ensures)
    ]

pub loop-x-preserved : goal.loop-x-preserved
loop-x-preserved c =
    let i = c.loop-x.x-index in
    let xs = c.as_slice-x-items.result.now in
    let t = c.args.t.0 in
    let ys = only_if c.args.lead t in
    let h = c.loop-x-test.true in
    elim c.if-x-t.branch [
      | then-x-t w ↦ w.l-is ∙ pushes (ys ++ without t (take i xs)) (get_or xs i 0) w.push-then-x-t.ensures c.loop-x.invariant ∙ ap line_of (sym (gather_keep ys t xs i h w.if-x-t.true))
      | else-x-t w ↦ w.l-is ∙ c.loop-x.invariant ∙ ap line_of (sym (gather_skip ys t xs i h w.if-x-t.false))
    ]

pub returns : goal.returns
returns c =
    c.loop-x.invariant
    ∙ ap (λ (xs : List ℕ). line_of (only_if c.args.lead c.args.t.0 ++ without c.args.t.0 xs)) (take_all _ _ c.loop-x-test.false ∙ c.as_slice-x-items.ensures)
