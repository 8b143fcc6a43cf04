use mathlib.Core.Path.{◌≡◌, ap, ◌∙◌}
use Prim.Native.Nat.{ℕ}
use native.Mathlib.Omega.{arith}
use borrow.Author.Rules.{rules}
use lib.ListN.{length, take}
use Rattle.lines.proofs.Laws.Lines.{length-members, members-take}
use Rattle.lines.proofs.Line.as_slice.Goals as goal

pub shared_ref_as_front-result : goal.shared_ref_as_front-result
shared_ref_as_front-result c =
    let l = c.args.self.now in
    let e : length l.ids ≡ 32 = search rules in
    omega (arith, c.size.ensures, length-members l e)

pub returns : goal.returns
returns c =
    let l = c.args.self.now in
    ap (λ (j : ℕ). take j l.ids) c.size.ensures ∙ members-take l
