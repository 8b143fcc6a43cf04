use mathlib.Core.Path.{◌≡◌}
use native.Mathlib.Omega.{arith}
use borrow.Author.Rules.{rules}
use lib.ListN.{length}
use Rattle.lines.proofs.Laws.Lines.{length-members}
use Rattle.lines.proofs.Line.size.Goals as goal

pub returns : goal.returns
returns c =
    let e : length c.args.self.ids ≡ 32 = search rules in
    omega (arith, c.min.ensures, length-members c.args.self e)
