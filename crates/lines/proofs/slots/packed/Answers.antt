use Rattle.std.proofs.Common.{rules, arith}
use Rattle.std.proofs.lemmas.List.{same_lists, places}
use Rattle.lines.specs.Slots.{filled}
use Rattle.lines.proofs.slots.packed.Goals as goal

pub returns : goal.returns
unfolding filled
returns g c = same_lists _ _ (search (rules, places)) (λ k d h. grind (arith, places))
