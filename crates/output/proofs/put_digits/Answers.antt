use Rattle.std.proofs.Common.{◌∙◌}
use Rattle.output.proofs.Laws.Decimals.{digits-all}
use Rattle.output.proofs.put_digits.Goals as goal

pub returns : goal.returns
returns g c =
    let d = c.decimal-k.ensures in
    rw (d.digits ∙ digits-all c.decimal-k.result c.args.n c.ranges.n.fits d.len) at c.put_text.ensures
