use Rattle.output.proofs.Laws.Decimals.{one_digit}
use Rattle.output.proofs.put_decimal.Goals as goal

pub returns-then-n-lt10 : goal.returns-then-n-lt10
returns-then-n-lt10 g c = rw (one_digit c.args.n c.if-n-lt10.true) c.put_byte.ensures
