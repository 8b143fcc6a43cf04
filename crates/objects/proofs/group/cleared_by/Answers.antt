use Rattle.std.proofs.Common.{arith}
use Rattle.std.proofs.lemmas.Bool.Decides.{nat_tests}
use Rattle.objects.specs.Groups.{clearsb, clear_of}
use Rattle.objects.proofs.group.cleared_by.Goals as goal

pub returns-in-1 : goal.returns-in-1
unfolding clear_of clearsb
returns-in-1 c = grind (arith, nat_tests)

pub returns-in_default : goal.returns-in_default
unfolding clear_of clearsb
returns-in_default c = grind (arith, nat_tests)
