use borrow.Author.Tests.{lt-ltb, le-ltb}
use Rattle.objects.specs.Groups.{or_optionb, some_setb, all_setb, metb}
use Rattle.objects.proofs.group.is_met.Goals as goal

pub returns-then-option-lt-AND : goal.returns-then-option-lt-AND
unfolding metb or_optionb some_setb all_setb
returns-then-option-lt-AND c = rw (lt-ltb _ _ c.if-option-lt-AND.true)

pub returns-else-option-lt-AND : goal.returns-else-option-lt-AND
unfolding metb or_optionb some_setb all_setb
returns-else-option-lt-AND c = rw (le-ltb _ _ c.if-option-lt-AND.false)
