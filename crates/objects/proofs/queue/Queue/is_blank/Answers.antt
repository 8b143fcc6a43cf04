use mathlib.Core.Path.{◌∙◌, refl}
use borrow.Author.Rules.{rules}
use Rattle.lines.proofs.Laws.Slots.{zero_rest}
use Rattle.objects.proofs.queue.Queue.is_blank.Goals as goal

pub returns : goal.returns
returns c = c.are_blank.ensures ∙ zero_rest 0 0 c.args.self.store (search rules) refl
