use mathlib.Core.Path.{sym, ◌∙◌}
use Rattle.objects.specs.Queues.{store_fitb}
use Rattle.objects.proofs.Laws.Queues
use Rattle.objects.proofs.queue.Queue.is_fit.Goals as goal

pub returns-then-self : goal.returns-then-self
unfolding store_fitb
returns-then-self c = rw (c.is_limited.ensures, c.capacity-room.ensures, c.is_clean-clean.ensures) (sym (Queues.fit-created c.args.self c.if-self.true))

pub returns-else-self : goal.returns-else-self
returns-else-self c = rw c.is_clean-clean.ensures (Queues.zero-store c.args.self ∙ sym (Queues.fit-uncreated c.args.self c.if-self.false))
