use mathlib.Core.List.{append-nil}
use Rattle.std.proofs.lemmas.List.{take_min}
use Rattle.lines.proofs.Laws.Slots.{filled_pad}
use Rattle.objects.specs.Queues.{oldest}
use Rattle.objects.proofs.queue.Queue.oldest.Goals as goal

pub returns : goal.returns
unfolding oldest
returns c = rw (c.packed.ensures, filled_pad, append-nil, c.min-size.ensures, take_min, c.stored_words-stored.ensures)
