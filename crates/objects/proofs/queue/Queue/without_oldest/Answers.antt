use mathlib.Core.List.{append-nil}
use Rattle.std.proofs.lemmas.List.{take_rest, drop_min}
use Rattle.lines.proofs.Laws.Slots.{filled_pad}
use Rattle.objects.specs.Queues.{without_oldest, storing}
use Rattle.objects.proofs.queue.Queue.without_oldest.Goals as goal

pub returns : goal.returns
unfolding without_oldest storing
returns c =
    rw (
      c.storing.ensures,
      c.packed-left.ensures,
      filled_pad,
      append-nil,
      take_rest,
      c.min-from.ensures,
      drop_min,
      c.stored_words-stored.ensures,
      c.saturating_sub.ensures,
    )
