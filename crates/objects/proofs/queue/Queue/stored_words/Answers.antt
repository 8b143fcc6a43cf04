use mathlib.Core.Path.{◌≡◌}
use lib.ListN.{length}
use borrow.Author.Rules.{rules}
use Rattle.std.proofs.lemmas.List.{take_min}
use Rattle.objects.specs.Queues.{used_words, stored_words}
use Rattle.objects.proofs.queue.Queue.stored_words.Goals as goal

pub returns : goal.returns
unfolding stored_words
returns c =
    let q = c.args.self.now in
    let e : length q.store ≡ 64 = search rules in
    rw (c.used.ensures, ← e) (take_min (used_words q) q.store)
