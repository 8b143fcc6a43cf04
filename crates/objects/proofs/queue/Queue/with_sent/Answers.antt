use mathlib.Core.Path.{◌≡◌, sym, ◌∙◌}
use mathlib.Core.Bool.{true}
use native.Mathlib.Omega.{arith}
use borrow.Author.Rules.{rules}
use lib.ListN.{length}
use Rattle.objects.specs.Queues.{roomb, storing}
use Rattle.std.proofs.lemmas.List.{take_min}
use Rattle.lines.proofs.Laws.Slots.{filled_pad}
use Rattle.objects.proofs.Laws.Queues.{sent_room, sent_full, room_byte}
use Rattle.objects.proofs.queue.Queue.with_sent.Goals as goal
use Rattle.objects.proofs.queue.Queue.with_sent.Goals.{then-front, else-front}

pub returns-then-not-has_room : goal.returns-then-not-has_room
returns-then-not-has_room c =
    let a = c.args in
    sym (sent_full a.self a.front a.message (sym c.has_room.ensures ∙ c.if-not-has_room.true))

pub overflow_add-self : goal.overflow_add-self
overflow_add-self c =
    let r : roomb c.args.self ≡ true = sym c.has_room.ensures ∙ c.if-not-has_room.false in
    let l = room_byte c.args.self (search rules) r in
    record { fits = omega (arith, l) }

pub returns : goal.returns
unfolding storing
returns c =
    let a = c.args in
    let r : roomb a.self ≡ true = sym c.has_room.ensures ∙ c.if-not-has_room.false in
    let m : length a.message ≡ 16 = search rules in
    elim c.if-front.branch [
      | then-front w ↦ rw (c.storing.ensures, w.store-is, w.packed-store.ensures, filled_pad, sent_room a.self a.front a.message r, w.if-front.true, c.min-size.ensures, ← m, take_min, c.stored_words-stored.ensures)
      | else-front w ↦ rw (c.storing.ensures, w.store-is, w.packed-store-else-front.ensures, filled_pad, sent_room a.self a.front a.message r, w.if-front.false, c.min-size.ensures, ← m, take_min, c.stored_words-stored.ensures)
    ]
