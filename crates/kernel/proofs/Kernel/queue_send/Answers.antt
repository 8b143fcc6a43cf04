use mathlib.Core.Path.{ap, ◌≡◌, ◌∙◌}
use lib.ListN.{length}
use borrow.Author.Tests.{le-ltb, lt-ltb}
use Rattle.scheduler.specs.Orders.{first_at}
use Rattle.calls.specs.Chains.{send_refusal}
use Rattle.calls.specs.Held.{no_words}
use Rattle.kernel.specs.Answers.{answer_of}
use Rattle.kernel.specs.Edits.{applied, carried_out, edited, endsb, gathered, status_of}
use Rattle.kernel.specs.Effects.{give_effect, serve_effect, store_effect}
use Rattle.kernel.specs.Kinds.{Kind}
use Rattle.kernel.specs.Loops.{answered}
use Rattle.kernel.specs.Queues.{send_effect}
use Rattle.kernel.specs.Tables.{queue_at, with_queue, with_scheduler}
use Rattle.kernel.proofs.Laws.Answers.{is_carried}
use Rattle.kernel.proofs.Laws.Arms.{refused_for}
use Rattle.kernel.proofs.Kernel.queue_send.Goals as goal
use Rattle.kernel.proofs.Kernel.queue_send.Goals.{else-has_room, then-has_room+else-first-lt-NOBODY, then-has_room+then-first-lt-NOBODY}

pub returns-in-Err : goal.returns-in-Err
unfolding queue_at
returns-in-Err c = refused_for _ _ _ c.refused.ensures c.from.ensures (cc c.in-Err.ensures)

pub returns : goal.returns
unfolding carried_out applied gathered status_of answer_of answered with_scheduler edited endsb send_effect give_effect serve_effect store_effect with_queue queue_at
returns c =
    let a = c.args in
    let z : send_refusal (queue_at a.self a.n.0) a.index (length a.messages.now) a.wait a.caller ≡ 0 = cc c.in_default.ensures in
    let text = c.message_in-message in
    let i : c.record_in-q.result ≡ queue_at a.self a.n.0 = cc in
    let d = c.if-has_room in
    let m : answered d.self d.self.scheduler d.status.0 no_words d.status.1 ≡ answer_of (carried_out a.self (send_effect a.self a.n.0 a.wait a.front text.result)) =
    (elim d.branch [
      | then-has_room+then-first-lt-NOBODY w ↦ let f = w.first_at-first.ensures ∙ ap (first_at a.self.scheduler) w.queue.ensures in
          rw (w.self-is, w.status-is, ← i, ← c.has_room.ensures, w.if-has_room.true, ← f, lt-ltb _ _ w.if-first-lt-NOBODY.true, w.serve.ensures Kind.queue a.n.0)
      | then-has_room+else-first-lt-NOBODY w ↦ let f = w.first_at-first.ensures ∙ ap (first_at a.self.scheduler) w.queue.ensures in
          rw (w.self-is, w.status-is, ← i, ← c.has_room.ensures, w.if-has_room.true, ← f, le-ltb _ _ w.if-first-lt-NOBODY.false, w.store.ensures, w.with_sent.ensures)
      | else-has_room w ↦ rw (w.self-is, w.status-is, ← i, ← c.has_room.ensures, w.if-has_room.false, w.begin_wait.ensures, w.queue-else-has_room.ensures, w.sender.ensures)
    ]) in
    rw is_carried (c.carried.ensures ∙ m ∙ rw (text.ensures, i))
