use mathlib.Core.Path.{ap, ◌≡◌, ◌∙◌}
use borrow.Author.Tests.{le-ltb, lt-ltb}
use Rattle.scheduler.specs.Orders.{first_at}
use Rattle.calls.specs.Chains.{receive_refusal}
use Rattle.kernel.specs.Answers.{answer_of}
use Rattle.kernel.specs.Edits.{applied, carried_out, edited, endsb, gathered, status_of}
use Rattle.kernel.specs.Effects.{ends_each}
use Rattle.kernel.specs.Kinds.{Kind}
use Rattle.kernel.specs.Loops.{answered}
use Rattle.kernel.specs.Queues.{past_effect, receive_effect}
use Rattle.kernel.specs.Tables.{held_at, queue_at, with_queue, with_scheduler}
use Rattle.kernel.proofs.Laws.Answers.{is_carried}
use Rattle.kernel.proofs.Laws.Arms.{refused_for}
use Rattle.kernel.proofs.Kernel.queue_receive.Goals as goal
use Rattle.kernel.proofs.Kernel.queue_receive.Goals.{else-is_empty+else-first-lt-NOBODY, else-is_empty+then-first-lt-NOBODY, then-is_empty}

pub returns-in-Err : goal.returns-in-Err
unfolding queue_at
returns-in-Err c = refused_for _ _ _ c.refused.ensures c.from.ensures (cc c.in-Err.ensures)

pub returns : goal.returns
unfolding carried_out applied gathered status_of answer_of answered with_scheduler edited endsb receive_effect past_effect ends_each with_queue held_at queue_at
returns c =
    let a = c.args in
    let z : receive_refusal (queue_at a.self a.n.0) a.wait a.caller ≡ 0 = cc c.in_default.ensures in
    let i : c.record_in-q.result ≡ queue_at a.self a.n.0 = cc in
    let d = c.if-is_empty in
    let m : answered d.self d.self.scheduler d.status.0 d.status.1 d.status.2 ≡ answer_of (carried_out a.self (receive_effect a.self a.n.0 a.wait)) =
    (elim d.branch [
      | then-is_empty w ↦ rw (w.self-is, w.status-is, ← i, ← c.is_empty.ensures, w.if-is_empty.true, w.begin_wait.ensures, w.queue.ensures, w.of.ensures)
      | else-is_empty+then-first-lt-NOBODY w ↦ let f = w.first_at-first.ensures ∙ ap (first_at a.self.scheduler) w.queue-else-is_empty.ensures in
          let h : w.record_in-sender.result ≡ held_at a.self w.first_at-first.result.0 = w.record_in-sender.ensures ∙ rw w.of-then-first-lt-NOBODY.ensures in
          rw (w.self-is, w.status-is, ← i, ← c.is_empty.ensures, w.if-is_empty.false, ← f, lt-ltb _ _ w.if-first-lt-NOBODY.true, w.store.ensures, w.serve.ensures Kind.queue a.n.0, w.given_past.ensures, w.left_past.ensures, w.message-message.ensures, h)
      | else-is_empty+else-first-lt-NOBODY w ↦ let f = w.first_at-first.ensures ∙ ap (first_at a.self.scheduler) w.queue-else-is_empty.ensures in
          rw (w.self-is, w.status-is, ← i, ← c.is_empty.ensures, w.if-is_empty.false, ← f, le-ltb _ _ w.if-first-lt-NOBODY.false, w.store-else-first-lt-NOBODY.ensures, w.oldest.ensures, w.without_oldest.ensures)
    ]) in
    rw is_carried (c.carried.ensures ∙ m)
