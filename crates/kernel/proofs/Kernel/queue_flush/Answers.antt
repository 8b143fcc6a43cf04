use mathlib.Core.Bool.{false, true}
use mathlib.Core.Path.{ap, refl, ◌≡◌, ◌∙◌}
use Rattle.scheduler.specs.Orders.{line_at}
use Rattle.objects.specs.Queues.{emptyb, flushed}
use Rattle.calls.specs.Chains.{queue_refusal}
use Rattle.calls.specs.Held.{no_words}
use Rattle.kernel.specs.Answers.{answer_of}
use Rattle.kernel.specs.Edits.{Cause, applied, carried_out, gathered, status_by, status_of}
use Rattle.kernel.specs.Effects.{close_effect}
use Rattle.kernel.specs.Kinds.{Kind, place_of}
use Rattle.kernel.specs.Loops.{answered}
use Rattle.kernel.specs.Queues.{flush_effect}
use Rattle.kernel.specs.Tables.{queue_at, with_queue, with_scheduler}
use Rattle.kernel.proofs.Laws.Answers.{is_carried}
use Rattle.kernel.proofs.Laws.Arms.{refused_for}
use Rattle.kernel.proofs.Laws.Waits.{closed}
use Rattle.kernel.proofs.Kernel.queue_flush.Goals as goal

pub returns-in-Err : goal.returns-in-Err
unfolding queue_at
returns-in-Err c = refused_for _ _ _ c.refused.ensures c.from.ensures (cc c.in-Err.ensures)

pub returns-then-is_empty : goal.returns-then-is_empty
unfolding carried_out applied gathered status_of answer_of answered with_scheduler flush_effect queue_at
returns-then-is_empty c =
    let a = c.args in
    let z : queue_refusal (queue_at a.self a.n.0) ≡ 0 = cc c.in_default.ensures in
    let t : emptyb (queue_at a.self a.n.0) ≡ true = cc in
    rw (is_carried, t) c.carried.ensures

pub returns : goal.returns
unfolding close_effect flush_effect status_by with_queue queue_at
returns c =
    let a = c.args in
    let z : queue_refusal (queue_at a.self a.n.0) ≡ 0 = cc c.in_default.ensures in
    let i : c.record_in-q.result ≡ queue_at a.self a.n.0 = cc in
    let t : emptyb (queue_at a.self a.n.0) ≡ false = cc in
    let line = line_at a.self.scheduler (place_of Kind.queue a.n.0) in
    let m = c.line_at-line.ensures.1 ∙ ap (line_at a.self.scheduler) c.queue-2.ensures in
    rw (is_carried, t) (c.ended_each.ensures (Cause.served Kind.queue a.n.0) (λ th h. refl)
    ∙ rw (m, c.store.ensures, c.flushed.ensures, i) (ap answer_of (closed _ no_words Kind.queue a.self a.n.0 (flushed (queue_at a.self a.n.0)) line)))
