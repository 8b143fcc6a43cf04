use mathlib.Core.Path.{ap, refl, ◌≡◌, ◌∙◌}
use Rattle.scheduler.specs.Orders.{line_at}
use Rattle.objects.specs.Queues.{no_queue}
use Rattle.calls.specs.Chains.{queue_delete_refusal}
use Rattle.calls.specs.Held.{no_words}
use Rattle.kernel.specs.Answers.{answer_of}
use Rattle.kernel.specs.Edits.{Cause, status_by}
use Rattle.kernel.specs.Effects.{close_effect}
use Rattle.kernel.specs.Kinds.{Kind, place_of}
use Rattle.kernel.specs.Tables.{queue_at, with_queue}
use Rattle.kernel.proofs.Laws.Answers.{is_carried}
use Rattle.kernel.proofs.Laws.Arms.{refused_for}
use Rattle.kernel.proofs.Laws.Waits.{closed}
use Rattle.kernel.proofs.Kernel.queue_delete.Goals as goal

pub returns-in-Err : goal.returns-in-Err
unfolding queue_at
returns-in-Err c = refused_for _ _ _ c.refused.ensures c.from.ensures (cc c.in-Err.ensures)

pub returns : goal.returns
unfolding close_effect status_by with_queue queue_at
returns c =
    let a = c.args in
    let z : queue_delete_refusal (queue_at a.self a.n.0) a.caller ≡ 0 = cc c.in_default.ensures in
    let line = line_at a.self.scheduler (place_of Kind.queue a.n.0) in
    let m = c.line_at-line.ensures.1 ∙ ap (line_at a.self.scheduler) c.queue.ensures in
    rw is_carried (c.ended_each.ensures (Cause.deleted Kind.queue a.n.0) (λ th h. refl)
    ∙ rw (m, c.store.ensures, c.none-2.ensures) (ap answer_of (closed _ no_words Kind.queue a.self a.n.0 no_queue line)))
