use mathlib.Core.Path.{ap, refl, ◌≡◌, ◌∙◌}
use Rattle.scheduler.specs.Orders.{line_at}
use Rattle.objects.specs.Semaphores.{no_semaphore}
use Rattle.calls.specs.Chains.{semaphore_delete_refusal}
use Rattle.calls.specs.Held.{no_words}
use Rattle.kernel.specs.Answers.{answer_of}
use Rattle.kernel.specs.Edits.{Cause, status_by}
use Rattle.kernel.specs.Effects.{close_effect}
use Rattle.kernel.specs.Kinds.{Kind, place_of}
use Rattle.kernel.specs.Tables.{semaphore_at, with_semaphore}
use Rattle.kernel.proofs.Laws.Answers.{is_carried}
use Rattle.kernel.proofs.Laws.Arms.{refused_for}
use Rattle.kernel.proofs.Laws.Waits.{closed}
use Rattle.kernel.proofs.Kernel.semaphore_delete.Goals as goal

pub returns-in-Err : goal.returns-in-Err
unfolding semaphore_at
returns-in-Err c = refused_for _ _ _ c.refused.ensures c.from.ensures (cc c.in-Err.ensures)

pub returns : goal.returns
unfolding close_effect status_by with_semaphore semaphore_at
returns c =
    let a = c.args in
    let z : semaphore_delete_refusal (semaphore_at a.self a.n.0) a.caller ≡ 0 = cc c.in_default.ensures in
    let line = line_at a.self.scheduler (place_of Kind.semaphore a.n.0) in
    let m = c.line_at-line.ensures.1 ∙ ap (line_at a.self.scheduler) c.semaphore.ensures in
    rw is_carried (c.ended_each.ensures (Cause.deleted Kind.semaphore a.n.0) (λ th h. refl)
    ∙ rw (m, c.store.ensures, c.none-2.ensures) (ap answer_of (closed _ no_words Kind.semaphore a.self a.n.0 no_semaphore line)))
