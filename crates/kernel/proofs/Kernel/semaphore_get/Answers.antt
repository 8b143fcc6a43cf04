use mathlib.Core.Path.{◌≡◌, ◌∙◌}
use borrow.Author.Tests.{le-ltb, lt-ltb}
use Rattle.calls.specs.Chains.{semaphore_get_refusal}
use Rattle.calls.specs.Held.{no_words}
use Rattle.kernel.specs.Answers.{answer_of}
use Rattle.kernel.specs.Edits.{applied, carried_out, edited, endsb, gathered, status_of}
use Rattle.kernel.specs.Effects.{take_effect}
use Rattle.kernel.specs.Loops.{answered}
use Rattle.kernel.specs.Semaphores.{semaphore_get_effect}
use Rattle.kernel.specs.Tables.{semaphore_at, with_scheduler, with_semaphore}
use Rattle.kernel.proofs.Laws.Answers.{is_carried}
use Rattle.kernel.proofs.Laws.Arms.{refused_for}
use Rattle.kernel.proofs.Kernel.semaphore_get.Goals as goal
use Rattle.kernel.proofs.Kernel.semaphore_get.Goals.{else-x-gt0, then-x-gt0}

pub returns-in-Err : goal.returns-in-Err
unfolding semaphore_at
returns-in-Err c = refused_for _ _ _ c.refused.ensures c.from.ensures (cc c.in-Err.ensures)

pub returns : goal.returns
unfolding carried_out applied gathered status_of answer_of answered with_scheduler edited endsb semaphore_get_effect take_effect with_semaphore semaphore_at
returns c =
    let a = c.args in
    let z : semaphore_get_refusal (semaphore_at a.self a.n.0) a.wait a.caller ≡ 0 = cc c.in_default.ensures in
    let i : c.record_in-x.result ≡ semaphore_at a.self a.n.0 = cc in
    let d = c.if-x-gt0 in
    let m : answered d.self d.self.scheduler d.status no_words 0 ≡ answer_of (carried_out a.self (semaphore_get_effect a.self a.n.0 a.wait)) =
    (elim d.branch [
      | then-x-gt0 w ↦ rw (w.self-is, w.status-is, ← i, lt-ltb _ _ w.if-x-gt0.true, w.store.ensures, w.counting.ensures)
      | else-x-gt0 w ↦ rw (w.self-is, w.status-is, ← i, le-ltb _ _ w.if-x-gt0.false, w.begin_wait.ensures, w.semaphore.ensures, w.of-h.ensures)
    ]) in
    rw is_carried (c.carried.ensures ∙ m)
