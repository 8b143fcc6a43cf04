use mathlib.Core.Path.{sym, ◌≡◌, ◌∙◌}
use borrow.Author.Tests.{eq-eqb, ne_eqb}
use Rattle.scheduler.specs.Orders.{joined}
use Rattle.calls.specs.Chains.{thread_only_refusal}
use Rattle.calls.specs.Held.{no_words}
use Rattle.kernel.specs.Answers.{answer_of}
use Rattle.kernel.specs.Edits.{applied, carried_out, edited, endsb, frontb, gathered, held_by, record_by, status_of}
use Rattle.kernel.specs.Loops.{answered}
use Rattle.kernel.specs.Tables.{with_held, with_scheduler}
use Rattle.kernel.specs.Threads.{sleep_effect}
use Rattle.kernel.proofs.Laws.Answers.{is_carried}
use Rattle.kernel.proofs.Laws.Arms.{refused_for}
use Rattle.kernel.proofs.Kernel.thread_sleep.Goals as goal
use Rattle.kernel.proofs.Kernel.thread_sleep.Goals.{else-ticks-eq0, then-ticks-eq0}

pub returns-in-Err : goal.returns-in-Err
returns-in-Err c = refused_for _ _ _ c.refused.ensures c.from.ensures c.in-Err.ensures

pub returns : goal.returns
unfolding carried_out applied gathered status_of answer_of answered with_scheduler edited record_by held_by frontb endsb joined with_held sleep_effect
returns c =
    let a = c.args in
    let z : thread_only_refusal a.caller ≡ 0 = sym c.in_default.ensures in
    let d = c.if-ticks-eq0 in
    let m : answered d.self d.self.scheduler d.status no_words 0 ≡ answer_of (carried_out a.self (sleep_effect a.self a.ticks)) =
    (elim d.branch [
      | then-ticks-eq0 w ↦ rw (w.self-is, w.status-is, eq-eqb _ _ w.if-ticks-eq0.true)
      | else-ticks-eq0 w ↦ rw (w.self-is, w.status-is, ne_eqb _ _ w.if-ticks-eq0.false, w.with_runner_asleep-self.ensures, w.store.ensures, w.of.ensures)
    ]) in
    rw is_carried (c.carried.ensures ∙ m)
