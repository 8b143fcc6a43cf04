use mathlib.Core.Path.{sym, ◌≡◌}
use lib.Seq.{set-get_or}
use Rattle.scheduler.specs.Choice.{relinquished}
use Rattle.scheduler.specs.Orders.{joined}
use Rattle.calls.specs.Chains.{thread_only_refusal}
use Rattle.kernel.specs.Answers.{answer_of}
use Rattle.kernel.specs.Edits.{applied, carried_out, edited, endsb, frontb, gathered, held_by, record_by, status_of}
use Rattle.kernel.specs.Loops.{answered}
use Rattle.kernel.specs.Tables.{held_at, with_held, with_scheduler}
use Rattle.kernel.specs.Threads.{relinquish_effect}
use Rattle.kernel.proofs.Laws.Answers.{is_carried}
use Rattle.kernel.proofs.Laws.Arms.{refused_for}
use Rattle.kernel.proofs.Kernel.thread_relinquish.Goals as goal

pub returns-in-Err : goal.returns-in-Err
returns-in-Err c = refused_for _ _ _ c.refused.ensures c.from.ensures c.in-Err.ensures

pub returns : goal.returns
unfolding carried_out applied gathered status_of answer_of answered with_scheduler edited record_by held_by frontb endsb joined with_held relinquish_effect relinquished held_at
returns c =
    let a = c.args in
    let z : thread_only_refusal a.caller ≡ 0 = sym c.in_default.ensures in
    rw is_carried (rw (c.relinquished-chosen.ensures, set-get_or))
