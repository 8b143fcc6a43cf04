use mathlib.Core.Path.{ap, ◌≡◌, ◌∙◌}
use borrow.Author.Tests.{le-ltb, lt-ltb}
use Rattle.scheduler.specs.Orders.{first_at}
use Rattle.calls.specs.Chains.{release_refusal}
use Rattle.calls.specs.Held.{no_words}
use Rattle.calls.specs.Statuses.{success}
use Rattle.kernel.specs.Answers.{answer_of}
use Rattle.kernel.specs.Edits.{applied, carried_out, edited, endsb, gathered, status_of}
use Rattle.kernel.specs.Effects.{give_effect, serve_effect, store_effect}
use Rattle.kernel.specs.Kinds.{Kind}
use Rattle.kernel.specs.Loops.{answered}
use Rattle.kernel.specs.Pools.{release_effect}
use Rattle.kernel.specs.Tables.{pool_at, with_pool, with_scheduler}
use Rattle.kernel.proofs.Laws.Answers.{is_carried}
use Rattle.kernel.proofs.Laws.Arms.{refused_for}
use Rattle.kernel.proofs.Kernel.block_release.Goals as goal
use Rattle.kernel.proofs.Kernel.block_release.Goals.{else-first-lt-NOBODY, then-first-lt-NOBODY}

pub returns-in-Err : goal.returns-in-Err
unfolding pool_at
returns-in-Err c = refused_for _ _ _ c.refused.ensures c.from.ensures (cc c.in-Err.ensures)

pub returns : goal.returns
unfolding carried_out applied gathered status_of answer_of answered with_scheduler edited endsb release_effect give_effect serve_effect store_effect with_pool pool_at
returns c =
    let a = c.args in
    let z : release_refusal (pool_at a.self a.n.0) a.block ≡ 0 = cc c.in_default.ensures in
    let i : c.record_in-p.result ≡ pool_at a.self a.n.0 = cc in
    let f = c.first_at-first.ensures ∙ ap (first_at a.self.scheduler) c.pool.ensures in
    let d = c.if-first-lt-NOBODY in
    let m : answered d.self d.self.scheduler success no_words d.ended ≡ answer_of (carried_out a.self (release_effect a.self a.n.0 a.block)) =
    (elim d.branch [
      | then-first-lt-NOBODY w ↦ rw (w.self-is, w.ended-is, ← f, lt-ltb _ _ w.if-first-lt-NOBODY.true, w.serve.ensures Kind.pool a.n.0, w.two_words.ensures)
      | else-first-lt-NOBODY w ↦ rw (w.self-is, w.ended-is, ← f, le-ltb _ _ w.if-first-lt-NOBODY.false, w.store.ensures, w.with_free.ensures, i)
    ]) in
    rw is_carried (c.carried.ensures ∙ m)
