use mathlib.Core.Path.{ap, ◌≡◌, ◌∙◌}
use lib.Dec.{ltb}
use Rattle.blocks.specs.declared.pool.Pool.{Pool}
use Rattle.calls.specs.Chains.{allocate_refusal}
use Rattle.kernel.specs.Answers.{answer_of}
use Rattle.kernel.specs.Edits.{applied, carried_out, edited, endsb, gathered, status_of}
use Rattle.kernel.specs.Effects.{take_effect}
use Rattle.kernel.specs.Loops.{answered}
use Rattle.kernel.specs.Pools.{allocate_effect}
use Rattle.kernel.specs.Tables.{pool_at, with_pool, with_scheduler}
use Rattle.kernel.proofs.Laws.Answers.{is_carried}
use Rattle.kernel.proofs.Laws.Arms.{refused_for}
use Rattle.kernel.proofs.Kernel.block_allocate.Goals as goal
use Rattle.kernel.proofs.Kernel.block_allocate.Goals.{else-has_free, then-has_free}

pub returns-in-Err : goal.returns-in-Err
unfolding pool_at
returns-in-Err c = refused_for _ _ _ c.refused.ensures c.from.ensures (cc c.in-Err.ensures)

pub returns : goal.returns
unfolding carried_out applied gathered status_of answer_of answered with_scheduler edited endsb allocate_effect take_effect with_pool pool_at
returns c =
    let a = c.args in
    let z : allocate_refusal (pool_at a.self a.n.0) a.wait a.caller ≡ 0 = cc c.in_default.ensures in
    let i : c.record_in-p.result ≡ pool_at a.self a.n.0 = cc in
    let t : c.has_free.result ≡ ltb 0 (pool_at a.self a.n.0).free = c.has_free.ensures ∙ ap (λ (x : Pool). ltb 0 x.free) i in
    let d = c.if-has_free in
    let m : answered d.self d.self.scheduler d.status.0 d.status.1 0 ≡ answer_of (carried_out a.self (allocate_effect a.self a.n.0 a.wait)) =
    (elim d.branch [
      | then-has_free w ↦ rw (w.self-is, w.status-is, ← t, w.if-has_free.true, w.store.ensures, w.two_words.ensures, w.next.ensures, w.without_next.ensures, i)
      | else-has_free w ↦ rw (w.self-is, w.status-is, ← t, w.if-has_free.false, w.begin_wait.ensures, w.pool.ensures, w.of.ensures)
    ]) in
    rw is_carried (c.carried.ensures ∙ m)
