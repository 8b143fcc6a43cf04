use mathlib.Core.Path.{◌≡◌, ◌∙◌}
use native.Mathlib.Omega.{arith}
use Rattle.blocks.proofs.Laws.Pools.{block_half}
use Rattle.blocks.specs.Pools.{block_sizesb, fresh_pool}
use Rattle.calls.specs.Chains.{pool_create_refusal}
use Rattle.kernel.specs.Answers.{answer_of}
use Rattle.kernel.specs.Edits.{applied, carried_out, edited, gathered, status_of}
use Rattle.kernel.specs.Effects.{store_effect}
use Rattle.kernel.specs.Loops.{answered}
use Rattle.kernel.specs.Tables.{pool_at, with_pool, with_scheduler}
use Rattle.kernel.proofs.Laws.Answers.{first_none, is_carried, second_none, unless_none}
use Rattle.kernel.proofs.Laws.Arms.{refused_for}
use Rattle.kernel.proofs.Kernel.block_pool_create.Goals as goal

pub returns-in-Err : goal.returns-in-Err
unfolding pool_at
returns-in-Err c = refused_for _ _ _ c.refused.ensures c.from.ensures (cc c.in-Err.ensures)

pub returns : goal.returns
unfolding carried_out applied gathered status_of answer_of answered with_scheduler edited store_effect pool_create_refusal with_pool pool_at
returns c =
    let a = c.args in
    let z : pool_create_refusal a.n.0 (pool_at a.self a.n.0) a.block a.total a.caller ≡ 0 = cc c.in_default.ensures in
    let s = unless_none (block_sizesb a.block a.total) 5 (omega arith) (first_none _ _ (second_none _ _ z)) in
    let x : c.of.result ≡ fresh_pool a.block a.total = c.of.ensures ∙ (λ j. fresh_pool (block_half a.block a.total s j) a.total) in
    rw is_carried (c.carried.ensures ∙ rw (c.store.ensures, x))
