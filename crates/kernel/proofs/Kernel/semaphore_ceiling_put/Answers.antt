use mathlib.Core.Path.{sym, ◌≡◌, ◌∙◌}
use native.Mathlib.Omega.{arith}
use Rattle.calls.specs.Chains.{ceiling_refusal}
use Rattle.kernel.specs.Semaphores.{put_effect}
use Rattle.kernel.specs.Tables.{semaphore_at}
use Rattle.kernel.proofs.Laws.Answers.{ceiling_low, is_carried}
use Rattle.kernel.proofs.Laws.Arms.{refused_for}
use Rattle.kernel.proofs.Kernel.semaphore_ceiling_put.Goals as goal

pub returns-in-Err : goal.returns-in-Err
unfolding semaphore_at
returns-in-Err c = refused_for _ _ _ c.refused.ensures c.from.ensures (cc c.in-Err.ensures)

pub overflow_add-x : goal.overflow_add-x
overflow_add-x c =
    let z : ceiling_refusal c.record_in-x.result c.args.ceiling ≡ 0 = sym c.in_default.ensures in
    omega (arith, ceiling_low c.record_in-x.result c.args.ceiling (let f = c.ranges.ceiling in omega (arith, f)) z)

pub returns : goal.returns
unfolding put_effect semaphore_at
returns c =
    let a = c.args in
    let z : ceiling_refusal (semaphore_at a.self a.n.0) a.ceiling ≡ 0 = cc c.in_default.ensures in
    let i : c.record_in-x.result ≡ semaphore_at a.self a.n.0 = cc in
    rw (is_carried, ← i) (c.carried.ensures ∙ c.put-ended.ensures)
