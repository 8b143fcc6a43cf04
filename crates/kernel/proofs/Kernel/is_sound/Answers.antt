use mathlib.Core.Path.{◌≡◌, refl, ap₂, ◌∙◌}
use native.Mathlib.Omega.{arith}
use lib.ListN.{length}
use Rattle.std.proofs.Common.{true, ◌&&◌, rules, tests}
use Rattle.std.proofs.lemmas.Iterator.{YieldsList-from_slice}
use Rattle.std.proofs.lemmas.Iterator.Consumers.{fold_from_yields_List}
use Rattle.lines.specs.Logic.{all_below}
use Rattle.lines.proofs.Laws.Folds.{each_holds}
use Rattle.scheduler.specs.Threads.{uncreated}
use Rattle.scheduler.specs.Orders.{thread_at}
use Rattle.scheduler.proofs.Laws.Threads.{length_mapped}
use Rattle.objects.specs.Queues.{no_queue, queue_fitb}
use Rattle.blocks.specs.Pools.{no_pool, pool_fitb}
use Rattle.calls.specs.Held.{no_held}
use Rattle.waiting.specs.Fit.{held_fitb, queues_fitb, pools_fitb}
use Rattle.kernel.specs.Tables.{held_at}
use Rattle.kernel.specs.Loops.{asks_fitb}
use Rattle.kernel.specs.Sound.{wait_fitb, soundb}
use Rattle.kernel.proofs.Laws.Reads.{read_inside}
use Rattle.kernel.proofs.Laws.Sound.{one_more}
use Rattle.kernel.proofs.Kernel.is_sound.Goals as goal

pub loop-t-init : goal.loop-t-init
unfolding all_below
loop-t-init c = (refl, refl)

pub loop-t-preserved : goal.loop-t-preserved
unfolding thread_at held_at asks_fitb wait_fitb
loop-t-preserved c =
    let k = c.args.self in
    let l = c.loop-t in
    let records : length k.scheduler.threads ≡ 32 = search length_mapped in
    let sized : length k.held ≡ 32 = search length_mapped in
    let thread = read_inside k.scheduler.threads l.t _ uncreated c.loop-t-test.true records in
    let holds = read_inside k.held l.t _ no_held c.loop-t-test.true sized in (
      one_more _ l.t _ _ l.invariant.0 (c.held_fits-held.ensures ∙ ap₂ held_fitb thread holds),
      one_more (wait_fitb k) l.t _ _ l.invariant.1 (c.wait_fits-waits.ensures ∙ ap₂ (asks_fitb k) thread holds),
    )

pub returns : goal.returns
unfolding soundb queues_fitb pools_fitb
returns c =
    let k = c.args.self in
    let l = c.loop-t in
    let x : l.t ≡ 32 = omega (arith, c.loop-t-test.false) in
    let y : length k.queues ≡ 8 = search length_mapped in
    let z : length k.pools ≡ 4 = search length_mapped in
    let q = fold_from_yields_List _ (λ b x. b && queue_fitb x) true c.fold-queues.result c.fold-queues.ensures.ran (YieldsList-from_slice k.queues cc) (λ a x b q k. search (rules, tests)) in
    let p = fold_from_yields_List _ (λ b x. b && pool_fitb x) true c.fold-pools.result c.fold-pools.ensures.ran (YieldsList-from_slice k.pools cc) (λ a x b q k. search (rules, tests)) in
    rw (c.is_sound.ensures, l.invariant.0, l.invariant.1, x, c.semaphores_fit.ensures, q, each_holds queue_fitb no_queue k.queues, y, c.groups_fit.ensures, p, each_holds pool_fitb no_pool k.pools, z)
