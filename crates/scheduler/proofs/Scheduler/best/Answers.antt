use mathlib.Core.Path.{◌≡◌}
use Prim.Native.Nat.{◌<◌}
use native.Mathlib.Omega.{arith}
use lib.ListN.{length}
use Rattle.scheduler.specs.Threads.{uncreated}
use Rattle.scheduler.specs.Orders.{thread_at}
use Rattle.scheduler.specs.Choice.{best_among}
use Rattle.scheduler.proofs.Laws.Threads.{length_mapped}
use Rattle.scheduler.proofs.Laws.Loops.{passed_none, passed_all, passed_out, passed_one}
use Rattle.scheduler.proofs.Scheduler.best.Goals as goal

pub loop-x-init : goal.loop-x-init
loop-x-init g c = let r = c.iter.ensures.rest in passed_none c.args.self (g.T.Test.test c.args.wanted) _ (cc r)

pub loop-x-preserved-in-Some-get : goal.loop-x-preserved-in-Some-get
unfolding thread_at
loop-x-preserved-in-Some-get g c =
    let a = c.args in
    let e : length a.self.threads ≡ 32 = search length_mapped in
    let none = g.met.T.Test.none_past a.wanted in
    let t = c.in-Some-get.ensures.lookup.3 in
    let l : c.in-Some.x.now < 32 = omega (arith, t.0) in
    let th = t.1 uncreated in
    let w = c.holds.ensures in
    passed_one a.self (g.T.Test.test a.wanted) e none _ _ _ _ c.in-Some.ensures.steps c.loop-x.invariant _ _ _ l c.considered-b.ensures.in_byte th (cc (w, th)) c.considered-b.ensures.best

pub loop-x-preserved : goal.loop-x-preserved
loop-x-preserved g c =
    let a = c.args in
    let e : length a.self.threads ≡ 32 = search length_mapped in
    let none = g.met.T.Test.none_past a.wanted in
    let t = c.in_default.ensures.lookup.3 in
    passed_out a.self (g.T.Test.test a.wanted) e none _ _ _ _ c.in-Some.ensures.steps c.loop-x.invariant (omega (arith, t))

pub returns : goal.returns
unfolding best_among
returns g c = (passed_all c.args.self (g.T.Test.test c.args.wanted) _ _ c.in-None.ensures.steps.0 c.loop-x.invariant).0
