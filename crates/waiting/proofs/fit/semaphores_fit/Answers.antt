use Rattle.std.proofs.Common.{◌≡◌, true, ◌&&◌, length, rules, tests}
use Rattle.std.proofs.lemmas.Iterator.{YieldsList-from_slice}
use Rattle.std.proofs.lemmas.Iterator.Consumers.{fold_from_yields_List}
use Rattle.lines.proofs.Laws.Folds.{each_holds}
use Rattle.objects.specs.Semaphores.{no_semaphore, semaphore_fitb}
use Rattle.scheduler.proofs.Laws.Threads.{length_mapped}
use Rattle.waiting.specs.Fit.{semaphores_fitb}
use Rattle.waiting.proofs.fit.semaphores_fit.Goals as goal

pub returns : goal.returns
unfolding semaphores_fitb
returns c =
    let e : length c.args.all ≡ 16 = search length_mapped in
    let r = fold_from_yields_List _ (λ b x. b && semaphore_fitb x) true c.fold.result c.fold.ensures.ran (YieldsList-from_slice c.args.all cc) (λ a x b q k. search (rules, tests)) in
    rw (r, each_holds semaphore_fitb no_semaphore c.args.all, e)
