use Rattle.std.proofs.Common.{◌≡◌, true, ◌&&◌, length, rules, tests}
use Rattle.std.proofs.lemmas.Iterator.{YieldsList-from_slice}
use Rattle.std.proofs.lemmas.Iterator.Consumers.{fold_from_yields_List}
use Rattle.lines.proofs.Laws.Folds.{each_holds}
use Rattle.objects.specs.Groups.{no_group, group_fitb}
use Rattle.scheduler.proofs.Laws.Threads.{length_mapped}
use Rattle.waiting.specs.Fit.{groups_fitb}
use Rattle.waiting.proofs.fit.groups_fit.Goals as goal

pub returns : goal.returns
unfolding groups_fitb
returns c =
    let e : length c.args.all ≡ 8 = search length_mapped in
    let r = fold_from_yields_List _ (λ b x. b && group_fitb x) true c.fold.result c.fold.ensures.ran (YieldsList-from_slice c.args.all cc) (λ a x b q k. search (rules, tests)) in
    rw (r, each_holds group_fitb no_group c.args.all, e)
