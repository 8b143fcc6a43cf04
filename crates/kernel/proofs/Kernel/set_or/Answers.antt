use mathlib.Core.Path.{◌≡◌, refl, ap, ◌∙◌, sym}
use mathlib.Core.List.{List}
use Prim.Native.Nat.{ℕ, ◌≤◌}
use native.Mathlib.Omega.{arith}
use native.Mathlib.Nat.{not-suc-le-zero}
use lib.ListN.{length, length-set}
use lib.Seq.{take_all}
use Rattle.lines.specs.declared.Line.{Line}
use Rattle.lines.specs.Lines.{members, line_of}
use Rattle.lines.proofs.Laws.Lines.{length-members, length-pad}
use Rattle.lines.proofs.Laws.Lists.{get_d_any}
use Rattle.scheduler.specs.Orders.{line_at}
use Rattle.scheduler.proofs.Laws.Threads.{length_mapped}
use Rattle.objects.specs.Groups.{group_with, less_flags}
use Rattle.calls.specs.declared.held.Held.{Held}
use Rattle.calls.specs.Held.{one_word, holding, no_held}
use Rattle.matching.specs.Loops.{woken_of, clears_of}
use Rattle.kernel.specs.declared.Kernel.{Kernel}
use Rattle.kernel.specs.Tables.{held_at, with_scheduler, with_group}
use Rattle.kernel.specs.Answers.{answer_of}
use Rattle.kernel.specs.Kinds.{Kind, place_of}
use Rattle.kernel.specs.Edits.{Cause, status_by, Edit, applied, endsb}
use Rattle.kernel.specs.Effects.{ends_each}
use Rattle.kernel.specs.Groups.{woken_by, clears_by, set_or_effect}
use Rattle.kernel.proofs.Laws.Waits.{closed, each_stored, movers-each}
use Rattle.kernel.proofs.Laws.Groups.{table-all, clears_by_lem, woken-members, table_more}
use Rattle.kernel.proofs.Laws.Arms.{carried_as}
use Rattle.kernel.specs.Loops.{answered}
use Rattle.kernel.proofs.Kernel.set_or.Goals as goal

pub loop-t-init : goal.loop-t-init
loop-t-init c = (refl, refl, (λ j l. absurd (not-suc-le-zero l)), λ j l. absurd (not-suc-le-zero l))

pub loop-t-preserved : goal.loop-t-preserved
unfolding held_at
loop-t-preserved c =
    let a = c.args in
    let l = c.loop-t in
    let s : length a.self.now.held ≡ 32 = search length_mapped in
    let h = get_d_any a.self.now.held l.t _ no_held (omega (arith, s, c.loop-t-test.true)) in (
      simp length-set l.invariant.0,
      simp length-set l.invariant.1,
      table_more a.self.now (λ y. y.request) l.requests l.t _ (omega (arith, s, l.invariant.0, c.loop-t-test.true)) (ap (λ (y : Held). y.request) h) l.invariant.2,
      table_more a.self.now (λ y. y.option) l.options l.t _ (omega (arith, s, l.invariant.1, c.loop-t-test.true)) (ap (λ (y : Held). y.option) h) l.invariant.3,
    )

pub loop-x-init : goal.loop-x-init
unfolding applied ends_each with_scheduler
loop-x-init c = (search length_mapped, λ by same. refl)

pub loop-x-preserved : goal.loop-x-preserved
unfolding with_scheduler
loop-x-preserved c =
    let l = c.loop-x in (
      ap (λ (hs : List Held). length hs) c.store-in-loop-x.ensures ∙ simp length-set l.invariant.0,
      λ by same. each_stored by (one_word c.args.flags) _ l.self l.s _ _ 0 _ c.as_slice-x-items.result.now l.x-index same c.loop-x-test.true (c.of-h.ensures ∙ ap (holding 0) c.two_words.ensures) c.woken-s.ensures c.store-in-loop-x.ensures (l.invariant.1 by same),
    )

pub returns : goal.returns
unfolding answered set_or_effect holding with_group line_of with_scheduler status_by endsb
returns c =
    let by = c.woken-met in
    let found = c.line_at in
    let store = c.store in
    let a = c.args in
    let l = c.loop-t in
    let s : length a.self.now.held ≡ 32 = search length_mapped in
    let rs = table-all a.self.now (λ y. y.request) l.requests refl l.invariant.0 s (λ j m. l.invariant.2 j (omega (arith, s, m, c.loop-t-test.false))) in
    let os = table-all a.self.now (λ y. y.option) l.options refl l.invariant.1 s (λ j m. l.invariant.3 j (omega (arith, s, m, c.loop-t-test.false))) in
    let line = line_at a.self.now.scheduler (place_of Kind.group a.n.0) in
    let m : members found.result ≡ line =
    found.ensures.1 ∙ ap (line_at a.self.now.scheduler) c.group.ensures in
    let o = length-members found.result (ap (λ (y : Line). length y.ids) found.ensures.0 ∙ length-pad 32 _) in
    let q = ap (λ (xs : List ℕ). length xs) m in
    let most : length line ≤ 32 = omega (arith, o, q) in
    let v = by.ensures.line ∙ ap (λ (xs : List ℕ). line_of (woken_of a.flags l.requests l.options xs)) m in
    let w : members by.result.line ≡ woken_by a.self.now a.n.0 a.flags =
    ap members v ∙ woken-members a.self.now a.n.0 a.flags l.requests l.options rs os most in
    let x : by.result.clears ≡ clears_by a.self.now a.n.0 a.flags =
    by.ensures.clears ∙ ap (clears_of a.flags l.requests l.options) m
    ∙ clears_by_lem a.self.now a.n.0 a.flags l.requests l.options rs os in
    let g = group_with (less_flags a.flags (clears_by a.self.now a.n.0 a.flags)) in
    let u = woken_by a.self.now a.n.0 a.flags in
    let p = c.loop-x in
    let k : Kernel = record {
      scheduler = a.self.now.scheduler;
      held = a.self.now.held;
      semaphores = a.self.now.semaphores;
      queues = a.self.now.queues;
      groups = store.new.all;
      pools = a.self.now.pools;
      clock = a.self.now.clock;
    } in
    let why = Cause.served Kind.group a.n.0 in
    let es : List Edit = ends_each why (one_word a.flags) u in
    let all = take_all p.x-index c.as_slice-x-items.result.now c.loop-x-test.false ∙ c.as_slice-x-items.ensures ∙ w in
    let each : with_scheduler p.self p.s ≡ applied k es =
    p.invariant.1 why (λ th h. refl) ∙ ap (λ (xs : List ℕ). applied k (ends_each why (one_word a.flags) xs)) all in
    let n = c.from.ensures ∙ c.size.ensures ∙ ap (λ (xs : List ℕ). length xs) (w ∙ sym (movers-each why (one_word a.flags) endsb u refl)) in
    carried_as k p.self p.s es each n
    ∙ rw (store.ensures, c.of.ensures, c.less.ensures, x)
    (ap answer_of (closed why (one_word a.flags) Kind.group a.self.now a.n.0 g u))
