use mathlib.Core.Path.{◌≡◌, refl, sym, ap, ◌∙◌}
use mathlib.Core.List.{List}
use Prim.Native.Nat.{ℕ}
use lib.ListN.{length, length-set}
use lib.Seq.{take_all}
use Rattle.lines.specs.Lines.{members}
use Rattle.scheduler.proofs.Laws.Threads.{length_mapped}
use Rattle.calls.specs.declared.held.Held.{Held}
use Rattle.kernel.specs.Tables.{with_scheduler}
use Rattle.kernel.specs.Edits.{applied, endsb}
use Rattle.kernel.specs.Effects.{ends_each}
use Rattle.kernel.proofs.Laws.Waits.{each_stored, movers-each}
use Rattle.kernel.proofs.Laws.Arms.{carried_as}
use Rattle.kernel.proofs.Kernel.ended_each.Goals as goal

pub loop-x-init : goal.loop-x-init
unfolding applied ends_each with_scheduler
loop-x-init c = (search length_mapped, λ by same. refl)

pub loop-x-preserved : goal.loop-x-preserved
unfolding with_scheduler
loop-x-preserved c =
    let l = c.loop-x in (
      ap (λ (hs : List Held). length hs) c.store.ensures ∙ simp length-set l.invariant.0,
      λ by same. each_stored by c.args.words _ l.self l.s _ _ c.args.status _ c.as_slice-x-items.result.now l.x-index same c.loop-x-test.true c.of-h.ensures c.woken-s.ensures c.store.ensures (l.invariant.1 by same),
    )

pub returns : goal.returns
unfolding endsb
returns c by same =
    let a = c.args in
    let l = c.loop-x in
    let all = take_all l.x-index c.as_slice-x-items.result.now c.loop-x-test.false ∙ c.as_slice-x-items.ensures in
    let e : with_scheduler l.self l.s ≡ applied a.self (ends_each by a.words (members a.line)) =
    l.invariant.1 by same ∙ ap (λ (xs : List ℕ). applied a.self (ends_each by a.words xs)) all in
    c.carried.ensures ∙ carried_as a.self l.self l.s _ e (c.from.ensures ∙ c.size.ensures ∙ sym (ap (λ (xs : List ℕ). length xs) (movers-each by a.words endsb (members a.line) refl)))
