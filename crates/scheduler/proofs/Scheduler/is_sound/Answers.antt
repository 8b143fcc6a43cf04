use mathlib.Core.Path.{◌≡◌, refl, sym, ap, ap₂, ◌∙◌}
use mathlib.Core.List.{List}
use mathlib.Core.Bool.{◌&&◌, and-true, and-false}
use Prim.Native.Nat.{ℕ, ◌<◌}
use native.Mathlib.Omega.{arith}
use borrow.Author.Tests.{not-true, not-false, lt-ltb, le-ltb}
use lib.ListN.{length, get_or}
use lib.Dec.{eqb}
use Rattle.lines.specs.Logic.{all_below}
use Rattle.lines.specs.Lines.{members}
use Rattle.lines.proofs.Laws.Logic.{all_more, all-not}
use Rattle.lines.proofs.Laws.Lists.{get_d_any}
use Rattle.lines.proofs.Laws.Tallies.{tally-count, tally-below}
use Rattle.scheduler.specs.declared.thread.Thread.{Thread}
use Rattle.scheduler.specs.Threads.{uncreated}
use Rattle.scheduler.specs.Orders.{thread_at}
use Rattle.scheduler.proofs.Laws.Threads.{length_mapped}
use Rattle.scheduler.proofs.Laws.Placing.{placed, sound_parts, placed_read}
use mathlib.Core.Bool.{not}
use Rattle.scheduler.proofs.Scheduler.is_sound.Goals as goal

pub loop-t-init : goal.loop-t-init
unfolding all_below
loop-t-init c = refl

pub returns-then-not-is_placed : goal.returns-then-not-is_placed
unfolding thread_at
returns-then-not-is_placed c =
    let a = c.args.self in
    let l = c.loop-t in
    let z : length a.threads ≡ 32 = search length_mapped in
    let h : l.t < 32 = omega arith in
    let e : l.t < length a.threads = omega arith in
    let n = ap (λ (r : List ℕ). get_or r l.t 0) c.tally-counts.ensures ∙ tally-count l.t (members a.order) h in
    let q = c.is_placed.ensures ∙ placed_read a l.t _ _ _ n (ap (λ (th : Thread). th.threshold) c.thread_at-runner.ensures) (get_d_any a.threads l.t _ uncreated e) in
    let f = sym q ∙ not-true c.is_placed.result (ap not c.if-not-is_placed.true) in
    sym (sound_parts a z ∙ rw (all-not 32 (placed a) l.t h f, and-false))

pub loop-t-preserved : goal.loop-t-preserved
unfolding thread_at
loop-t-preserved c =
    let a = c.args.self in
    let l = c.loop-t in
    let z : length a.threads ≡ 32 = search length_mapped in
    let h : l.t < 32 = omega arith in
    let e : l.t < length a.threads = omega arith in
    let n = ap (λ (r : List ℕ). get_or r l.t 0) c.tally-counts.ensures ∙ tally-count l.t (members a.order) h in
    let q = c.is_placed.ensures ∙ placed_read a l.t _ _ _ n (ap (λ (th : Thread). th.threshold) c.thread_at-runner.ensures) (get_d_any a.threads l.t _ uncreated e) in
    let f = sym q ∙ not-false c.is_placed.result (ap not c.if-not-is_placed.false) in
    sym (all_more (placed a) l.t) ∙ ap₂ ◌&&◌ l.invariant f

pub returns-then-r-lt-NOBODY : goal.returns-then-r-lt-NOBODY
returns-then-r-lt-NOBODY c =
    let a = c.args.self in
    let l = c.loop-t in
    let z : length a.threads ≡ 32 = search length_mapped in
    let e : l.t ≡ 32 = omega arith in
    let b = ap (λ (r : List ℕ). eqb (get_or r 32 0) 0) c.tally-counts.ensures ∙ tally-below (members a.order) in
    let every = sym (ap (λ (n : ℕ). all_below n (placed a)) e) ∙ l.invariant in
    rw (c.is_clean.ensures, b, c.is_ready.ensures, c.thread_at-runner.ensures)
    (sym (sound_parts a z ∙ rw (every, and-true, lt-ltb a.running.0 32 c.if-r-lt-NOBODY.true)))

pub returns : goal.returns
returns c =
    let a = c.args.self in
    let l = c.loop-t in
    let z : length a.threads ≡ 32 = search length_mapped in
    let e : l.t ≡ 32 = omega arith in
    let b = ap (λ (r : List ℕ). eqb (get_or r 32 0) 0) c.tally-counts.ensures ∙ tally-below (members a.order) in
    let every = sym (ap (λ (n : ℕ). all_below n (placed a)) e) ∙ l.invariant in
    rw (c.is_clean.ensures, b, c.best_ready-h.ensures)
    (sym (sound_parts a z ∙ rw (every, and-true, le-ltb a.running.0 32 c.if-r-lt-NOBODY.false)))
