use mathlib.Core.Path.{◌≡◌, refl, sym, ap, ap₂, ◌∙◌}
use mathlib.Core.Bool.{and-false}
use Prim.Native.Nat.{◌<◌}
use borrow.Author.Tests.{lt-ltb, eq-eqb}
use lib.ListN.{length, take, get_or, length-set, get_or-replicate}
use lib.Dec.{eqb, ltb}
use Rattle.std.proofs.lemmas.List.{take_all}
use Rattle.lines.specs.Logic.{all_below}
use Rattle.lines.specs.Lists.{count, below}
use Rattle.lines.proofs.Laws.Logic.{and_in}
use Rattle.blocks.specs.Pools.{blocks_of, free_blocks, onceb, listingb}
use Rattle.blocks.proofs.Laws.Listings.{tallied_more, tallied_past, below_more, once_more, once_past, below_broken, once_broken}
use Rattle.blocks.proofs.pool.Pool.is_listing.Goals as goal
use Rattle.blocks.proofs.pool.Pool.is_listing.Goals.{then-k-lt-SLOTS+else-counts-k-ne0, else-k-lt-SLOTS}

pub loop-x-init : goal.loop-x-init
unfolding count below onceb all_below
loop-x-init c = (refl, λ k l. get_or-replicate 64 k 0 0 l, refl, refl)

pub returns-then-blocks-x : goal.returns-then-blocks-x
unfolding listingb
returns-then-blocks-x c =
    let xs = c.free_blocks-x-items in
    let b = c.blocks-blocks in
    let f = below_broken b.result c.loop-x.x-index xs.result.now c.loop-x-test.true c.if-blocks-x.true in
    let g : below (blocks_of c.args.self) (free_blocks c.args.self) ≡ below b.result xs.result.now = cc in
    rw (g, f)

pub returns-then-counts-k-ne0 : goal.returns-then-counts-k-ne0
unfolding listingb
returns-then-counts-k-ne0 c =
    let xs = c.free_blocks-x-items in
    let l = c.loop-x in
    let s = c.if-k-lt-SLOTS.true in
    let f = once_broken l.x-index xs.result.now c.loop-x-test.true s (λ z. c.if-counts-k-ne0.true (l.invariant.1 _ s ∙ z)) in
    rw (← xs.ensures, f, and-false)

pub loop-x-preserved : goal.loop-x-preserved
loop-x-preserved c =
    let l = c.loop-x in
    let i = l.x-index in
    let xs = c.free_blocks-x-items.result.now in
    let h : i < length xs = c.loop-x-test.true in
    let b = c.blocks-blocks.result in
    let k = sym (below_more b i xs h) ∙ and_in (below b (take i xs)) (ltb (get_or xs i 0) b) l.invariant.2 (lt-ltb (get_or xs i 0) b c.if-blocks-x.false) in
    elim c.if-k-lt-SLOTS.branch [
      | then-k-lt-SLOTS+else-counts-k-ne0 w ↦
          let s = w.if-k-lt-SLOTS.true in
          let z = sym (l.invariant.1 (get_or xs i 0) s) ∙ w.if-counts-k-ne0.false in
          let u = sym (once_more i xs h s) ∙ and_in (onceb (take i xs)) (eqb (count (get_or xs i 0) (take i xs)) 0) l.invariant.3 (eq-eqb (count (get_or xs i 0) (take i xs)) 0 z) in
          rw w.counts-is (simp length-set l.invariant.0, tallied_more l.counts xs i l.invariant.0 h s l.invariant.1, k, u)
      | else-k-lt-SLOTS w ↦
          let s = w.if-k-lt-SLOTS.false in
          rw w.counts-is (l.invariant.0, tallied_past l.counts xs i h s l.invariant.1, k, sym (once_past i xs h s) ∙ l.invariant.3)
    ]

pub returns : goal.returns
unfolding listingb
returns c =
    let l = c.loop-x in
    let xs = c.free_blocks-x-items in
    let e = take_all l.x-index xs.result.now c.loop-x-test.false ∙ xs.ensures in
    let f = blocks_of c.args.self in
    sym (and_in (below f (free_blocks c.args.self)) (onceb (free_blocks c.args.self)) (sym (ap₂ below c.blocks-blocks.ensures e) ∙ l.invariant.2) (sym (ap onceb e) ∙ l.invariant.3))
