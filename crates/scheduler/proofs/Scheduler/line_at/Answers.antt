use mathlib.Core.Path.{◌≡◌, sym, ap, ◌∙◌}
use mathlib.Core.Bool.{Bool}
use Prim.Native.Nat.{ℕ}
use native.Mathlib.Omega.{arith}
use borrow.Author.Rules.{rules}
use lib.ListN.{length, take, get_or}
use lib.Seq.{take_all}
use Rattle.lines.specs.Lists.{filter}
use Rattle.lines.specs.Lines.{members, line_of, pad}
use Rattle.lines.proofs.Laws.Lists.{length_part}
use Rattle.lines.proofs.Laws.Lines.{length-members, pushes, members_short, kept_one, left_one}
use Rattle.scheduler.specs.Threads.{placedb}
use Rattle.scheduler.specs.Orders.{thread_at, line_at}
use Rattle.scheduler.proofs.Scheduler.line_at.Goals as goal
use Rattle.scheduler.proofs.Scheduler.line_at.Goals.{then-is_at, else-is_at}

pub loop-x-init : goal.loop-x-init
unfolding line_of pad filter
loop-x-init c = c.empty-l.ensures

pub loop-x-preserved : goal.loop-x-preserved
unfolding thread_at
loop-x-preserved c =
    let a = c.args in
    let l = c.loop-x in
    let f : ℕ → Bool = λ t. placedb a.p (thread_at a.self t) in
    let xs = c.as_slice-x-items.result.now in
    let r : thread_at a.self (get_or xs l.x-index 0) ≡ c.record_in.result = cc in
    let y = ap (placedb a.p) r ∙ sym c.is_at.ensures in
    elim c.if-is_at.branch [
      | then-is_at w ↦ w.l-is ∙ pushes (filter f (take l.x-index xs)) (get_or xs l.x-index 0) w.push.ensures l.invariant
          ∙ ap line_of (sym (kept_one f l.x-index xs (omega arith) (y ∙ w.if-is_at.true)))
      | else-is_at w ↦ w.l-is ∙ l.invariant ∙ ap line_of (sym (left_one f l.x-index xs (omega arith) (y ∙ w.if-is_at.false)))
    ]

pub returns : goal.returns
unfolding line_at
returns c =
    let a = c.args in
    let l = c.loop-x in
    let o : length a.self.order.ids ≡ 32 = search rules in
    let k : take l.x-index c.as_slice-x-items.result.now ≡ members a.self.order = take_all l.x-index _ (omega arith) ∙ c.as_slice-x-items.ensures in
    let r = rw k at l.invariant in
    let w = length-members a.self.order o in
    let b = length_part (λ t. placedb a.p (thread_at a.self t)) (members a.self.order) in
    (r, ap members r ∙ members_short _ (omega (arith, w, b)))
