use mathlib.Core.Path.{◌≡◌}
use Prim.Native.Nat.{◌+◌, ◌-◌}
use native.Mathlib.Omega.{arith}
use Rattle.calls.proofs.Laws.Messages.{message_copied}
use Rattle.calls.proofs.message.message_in.Goals as goal

pub returns : goal.returns
returns c =
    let a = c.args in
    let start = c.min-start.result in
    let n = c.min-count.result in
    let e : start + n - start ≡ n = omega arith in
    let p = rw e at c.copy_from_slice.ensures.after in
    rw p (message_copied a.area.now a.index a.words start n c.min-start.ensures (omega arith))
