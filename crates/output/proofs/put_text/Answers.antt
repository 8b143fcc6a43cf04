use Rattle.std.proofs.Common.{◌≡◌, ◌+◌, ◌-◌, length, arith, add-one}
use lib.Seq.{take-suc, take_all}
use Rattle.output.proofs.Laws.Texts.{put-append, put_room}
use Rattle.output.proofs.put_text.Goals as goal

pub returns-then-text-buf : goal.returns-then-text-buf
returns-then-text-buf g c =
    let at = c.put_nothing-at in
    let k : at.result + length c.args.text.now - at.result ≡ length c.args.text.now = omega arith in
    put-append at.ensures (put_room at.result (at.result + length c.args.text.now - at.result) c.copy_from_slice.ensures.after k (omega arith))

pub loop-b-preserved : goal.loop-b-preserved
loop-b-preserved g c = rw (add-one, take-suc c.args.text.now c.loop-b.b-index 0 c.loop-b-test.true) (put-append c.loop-b.invariant c.put_byte-at.ensures)

pub returns : goal.returns
returns g c = rw (take_all c.loop-b.b-index c.args.text.now c.loop-b-test.false) at c.loop-b.invariant
