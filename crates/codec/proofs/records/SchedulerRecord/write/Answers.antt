use mathlib.Core.Path.{refl}
use native.Mathlib.Omega.{arith}
use Prim.Native.Nat.{◌*◌}
use Rattle.codec.specs.Layout.{thread_count, thread_size}
use Rattle.codec.specs.Bytes.{scheduler_bytes}
use Rattle.codec.proofs.Laws.Writing.{none_done, byte_done, part_done, last_done}
use Rattle.codec.proofs.records.SchedulerRecord.write.Goals as goal

pub returns : goal.returns
unfolding scheduler_bytes
returns c =
    let d1 = byte_done (none_done c.args.b.now c.requires) {x = c.args.self.now.running.0} refl (omega arith) in
    let d2 = part_done d1 c.copy_from_slice.ensures.after thread_count (omega arith) c.copy_from_slice.ensures.len in
    let d3 = byte_done d2 {x = c.args.self.now.order.len} refl (omega arith) in
    last_done d3 c.write_table.ensures (thread_size * thread_count) refl c.write_table.auto.b
