use mathlib.Core.Path.{refl}
use native.Mathlib.Omega.{arith}
use Prim.Native.Nat.{◌*◌}
use Rattle.words.specs.Words.{word_size}
use Rattle.codec.specs.Layout.{thread_count, semaphore_count, queue_count, group_count, pool_count, held_size, flagged_size, queue_size, pool_size, scheduler_size}
use Rattle.codec.specs.Bytes.{bytes_of}
use Rattle.codec.proofs.Laws.Writing.{none_done, part_done, last_done}
use Rattle.codec.proofs.records.KernelRecord.write.Goals as goal

pub returns : goal.returns
unfolding bytes_of
returns c =
    let d1 = part_done (none_done c.args.b.now c.requires) c.write.ensures scheduler_size (omega arith) c.write.auto.b in
    let d2 = part_done d1 c.write_table.ensures (held_size * thread_count) (omega arith) c.write_table.auto.b in
    let d3 = part_done d2 c.write_table-2.ensures (flagged_size * semaphore_count) (omega arith) c.write_table-2.auto.b in
    let d4 = part_done d3 c.write_table-3.ensures (queue_size * queue_count) (omega arith) c.write_table-3.auto.b in
    let d5 = part_done d4 c.write_table-4.ensures (flagged_size * group_count) (omega arith) c.write_table-4.auto.b in
    let d6 = part_done d5 c.write_table-5.ensures (pool_size * pool_count) (omega arith) c.write_table-5.auto.b in
    last_done d6 c.write-2.ensures word_size refl c.write-2.auto.b
