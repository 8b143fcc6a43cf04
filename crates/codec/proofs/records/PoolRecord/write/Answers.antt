use mathlib.Core.Path.{refl}
use native.Mathlib.Omega.{arith}
use Rattle.words.specs.Words.{word_size, half_size}
use Rattle.codec.specs.Layout.{list_count}
use Rattle.codec.specs.Bytes.{pool_bytes}
use Rattle.codec.proofs.Laws.Writing.{none_done, byte_done, flag_done, part_done, last_done}
use Rattle.codec.proofs.records.PoolRecord.write.Goals as goal

pub returns : goal.returns
unfolding pool_bytes
returns c =
    let d1 = flag_done (none_done c.args.b.now c.requires) c.args.self.now.created c.from.ensures (omega arith) in
    let d2 = part_done d1 c.write.ensures half_size (omega arith) c.write.auto.b in
    let d3 = part_done d2 c.write-2.ensures word_size (omega arith) c.write-2.auto.b in
    let d4 = byte_done d3 {x = c.args.self.now.free} refl (omega arith) in
    last_done d4 c.copy_from_slice.ensures.after list_count refl c.copy_from_slice.ensures.len
