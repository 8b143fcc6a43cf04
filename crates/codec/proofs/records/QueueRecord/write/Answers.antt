use mathlib.Core.Path.{refl}
use native.Mathlib.Omega.{arith}
use Rattle.codec.specs.Layout.{store_size}
use Rattle.codec.specs.Bytes.{queue_bytes}
use Rattle.codec.proofs.Laws.Writing.{none_done, byte_done, flag_done, last_done}
use Rattle.codec.proofs.records.QueueRecord.write.Goals as goal

pub returns : goal.returns
unfolding queue_bytes
returns c =
    let d1 = flag_done (none_done c.args.b.now c.requires) c.args.self.now.created c.from.ensures (omega arith) in
    let d2 = byte_done d1 {x = c.args.self.now.words} refl (omega arith) in
    let d3 = byte_done d2 {x = c.args.self.now.storage} refl (omega arith) in
    let d4 = byte_done d3 {x = c.args.self.now.stored} refl (omega arith) in
    last_done d4 c.write_table.ensures store_size refl c.write_table.auto.b
