use mathlib.Core.Path.{refl}
use native.Mathlib.Omega.{arith}
use Rattle.words.specs.Words.{word_size}
use Rattle.codec.specs.Bytes.{thread_bytes}
use Rattle.codec.proofs.Laws.Writing.{none_done, byte_done, flag_done, last_done}
use Rattle.codec.proofs.records.ThreadRecord.write.Goals as goal

pub returns : goal.returns
unfolding thread_bytes
returns c =
    let d1 = flag_done (none_done c.args.b.now c.requires) c.args.self.now.created c.from.ensures (omega arith) in
    let d2 = byte_done d1 {x = c.args.self.now.state} refl (omega arith) in
    let d3 = byte_done d2 {x = c.args.self.now.priority} refl (omega arith) in
    let d4 = byte_done d3 {x = c.args.self.now.threshold} refl (omega arith) in
    let d5 = flag_done d4 c.args.self.now.marked c.from-2.ensures (omega arith) in
    let d6 = flag_done d5 c.args.self.now.suspending c.from-3.ensures (omega arith) in
    let d7 = byte_done d6 {x = c.args.self.now.object} refl (omega arith) in
    last_done d7 c.write.ensures word_size refl c.write.auto.b
