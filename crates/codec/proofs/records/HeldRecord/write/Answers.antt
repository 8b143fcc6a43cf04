use mathlib.Core.Path.{refl}
use native.Mathlib.Omega.{arith}
use Rattle.words.specs.Words.{word_size}
use Rattle.codec.specs.Layout.{words_size}
use Rattle.codec.specs.Bytes.{held_bytes}
use Rattle.codec.proofs.Laws.Writing.{none_done, byte_done, flag_done, part_done, all_done}
use Rattle.codec.proofs.records.HeldRecord.write.Goals as goal

pub returns : goal.returns
unfolding held_bytes
returns c =
    let d1 = part_done (none_done c.args.b.now c.requires) c.write.ensures word_size (omega arith) c.write.auto.b in
    let d2 = part_done d1 c.write_table.ensures words_size (omega arith) c.write_table.auto.b in
    let d3 = flag_done d2 c.args.self.now.sending c.from.ensures (omega arith) in
    let d4 = flag_done d3 c.args.self.now.front c.from-2.ensures (omega arith) in
    let d5 = part_done d4 c.write-2.ensures word_size (omega arith) c.write-2.auto.b in
    let d6 = byte_done d5 {x = c.args.self.now.option} refl (omega arith) in
    all_done d6 refl
