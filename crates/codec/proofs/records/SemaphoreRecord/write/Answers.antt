use mathlib.Core.Path.{refl}
use native.Mathlib.Omega.{arith}
use Rattle.words.specs.Words.{word_size}
use Rattle.codec.specs.Bytes.{flagged_bytes}
use Rattle.codec.proofs.Laws.Writing.{none_done, flag_done, last_done}
use Rattle.codec.proofs.records.SemaphoreRecord.write.Goals as goal

pub returns : goal.returns
unfolding flagged_bytes
returns c =
    let d1 = flag_done (none_done c.args.b.now c.requires) c.args.self.now.created c.from.ensures (omega arith) in
    last_done d1 c.write.ensures word_size refl c.write.auto.b
