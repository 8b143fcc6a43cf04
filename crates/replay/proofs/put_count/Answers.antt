use Rattle.output.proofs.Laws.Texts.{puts-append}
use Rattle.replay.specs.Replay.{count_text}
use Rattle.replay.proofs.put_count.Goals as goal

pub returns : goal.returns
unfolding count_text
returns g c = puts-append c.put_field.ensures c.put_byte.ensures
