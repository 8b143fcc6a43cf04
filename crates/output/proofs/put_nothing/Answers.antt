use Rattle.output.proofs.Laws.Texts.{put_none}
use Rattle.output.proofs.put_nothing.Goals as goal

pub returns : goal.returns
returns c = rw c.min.ensures (put_none c.args.buf.now c.args.at)
