use Rattle.output.proofs.Laws.Texts.{puts-append}
use Rattle.replay.specs.Replay.{record_text, answer_text}
use Rattle.replay.proofs.put_answer.Goals as goal

pub returns : goal.returns
unfolding answer_text record_text
returns g c =
    puts-append
    (puts-append (puts-append (puts-append (rw c.from.ensures at c.put_decimal.ensures) c.put_byte.ensures) c.put_thread.ensures) c.put_field.ensures)
    c.put_byte-2.ensures
