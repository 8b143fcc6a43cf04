use Rattle.output.proofs.Laws.Texts.{puts-append}
use Rattle.text.specs.Texts.{separated}
use Rattle.text.specs.Threads.{held_text}
use Rattle.text.proofs.thread_table.put_held.Goals as goal

pub returns : goal.returns
unfolding held_text separated
returns g c =
    puts-append
    (puts-append
    (puts-append (puts-append c.put_text.ensures (rw c.held_words.ensures at c.put_numbers.ensures)) c.put_request.ensures)
    c.put_text-2.ensures)
    (rw c.message.ensures at c.put_numbers-2.ensures)
