use Rattle.output.proofs.Laws.Texts.{puts-append}
use Rattle.text.specs.Threads.{request_text}
use Rattle.text.proofs.Laws.Texts.{bit_is}
use Rattle.text.proofs.thread_table.put_request.Goals as goal

pub returns : goal.returns
unfolding request_text
returns g c =
    puts-append
    (puts-append
    (puts-append (rw c.from.ensures at c.put_field.ensures) (rw (c.from-2.ensures, bit_is c.args.h.now.front) at c.put_field-2.ensures))
    c.put_field-3.ensures)
    (rw c.from-3.ensures at c.put_field-4.ensures)
