use Rattle.output.proofs.Laws.Texts.{puts-append}
use Rattle.text.specs.Threads.{marks_text}
use Rattle.text.proofs.Laws.Texts.{bit_is}
use Rattle.text.proofs.thread_table.put_marks.Goals as goal

pub returns : goal.returns
unfolding marks_text
returns g c =
    let th = c.args.th.now in
    puts-append
    (puts-append (rw (c.from.ensures, bit_is th.marked) at c.put_field.ensures) (rw (c.from-2.ensures, bit_is th.suspending) at c.put_field-2.ensures))
    c.put_field-3.ensures
