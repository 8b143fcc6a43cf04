use mathlib.Core.Path.{◌∙◌, ap}
use borrow.Author.Tests.{lt-ltb, le-ltb}
use Rattle.tape.specs.Tapes.{records_end, no_request, record_from, record_at}
use Rattle.tape.proofs.Laws.Tapes.{part_size, part_record}
use Rattle.tape.proofs.record_at.Goals as goal

pub returns-then-i-ge-MOST_RECORDS : goal.returns-then-i-ge-MOST_RECORDS
unfolding record_at no_request
returns-then-i-ge-MOST_RECORDS c = rw (le-ltb c.args.i 2048 c.if-i-ge-MOST_RECORDS.true)

pub record_of-requires : goal.record_of-requires
unfolding records_end
record_of-requires c = part_size _ _ 24 c.if-end-bytes.true

pub returns-then-end-bytes : goal.returns-then-end-bytes
unfolding record_at
returns-then-end-bytes c =
    let a = c.args in
    rw (lt-ltb a.i 2048 c.if-i-ge-MOST_RECORDS.false)
    (c.record_of.ensures ∙ part_record a.bytes.now c.records_end-at.result ∙ ap (record_from a.bytes.now) c.records_end-at.ensures)

pub returns-else-end-bytes : goal.returns-else-end-bytes
unfolding record_at record_from
returns-else-end-bytes c = rw (lt-ltb c.args.i 2048 c.if-i-ge-MOST_RECORDS.false, c.word.ensures, c.word-else-end-bytes.ensures, c.word-else-end-bytes-2.ensures, c.word-else-end-bytes-3.ensures, c.word-else-end-bytes-4.ensures, c.word-else-end-bytes-5.ensures, c.records_end-at.ensures)
