use Rattle.tape.proofs.Laws.Tapes.{lent_within, lent_length, lent-words}
use Rattle.replay.specs.Replay.{replay_text}
use Rattle.replay.proofs.put_run.Goals as goal

pub returns-then-is_refused : goal.returns-then-is_refused
unfolding replay_text
returns-then-is_refused g c = rw (← c.is_refused.ensures, c.if-is_refused.true) c.put_refused.ensures

pub slice_bounds-messages-end : goal.slice_bounds-messages-end
slice_bounds-messages-end g c =
    lent_within c.args.bytes.now c.messages-messages.result c.message_count-m.result c.messages-messages.ensures c.message_count-m.ensures

pub slice_bounds-put_calls-end : goal.slice_bounds-put_calls-end
slice_bounds-put_calls-end g c =
    lent_length c.args.bytes.now c.messages-messages.result c.message_count-m.result c.messages-messages.ensures c.message_count-m.ensures

pub returns : goal.returns
unfolding replay_text
returns g c =
    rw (← c.is_refused.ensures, c.if-is_refused.false)
    (rw (lent-words c.args.bytes.now c.messages-messages.result c.message_count-m.result c.messages-messages.ensures c.message_count-m.ensures) at c.put_calls.ensures)
