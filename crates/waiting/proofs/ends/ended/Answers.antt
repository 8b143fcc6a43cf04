use Rattle.waiting.proofs.ends.ended.Goals as goal

pub returns : goal.returns
returns c = rw (c.reason_of.ensures, c.of-held.ensures, c.status_left.ensures)
