use borrow.Author.Tests.{lt-ltb, le-ltb, eq-eqb, ne_eqb}
use Rattle.apachimo.specs.Library.{block_refusal, run_refusal}
use Rattle.apachimo.proofs.run_refusal.Goals as goal

pub returns-then-state-ne-STATE_BYTES : goal.returns-then-state-ne-STATE_BYTES
unfolding run_refusal
returns-then-state-ne-STATE_BYTES c = rw (ne_eqb _ _ c.if-state-ne-STATE_BYTES.true)

pub returns-then-is_refused : goal.returns-then-is_refused
unfolding run_refusal
returns-then-is_refused c = rw (eq-eqb _ _ c.if-state-ne-STATE_BYTES.false, ← c.is_refused.ensures, c.if-is_refused.true)

pub returns-then-room-n : goal.returns-then-room-n
unfolding run_refusal
returns-then-room-n c = rw (eq-eqb _ _ c.if-state-ne-STATE_BYTES.false, ← c.is_refused.ensures, c.if-is_refused.false, ← c.wanted-n.ensures, lt-ltb _ _ c.if-room-n.true)

pub returns : goal.returns
unfolding block_refusal run_refusal
returns c =
    let e = eq-eqb _ _ c.if-state-ne-STATE_BYTES.false in
    rw (e, ← c.is_refused.ensures, c.if-is_refused.false, ← c.wanted-n.ensures, le-ltb _ _ c.if-room-n.false) (rw e at c.block_refusal.ensures)
