use borrow.Author.Tests.{eq-eqb, ne_eqb}
use Rattle.apachimo.specs.Library.{block_refusal}
use Rattle.apachimo.proofs.Laws.Library.{sized-flags}
use Rattle.apachimo.proofs.block_refusal.Goals as goal

pub returns-then-state-ne-STATE_BYTES : goal.returns-then-state-ne-STATE_BYTES
unfolding block_refusal
returns-then-state-ne-STATE_BYTES c = rw (ne_eqb _ _ c.if-state-ne-STATE_BYTES.true)

pub returns-then-are_fit : goal.returns-then-are_fit
unfolding block_refusal
returns-then-are_fit c = rw (eq-eqb _ _ c.if-state-ne-STATE_BYTES.false, ← sized-flags _ _ c.are_fit.ensures c.if-state-ne-STATE_BYTES.false, c.if-are_fit.true)

pub returns-else-are_fit : goal.returns-else-are_fit
unfolding block_refusal
returns-else-are_fit c = rw (eq-eqb _ _ c.if-state-ne-STATE_BYTES.false, ← sized-flags _ _ c.are_fit.ensures c.if-state-ne-STATE_BYTES.false, c.if-are_fit.false)
