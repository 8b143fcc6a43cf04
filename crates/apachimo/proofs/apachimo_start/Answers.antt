use mathlib.Core.Path.{refl, ap, ◌∙◌}
use borrow.Author.Tests.{eq-eqb, ne_eqb}
use Rattle.codec.specs.Bytes.{bytes_of}
use Rattle.codec.proofs.Laws.Sizes.{sized_after}
use Rattle.apachimo.specs.Library.{start_status, start_block}
use Rattle.apachimo.proofs.apachimo_start.Goals as goal

pub returns-then-state-ne-STATE_BYTES : goal.returns-then-state-ne-STATE_BYTES
unfolding start_status start_block
returns-then-state-ne-STATE_BYTES c = rw (ne_eqb _ _ c.if-state-ne-STATE_BYTES.true) record { value = refl; state_after = refl }

pub returns : goal.returns
unfolding start_status start_block
returns c = rw (eq-eqb _ _ c.if-state-ne-STATE_BYTES.false) record { value = refl; state_after = c.put_kernel.ensures ∙ sized_after _ _ c.if-state-ne-STATE_BYTES.false ∙ ap bytes_of c.start.ensures }
