use mathlib.Core.Path.{sym, ◌∙◌}
use Rattle.codec.proofs.Laws.Sizes.{sized_tables}
use Rattle.apachimo.specs.Library.{sound_status}
use Rattle.apachimo.proofs.Laws.Library.{block_sized, status_given}
use Rattle.apachimo.proofs.apachimo_is_sound.Goals as goal

pub returns-in-Err : goal.returns-in-Err
unfolding sound_status
returns-in-Err c = rw (← c.in-Err.ensures, status_given c.in-Err.refused) c.into.ensures

pub returns-then-is_sound : goal.returns-then-is_sound
unfolding sound_status
returns-then-is_sound c =
    let e = c.kernel_of-k.ensures ∙ sized_tables _ (block_sized _ (sym c.in_default.ensures)) in
    rw (← c.in_default.ensures, ← e, ← c.is_sound.ensures, c.if-is_sound.true)

pub returns-else-is_sound : goal.returns-else-is_sound
unfolding sound_status
returns-else-is_sound c =
    let e = c.kernel_of-k.ensures ∙ sized_tables _ (block_sized _ (sym c.in_default.ensures)) in
    rw (← c.in_default.ensures, ← e, ← c.is_sound.ensures, c.if-is_sound.false)
