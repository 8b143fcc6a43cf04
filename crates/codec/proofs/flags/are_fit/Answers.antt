use mathlib.Core.Path.{sym, ◌∙◌}
use mathlib.Core.Bool.{◌&&◌}
use borrow.Author.Tests.{eq-eqb}
use Rattle.codec.proofs.Laws.Flags.{flags_by_field}
use Rattle.codec.proofs.flags.are_fit.Goals as goal

pub returns : goal.returns
returns c =
    rw (eq-eqb _ _ c.if-block-ne-STATE_BYTES.false)
    ((λ j. c.are_flags.ensures j && c.are_flags-2.ensures j && c.are_flags-3.ensures j && c.are_flags-4.ensures j && c.are_flags-5.ensures j && c.are_flags-6.ensures j && c.are_flags-7.ensures j && c.are_flags-8.ensures j && c.are_flags-9.ensures j)
    ∙ sym (flags_by_field c.args.block.now))
