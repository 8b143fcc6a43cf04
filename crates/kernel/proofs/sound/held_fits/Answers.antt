use mathlib.Core.Path.{sym, ◌∙◌}
use Rattle.waiting.proofs.Laws.Fit.{paused, resting, unheld}
use Rattle.kernel.proofs.sound.held_fits.Goals as goal

pub returns-then-is_paused : goal.returns-then-is_paused
returns-then-is_paused c = c.paused_fits.ensures ∙ sym (paused _ _ (sym c.is_paused.ensures ∙ c.if-is_paused.true))

pub returns-then-th : goal.returns-then-th
returns-then-th c = c.resting_fits.ensures ∙ sym (resting _ _ (sym c.is_paused.ensures ∙ c.if-is_paused.false) c.if-th.true)

pub returns-else-th : goal.returns-else-th
returns-else-th c = c.unheld_fits.ensures ∙ sym (unheld _ _ c.if-th.false)
