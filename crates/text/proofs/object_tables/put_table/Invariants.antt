use Rattle.std.proofs.Common.{ℕ, take}
use Rattle.scheduler.specs.Orders.{line_at}
use Rattle.output.specs.Texts.{Puts}
use Rattle.text.specs.Texts.{each_text}
use Rattle.text.proofs.object_tables.put_table.Given as goal

abbrev pub invariant-loop-i : goal.invariant-loop-i
invariant-loop-i g l =
    Puts l.fn.w (each_text (λ (n : ℕ) (x : _). g.T.Object.object_text n x (line_at l.s (g.T.Object.waiters n))) 0 (take l.i l.all)) l.w
