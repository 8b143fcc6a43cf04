use Rattle.std.proofs.Common.{ℕ, take}
use Rattle.lines.specs.Lists.{numbers_from}
use Rattle.scheduler.specs.Threads.{ready_at}
use Rattle.scheduler.specs.Orders.{line_at}
use Rattle.output.specs.Texts.{Puts}
use Rattle.text.specs.Texts.{each_text}
use Rattle.text.specs.Threads.{order_text}
use Rattle.text.proofs.thread_table.put_orders.Given as goal

abbrev pub invariant-loop-p : goal.invariant-loop-p
invariant-loop-p g l =
    Puts l.fn.w (each_text (λ (m q : ℕ). order_text q (line_at l.s (ready_at q))) 0 (take l.p (numbers_from 0 32))) l.w
