use Rattle.std.proofs.Common.{◌≡◌, take}
use Rattle.lines.specs.Lists.{filter}
use Rattle.lines.specs.Lines.{line_of}
use Rattle.scheduler.specs.Threads.{placedb}
use Rattle.scheduler.specs.Orders.{thread_at}
use Rattle.scheduler.proofs.Scheduler.line_at.Given as goal

abbrev pub invariant-loop-x : goal.invariant-loop-x
invariant-loop-x l = l.l ≡ line_of (filter (λ t. placedb l.p (thread_at l.self t)) (take l.x-index l.x-items))
