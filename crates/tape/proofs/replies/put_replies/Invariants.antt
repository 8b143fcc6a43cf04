use mathlib.Core.Path.{◌≡◌}
use Rattle.tape.specs.Replies.{replied_each}
use Rattle.tape.proofs.replies.put_replies.Given as goal

abbrev pub invariant-loop-i : goal.invariant-loop-i
invariant-loop-i l = l.replies ≡ replied_each l.initial.replies l.i l.r
