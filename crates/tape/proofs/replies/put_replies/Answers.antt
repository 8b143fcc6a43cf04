use mathlib.Core.Path.{refl, ap, ◌∙◌}
use mathlib.Core.List.{List}
use Prim.Native.Nat.{ℕ}
use native.Mathlib.Numerals.{add-one}
use Rattle.tape.specs.Replies.{replied, replied_each}
use Rattle.tape.proofs.replies.put_replies.Goals as goal

pub loop-i-init : goal.loop-i-init
unfolding replied_each
loop-i-init c = refl

pub loop-i-preserved : goal.loop-i-preserved
unfolding replied_each
loop-i-preserved c = rw add-one (c.put_reply.ensures ∙ ap (λ (xs : List ℕ). replied xs c.loop-i.i c.args.r) c.loop-i.invariant)
