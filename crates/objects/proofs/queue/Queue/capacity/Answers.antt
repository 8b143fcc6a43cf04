use mathlib.Core.Path.{◌≡◌}
use Prim.Native.Nat.{ℕ, ◌/◌, ◌<◌}
use native.Mathlib.Nat.{div-zero}
use native.Mathlib.Omega.{arith}
use Rattle.std.proofs.Common.{Option, Some, None, SomeIff}
use Rattle.std.specs.Option.{unwrap_or}
use Rattle.objects.specs.Queues.{capacity_of}
use Rattle.objects.proofs.queue.Queue.capacity.Goals as goal

-- a division by 0 gives 0
quotient : (o : Option ℕ) (x y : ℕ) → SomeIff o (0 < y) (x / y) → unwrap_or o 0 ≡ x / y
quotient None x y h = let z : y ≡ 0 = omega arith in rw (z, div-zero)
quotient (Some q) x y h = h.1

pub returns : goal.returns
unfolding capacity_of
returns c = let q = c.args.self in rw c.unwrap_or.ensures (quotient c.checked_div.result q.storage q.words c.checked_div.ensures)
