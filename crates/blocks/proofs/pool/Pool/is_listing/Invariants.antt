use mathlib.Core.Path.{◌≡◌}
use mathlib.Core.Bool.{true}
use lib.ListN.{length, take}
use Rattle.lines.specs.Lists.{below}
use Rattle.blocks.specs.Pools.{onceb}
use Rattle.blocks.proofs.Laws.Listings.{Tallied}
use Rattle.blocks.proofs.pool.Pool.is_listing.Given as goal

abbrev pub invariant-loop-x : goal.invariant-loop-x
invariant-loop-x l = (length l.counts ≡ 64) × Tallied l.counts (take l.x-index l.x-items) × (below l.blocks (take l.x-index l.x-items) ≡ true) × (onceb (take l.x-index l.x-items) ≡ true)
