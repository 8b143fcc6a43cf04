use mathlib.Core.Path.{◌≡◌, refl, sym, ap, ◌∙◌}
use mathlib.Core.List.{List, [], append-nil}
use mathlib.Core.Logic.{◌⊎◌}
use Prim.Native.Nat.{ℕ, ◌+◌, ◌≤◌, ◌<◌}
use native.Mathlib.Omega.{arith}
use lib.ListN.{length, drop}
use Rattle.std.proofs.Common.{Option, Some, None, MatchOption, slice_range}
use Rattle.std.proofs.lemmas.List.{drop_all}
use Rattle.std.proofs.lemmas.Slice.{between_to_end}
use Rattle.std.specs.Option.{unwrap_or}
use Rattle.blocks.specs.Pools.{without_next}
use Rattle.blocks.proofs.pool.Pool.without_next.Goals as goal

-- what `get(1..)` shows of a list, and nothing of an empty one
rest : {B : Type 0} (shown : B → List ℕ) (xs : List ℕ) (o : Option B) (d : B) → shown d ≡ []
    → MatchOption o ((length xs < 1) ⊎ (length xs < length xs))
    (λ x. (1 ≤ length xs) × (length xs ≤ length xs) × (shown x ≡ slice_range xs 1 (length xs)) × (length (shown x) + 1 ≡ length xs))
    → shown (unwrap_or o d) ≡ drop 1 xs
rest shown xs None d e m = e ∙ sym (drop_all 1 xs (omega arith))
rest shown xs (Some x) d e m = m.2 ∙ between_to_end xs 1 (length xs) (omega arith)

pub returns : goal.returns
unfolding without_next
returns c =
    let e = ap (λ (b : _). b.now) c.unwrap_or-left.ensures ∙ rest (λ b. b.now) c.free_blocks.result.now c.get.result _ refl c.get.ensures.lookup.0 in
    rw (c.listing.ensures, append-nil, e, c.free_blocks.ensures)
