-- What calls 35 and 36 do; 33 creates a pool whose blocks are all free, 34 removes it, 37 prioritises its line.
use Rattle.std.specs.Prelude.{ℕ}
use Rattle.blocks.specs.Pools.{next_block, with_free}
use Rattle.calls.specs.Held.{one_word}
use Rattle.kernel.specs.declared.Kernel.{Kernel}
use Rattle.kernel.specs.Tables.{pool_at}
use Rattle.kernel.specs.Kinds.Kind.{pool}
use Rattle.kernel.specs.Edits.{Effect}
use Rattle.kernel.specs.Effects.{give_effect, take_effect}

-- rule 10.3: call 35, allocate: word 0 is the block; with no free block the caller waits
unfoldable pub allocate_effect : Kernel → ℕ → ℕ → Effect
allocate_effect k n wait = take_effect k pool n (one_word (next_block (pool_at k n))) wait

-- rule 10.4: call 36, release: the first waiter gets that very block, else the block is free again
unfoldable pub release_effect : Kernel → ℕ → ℕ → Effect
release_effect k n block = give_effect k pool n (one_word block) (with_free (pool_at k n) block)
