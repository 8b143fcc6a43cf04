-- The block view from the tables: which bytes of a lent pool area are a block's, and what the area is after a write into them.
use Rattle.std.specs.Prelude.{if◌then◌else◌, List, ℕ}
use Rattle.blocks.specs.declared.pool.Pool.{Pool}
use Rattle.blocks.specs.declared.view.Extent.{Extent}
use Rattle.blocks.specs.Pools.{no_pool}
use Rattle.blocks.specs.Views.{extent_of, viewed, written}
use Rattle.kernel.specs.declared.Kernel.{Kernel}
use Rattle.kernel.specs.Tables.{pool_at}
use Rattle.kernel.specs.Sound.{soundb}

-- rule 10.5: pool n of sound tables; of unsound ones a pool that is not created, of which no block is shown
unfoldable pub viewed_pool : Kernel → ℕ → Pool
viewed_pool k n = if soundb k then pool_at k n else no_pool

-- rule 10.6: where a block of pool n lies in an area of len bytes
unfoldable pub block_extent : Kernel → ℕ → ℕ → ℕ → Extent
block_extent k n block len = extent_of (viewed_pool k n) block len

-- rule 10.5: a block of pool n as a part of the lent area
unfoldable pub block_view : Kernel → ℕ → ℕ → List ℕ → List ℕ
block_view k n block area = viewed (viewed_pool k n) block area

-- rule 10.7: the area after bytes are written to the front of a block of pool n
unfoldable pub block_written : Kernel → ℕ → ℕ → List ℕ → List ℕ → List ℕ
block_written k n block bytes area = written (viewed_pool k n) block bytes area
