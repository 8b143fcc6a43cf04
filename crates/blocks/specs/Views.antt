-- The block view: which bytes of a lent pool area are a block's, and what the area is after a write into them.
use Rattle.std.specs.Prelude.{if◌then◌else◌, ◌≡◌, List, [], Bool, true, ◌&&◌, ◌⊎◌, ℕ, ◌+◌, ◌≤◌, ◌<◌, min, length, take, drop, get_or, leb}
use Rattle.std.proofs.Math.Seq.{paste}
use Rattle.lines.specs.Lists.{numbers_from}
use Rattle.blocks.specs.declared.pool.Pool.{Pool}
use Rattle.blocks.specs.declared.view.Extent.{Extent}
use Rattle.blocks.specs.Pools.{fresh_pool, usedb, without_next, with_free, block_start}

-- rule 10.5: a block is shown where the pool is created, the area is no shorter than the pool, and the block is in use
unfoldable pub viewedb : Pool → ℕ → ℕ → Bool
viewedb p n len = p.created && leb p.total len && usedb p n

-- rule 10.6: where block n lies in an area of len bytes; 0 bytes where it is not shown
unfoldable pub extent_of : Pool → ℕ → ℕ → Extent
extent_of p n len = if viewedb p n len then record { start = block_start p n; length = p.block } else record { start = 0; length = 0 }

-- rule 10.5: the part of the lent area that is block n; a part of length 0 where it is not shown
unfoldable pub viewed : Pool → ℕ → List ℕ → List ℕ
viewed p n area = if viewedb p n (length area) then take p.block (drop (block_start p n) area) else []

-- rule 10.6: the place in memory that lies n bytes on: the same object, a later byte of it
unfoldable pub onwards : ℕ → ℕ × ℕ → ℕ × ℕ
onwards n at = (at.0, n + at.1)

-- rule 10.7: the area after bytes are written to the front of block n, as many as it has room for: all others are as before
unfoldable pub written : Pool → ℕ → List ℕ → List ℕ → List ℕ
written p n bytes area = if viewedb p n (length area) then paste area (block_start p n) bytes (min (length bytes) p.block) else area

-- rules 10.5, 15.8: a pool of 100 bytes in blocks of 16, of which the first three are given
unfoldable pub p8 : Pool
p8 = without_next (without_next (without_next (fresh_pool 16 100)))

-- rule 10.5: its area, each of whose bytes is its own number
unfoldable pub p8_area : List ℕ
p8_area = numbers_from 0 100

-- rules 10.5 to 10.7: what is proved of these definitions. Its proof is `views` of proofs/Laws/Views.antt.
pub record ViewClaims : Type 0 where
  -- a block in use lies wholly inside the pool's total bytes
  pub inside : (p : Pool) (n : ℕ) → usedb p n ≡ true → block_start p n + p.block ≤ p.total
  -- two blocks have no byte in common
  pub apart : (p : Pool) (n m : ℕ) → (n ≡ m → ⊥)
      → (block_start p n + p.block ≤ block_start p m) ⊎ (block_start p m + p.block ≤ block_start p n)
  -- the part lies where the extent says
  pub extent : (p : Pool) (n : ℕ) (area : List ℕ)
      → viewed p n area ≡ take (extent_of p n (length area)).length (drop (extent_of p n (length area)).start area)
  -- the part has block bytes
  pub sized : (p : Pool) (n : ℕ) (area : List ℕ) → viewedb p n (length area) ≡ true → length (viewed p n area) ≡ p.block
  -- a block shows what was written to all of it
  pub same : (p : Pool) (n : ℕ) (bytes area : List ℕ) → viewedb p n (length area) ≡ true → length bytes ≡ p.block
      → viewed p n (written p n bytes area) ≡ bytes
  -- a write leaves the area's length and every byte outside the block as before
  pub kept : (p : Pool) (n : ℕ) (bytes area : List ℕ) → length (written p n bytes area) ≡ length area
  pub outside : (p : Pool) (n : ℕ) (bytes area : List ℕ) (i : ℕ) → (i < block_start p n) ⊎ (block_start p n + p.block ≤ i)
      → get_or (written p n bytes area) i 0 ≡ get_or area i 0
  -- so every other block shows what it showed
  pub others : (p : Pool) (n m : ℕ) (bytes area : List ℕ) → (n ≡ m → ⊥) → viewed p m (written p n bytes area) ≡ viewed p m area
  -- rule 10.5: an area one byte short, a free block, a block out of range, and a block that is released: length 0
  pub p8none : (viewed p8 2 (take 99 p8_area) ≡ []) × (viewed p8 3 p8_area ≡ [])
      × (viewed p8 5 p8_area ≡ []) × (viewed (with_free p8 2) 2 p8_area ≡ [])
