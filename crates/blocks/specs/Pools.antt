-- A block pool's record: its sizes, its free blocks, and where a block lies.
use Rattle.std.specs.Prelude.{if◌then◌else◌, ◌≡◌, List, ◌∷◌, Bool, true, false, ◌&&◌, ℕ, ◌+◌, ◌*◌, ◌/◌, ◌%◌, ◌<◌, length, take, drop, get_or, replicate, eqb, ltb, leb}
use Rattle.numbers.specs.Numbers.{slots}
use Rattle.lines.specs.Logic.{all_below}
use Rattle.lines.specs.Lists.{count, below, numbers_from}
use Rattle.lines.specs.Lines.{pad}
use Rattle.lines.specs.Slots.{zero_from}
use Rattle.blocks.specs.declared.pool.Pool.{Pool}

-- rule 12.7: the record of a pool that is not created is zero
unfoldable pub no_pool : Pool
no_pool = record { created = false; block = 0; total = 0; free = 0; list = replicate slots 0 }

-- rule 10.1: how many blocks there are: the bytes of the pool divided by those of a block and 4, rounded down
unfoldable pub blocks_of : Pool → ℕ
blocks_of p = p.total / (p.block + 4)

-- rule 10.2: the free blocks, in the order in which they are given
unfoldable pub free_blocks : Pool → List ℕ
free_blocks p = take p.free p.list

-- rules 1.4, 3.3: the bytes of a block are a multiple of 4, from 4 to 256, and there are 1 to 64 blocks
unfoldable pub block_sizesb : ℕ → ℕ → Bool
block_sizesb block total =
    eqb (block % 4) 0 && leb 4 block && leb block 256 && leb 1 (total / (block + 4)) && leb (total / (block + 4)) slots

-- rule 12.6: the pool has sizes that are allowed
unfoldable pub pool_limitsb : Pool → Bool
pool_limitsb p = block_sizesb p.block p.total

-- no number below 64 stands twice in a list
unfoldable pub onceb : List ℕ → Bool
onceb xs = all_below slots (λ n. leb (count n xs) 1)

-- rule 12.6: a free block is one of the pool's, numbered from 0, and is listed once
unfoldable pub listingb : Pool → Bool
listingb p = below (blocks_of p) (free_blocks p) && onceb (free_blocks p)

-- rules 12.6, 12.7: no more blocks are free than there are, each is listed once, and the list past them is zero
unfoldable pub list_fitb : Pool → Bool
list_fitb p = leb p.free (blocks_of p) && listingb p && zero_from p.free p.list

-- rule 12.7: a record that is not created is zero
unfoldable pub pool_zerob : Pool → Bool
pool_zerob p = eqb p.block 0 && eqb p.total 0 && eqb p.free 0 && zero_from 0 p.list

-- rules 12.6, 12.7: the record is fit in itself, whoever waits
unfoldable pub pool_fitb : Pool → Bool
pool_fitb p = if p.created then (pool_limitsb p && list_fitb p) else pool_zerob p

-- ---- blocks
-- the pool with these free blocks, in the order in which they are given; the list has room for 64, and past them it is zero
unfoldable pub listing : Pool → List ℕ → Pool
listing p xs = record { created = p.created; block = p.block; total = p.total; free = length (take slots xs); list = pad slots xs }

-- rule 10.2: a created pool, all of whose blocks are free, in ascending order
unfoldable pub fresh_pool : ℕ → ℕ → Pool
fresh_pool block total =
    listing
    (record { created = true; block = block; total = total; free = 0; list = replicate slots 0 })
    (numbers_from 0 (total / (block + 4)))

-- rules 3.16, 10.4: block n is one of the pool's and in use
unfoldable pub usedb : Pool → ℕ → Bool
usedb p n = ltb n (blocks_of p) && eqb (count n (free_blocks p)) 0

-- rule 10.2: the block that is given next; 64, which is no block, where none is free
unfoldable pub next_block : Pool → ℕ
next_block p = get_or (free_blocks p) 0 slots

-- rule 10.3: the next block is given
unfoldable pub without_next : Pool → Pool
without_next p = listing p (drop 1 (free_blocks p))

-- rule 10.2: block n is free again, and is given first
unfoldable pub with_free : Pool → ℕ → Pool
with_free p n = listing p (n ∷ free_blocks p)

-- rule 10.1: where block n starts, counted from the area's first byte
unfoldable pub block_start : Pool → ℕ → ℕ
block_start p n = n * (p.block + 4) + 4

-- rule 10.2: what is proved of a fit record of a created pool. Its proof is `pools` of proofs/Laws/Pools.antt.
pub record PoolClaims : Type 0 where
  -- a block that is given is one of the pool's, and from then on in use
  pub given : (p : Pool) → pool_fitb p ≡ true → p.created ≡ true → length p.list ≡ slots
      → 0 < p.free → usedb (without_next p) (next_block p) ≡ true
  -- a block that is released is in use no more, and is given first
  pub released : (p : Pool) → pool_fitb p ≡ true → p.created ≡ true → (n : ℕ) → usedb p n ≡ true → usedb (with_free p n) n ≡ false
  pub last_first : (p : Pool) → pool_fitb p ≡ true → p.created ≡ true → (n : ℕ) → usedb p n ≡ true → next_block (with_free p n) ≡ n
