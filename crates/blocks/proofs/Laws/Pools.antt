-- Laws of a block pool's record.
use mathlib.Core.Path.{◌≡◌, refl, sym, ap, ap₂, ◌∙◌}
use mathlib.Core.List.{List, ◌∷◌}
use mathlib.Core.Bool.{Bool, true, false, ◌&&◌, and-false}
use Prim.Native.Nat.{ℕ, suc, ◌+◌, ◌-◌, ◌/◌, ◌%◌, ◌≤◌, ◌<◌, min}
use native.Mathlib.Nat.{not-suc-le-zero}
use native.Mathlib.Omega.{arith}
use lib.ListN.{length, take, drop, get_or, replicate, length-take, length-drop, get_or-eq_default}
use lib.Seq.{take_all, take-take}
use lib.Dec.{eqb, ltb, leb}
use borrow.Author.Tests.{eqb-true, eq-eqb, ne_eqb, leb-true, le-leb, ltb-true, ltb-false, lt-ltb}
use Rattle.lines.specs.Logic.{all_below}
use Rattle.lines.specs.Lists.{count, below, numbers_from}
use Rattle.lines.proofs.Laws.Logic.{by_test, by_eq, and_left, and_right, and_in, all-at, all_in}
use Rattle.lines.proofs.Laws.Lists.{below_out, below_in, at_most, count_here, count_there, length_numbers, take_numbers, numbers_past, numbers_once}
use Rattle.lines.proofs.Laws.Lines.{take-pad, pad-take, length-pad, get_d-pad}
use Rattle.blocks.specs.declared.pool.Pool.{Pool}
use Rattle.lines.specs.Slots.{zero_from}
use Rattle.blocks.specs.Pools.{no_pool, blocks_of, free_blocks, block_sizesb, pool_limitsb, onceb, listingb, list_fitb, pool_zerob, pool_fitb, listing, fresh_pool, usedb, next_block, without_next, with_free, PoolClaims}
use Rattle.lines.proofs.Laws.Slots.{none_used, zero_in}
use Rattle.blocks.proofs.Laws.Listings.{count_left, first_rest}

pub none_fit : pool_fitb no_pool ≡ true
unfolding pool_fitb pool_zerob no_pool zero_from all_below
none_fit = refl

-- ---- which test a record takes
pub fit-created : (p : Pool) → p.created ≡ true → pool_fitb p ≡ (pool_limitsb p && list_fitb p)
unfolding pool_fitb
fit-created p e = rw e

pub fit-uncreated : (p : Pool) → p.created ≡ false → pool_fitb p ≡ pool_zerob p
unfolding pool_fitb
fit-uncreated p e = rw e

-- the fields of an uncreated record but its list
abbrev fields_zero : Pool → Bool
fields_zero p = eqb p.block 0 && eqb p.total 0 && eqb p.free 0

-- where the fields are zero, the list behind the free blocks is the whole list
pub zero-list : (p : Pool) → (fields_zero p && zero_from p.free p.list) ≡ pool_zerob p
unfolding pool_zerob
zero-list p =
    none_used (fields_zero p) p.free p.list
    (λ e. eqb-true p.free 0 (and_right (eqb p.block 0 && eqb p.total 0) (eqb p.free 0) e))

-- ---- what fit sizes say
module _ (block total : ℕ) (e : block_sizesb block total ≡ true) where
  abbrev whole : Bool
  whole = eqb (block % 4) 0

  abbrev least : Bool
  least = leb 4 block

  abbrev most : Bool
  most = leb block 256

  abbrev some : Bool
  some = leb 1 (total / (block + 4))

  abbrev few : Bool
  few = leb (total / (block + 4)) 64

  limits : (whole && least && most && some && few) ≡ true
  unfolding block_sizesb
  limits = e

  sizes : (whole && least && most && some) ≡ true
  sizes = and_left (whole && least && most && some) few limits

  pub sizes-block : (block % 4 ≡ 0) × (4 ≤ block) × (block ≤ 256)
  sizes-block =
      let bytes = and_left (whole && least && most) some sizes in
      let ends = and_left (whole && least) most bytes in
      (eqb-true (block % 4) 0 (and_left whole least ends), leb-true 4 block (and_right whole least ends), leb-true block 256 (and_right (whole && least) most bytes))

  pub sizes_blocks : (1 ≤ total / (block + 4)) × (total / (block + 4) ≤ 64)
  sizes_blocks = (
    leb-true 1 (total / (block + 4)) (and_right (whole && least && most) some sizes),
    leb-true (total / (block + 4)) 64 (and_right (whole && least && most && some) few limits),
  )

  -- a fit size has two bytes
  pub block_half : min block 65535 ≡ block
  block_half = let h = sizes-block.2 in omega (arith, h)

-- ---- what a fit record of a created pool says
module _ (p : Pool) (e : pool_fitb p ≡ true) (u : p.created ≡ true) where
  abbrev room : Bool
  room = leb p.free (blocks_of p)

  abbrev tail : Bool
  tail = zero_from p.free p.list

  both : (pool_limitsb p && list_fitb p) ≡ true
  both = sym (fit-created p u) ∙ e

  pub fit_sizes : block_sizesb p.block p.total ≡ true
  unfolding pool_limitsb
  fit_sizes = and_left (pool_limitsb p) (list_fitb p) both

  lists : (room && listingb p && tail) ≡ true
  unfolding list_fitb
  lists = and_right (pool_limitsb p) (list_fitb p) both

  listed : (below (blocks_of p) (free_blocks p) && onceb (free_blocks p)) ≡ true
  unfolding listingb
  listed = and_right room (listingb p) (and_left (room && listingb p) tail lists)

  pub fit_blocks : (1 ≤ blocks_of p) × (blocks_of p ≤ 64)
  unfolding blocks_of
  fit_blocks = sizes_blocks p.block p.total fit_sizes

  pub fit_free : p.free ≤ blocks_of p
  fit_free = leb-true p.free (blocks_of p) (and_left room (listingb p) (and_left (room && listingb p) tail lists))

  pub fit-below : below (blocks_of p) (free_blocks p) ≡ true
  fit-below = and_left (below (blocks_of p) (free_blocks p)) (onceb (free_blocks p)) listed

  -- no number but those of the pool's blocks is listed
  pub fit_out : (n : ℕ) → blocks_of p ≤ n → count n (free_blocks p) ≡ 0
  fit_out = below_out (blocks_of p) (free_blocks p) fit-below

  -- no block of any number is listed twice
  pub fit_once : (n : ℕ) → count n (free_blocks p) ≤ 1
  unfolding onceb
  fit_once n =
      by_test (ltb n 64)
      (λ q. leb-true (count n (free_blocks p)) 1 (all-at 64 (λ k. leb (count k (free_blocks p)) 1) (and_right (below (blocks_of p) (free_blocks p)) (onceb (free_blocks p)) listed) n (ltb-true n 64 q)))
      (λ q. let h = ltb-false n 64 q in let b = fit_blocks.1 in let z = fit_out n (omega (arith, h, b)) in omega (arith, z))

  -- as many blocks are listed as the record says
  pub fit_length : length p.list ≡ 64 → length (free_blocks p) ≡ p.free
  unfolding free_blocks
  fit_length l = let m = length-take p.free p.list in let f = fit_free in let b = fit_blocks.1 in omega (arith, m, f, b, l)

-- ---- the free blocks, as they are read from the list
module _ (p : Pool) (n : ℕ) (e : n ≡ length (free_blocks p)) where
  pub listed_most : n ≤ length p.list
  unfolding free_blocks
  listed_most = let m = length-take p.free p.list in omega (arith, m, e)

-- ---- a pool with other free blocks
-- the list has room for 64
pub listing-take : (p : Pool) (xs : List ℕ) → listing p (take 64 xs) ≡ listing p xs
unfolding listing
listing-take p xs =
    let a = ap length (take-take 64 64 xs (omega arith)) in
    let b = pad-take 64 xs in
    λ i. record { created = p.created; block = p.block; total = p.total; free = a i; list = b i }

-- of any number of blocks the first 64
pub listing_numbers : (p : Pool) (n k : ℕ) → k ≡ min n 64 → listing p (take k (numbers_from 0 64)) ≡ listing p (numbers_from 0 n)
listing_numbers p n k e =
    ap (listing p)
    (take_numbers k 0 64 ∙ ap (numbers_from 0) (let z : min k 64 ≡ min 64 n = omega (arith, e) in z) ∙ sym (take_numbers 64 0 n))
    ∙ listing-take p (numbers_from 0 n)

-- what is listed is read back, where there is room
pub listing-free : (p : Pool) (xs : List ℕ) → length xs ≤ 64 → (listing p xs).free ≡ length xs
unfolding listing
listing-free p xs h = ap length (take_all 64 xs h)

pub listing_blocks : (p : Pool) (xs : List ℕ) → length xs ≤ 64 → free_blocks (listing p xs) ≡ xs
unfolding listing free_blocks
listing_blocks p xs h = take-pad 64 xs ∙ take_all 64 xs h

pub listing-slots : (p : Pool) (xs : List ℕ) → length (listing p xs).list ≡ 64
unfolding listing
listing-slots p xs = length-pad 64 xs

listing_clean : (p : Pool) (xs : List ℕ) (i : ℕ) → length xs ≤ i → i < 64 → get_or (listing p xs).list i 0 ≡ 0
unfolding listing
listing_clean p xs i l h = get_d-pad 64 xs i h ∙ get_or-eq_default xs 0 l

-- ---- what stays as it is
-- two pools of the same sizes, both created or both not
abbrev pub Alike : Pool → Pool → Type 0
Alike r p = (r.created ≡ p.created) × (r.block ≡ p.block) × (r.total ≡ p.total)

pub alike_blocks : (r p : Pool) → Alike r p → blocks_of r ≡ blocks_of p
unfolding blocks_of
alike_blocks r p a = ap₂ (λ (t b : ℕ). t / (b + 4)) a.2 a.1

pub listing_alike : (p : Pool) (xs : List ℕ) → Alike (listing p xs) p
unfolding listing
listing_alike p xs = (refl, refl, refl)

pub without_alike : (p : Pool) → Alike (without_next p) p
unfolding without_next
without_alike p = listing_alike p _

pub with_alike : (p : Pool) (n : ℕ) → Alike (with_free p n) p
unfolding with_free
with_alike p n = listing_alike p _

-- ---- fit records
-- a created pool with fit sizes, each of whose free blocks is one of its blocks and stands in the list once
module _ (p : Pool) (u : p.created ≡ true) (s : block_sizesb p.block p.total ≡ true) (xs : List ℕ)
    (one : (t : ℕ) → count t xs ≤ 1) (out : (t : ℕ) → blocks_of p ≤ t → count t xs ≡ 0) where
  pub listing_room : length xs ≤ 64
  unfolding blocks_of
  listing_room =
      let a = at_most (blocks_of p) xs one out in
      let b = (sizes_blocks p.block p.total s).1 in
      omega (arith, a, b)

  pub listing_fit : pool_fitb (listing p xs) ≡ true
  unfolding pool_limitsb list_fitb listingb onceb
  listing_fit =
      let r = listing p xs in
      let f = listing-free p xs listing_room in
      let g = listing_blocks p xs listing_room in
      let k = listing_alike p xs in
      let n = alike_blocks r p k in
      let a = at_most (blocks_of p) xs one out in
      fit-created r (k.0 ∙ u)
      ∙ and_in (pool_limitsb r) (list_fitb r)
      (ap₂ block_sizesb k.1 k.2 ∙ s)
      (and_in (leb r.free (blocks_of r) && listingb r) (zero_from r.free r.list)
      (and_in (leb r.free (blocks_of r)) (listingb r)
      (le-leb r.free (blocks_of r) (omega (arith, f, n, a)))
      (and_in (below (blocks_of r) (free_blocks r)) (onceb (free_blocks r))
      (ap₂ below n g ∙ below_in (blocks_of p) xs out)
      (all_in 64 (λ t. leb (count t (free_blocks r)) 1) (λ t h. ap (λ (ys : List ℕ). leb (count t ys) 1) g ∙ le-leb (count t xs) 1 (one t)))))
      (zero_in r.free r.list (λ i l h. listing_clean p xs i (omega (arith, f, l)) h)))

-- ---- a created pool
module _ (block total : ℕ) (e : block_sizesb block total ≡ true) where
  abbrev bare : Pool
  bare = record { created = true; block = block; total = total; free = 0; list = replicate 64 0 }

  abbrev all : List ℕ
  all = numbers_from 0 (total / (block + 4))

  past : (t : ℕ) → total / (block + 4) ≤ t → count t all ≡ 0
  past t h = numbers_past 0 (total / (block + 4)) t (omega (arith, h))

  pub fresh_fit : pool_fitb (fresh_pool block total) ≡ true
  unfolding fresh_pool blocks_of
  fresh_fit = listing_fit bare refl e all (numbers_once 0 (total / (block + 4))) past

  pub fresh-free : (fresh_pool block total).free ≡ blocks_of (fresh_pool block total)
  unfolding fresh_pool blocks_of
  fresh-free =
      listing-free bare all (listing_room bare refl e all (numbers_once 0 (total / (block + 4))) past)
      ∙ length_numbers 0 (total / (block + 4))
      ∙ sym (alike_blocks (listing bare all) bare (listing_alike bare all))

-- ---- a block is given, or is free again
module _ (p : Pool) (e : pool_fitb p ≡ true) (u : p.created ≡ true) where
  left_once : (t : ℕ) → count t (drop 1 (free_blocks p)) ≤ 1
  left_once t = let a = count_left t (free_blocks p) in let b = fit_once p e u t in omega (arith, a, b)

  left_out : (t : ℕ) → blocks_of p ≤ t → count t (drop 1 (free_blocks p)) ≡ 0
  left_out t h = let a = count_left t (free_blocks p) in let b = fit_out p e u t h in omega (arith, a, b)

  pub without_fit : pool_fitb (without_next p) ≡ true
  unfolding without_next
  without_fit = listing_fit p u (fit_sizes p e u) (drop 1 (free_blocks p)) left_once left_out

  left_room : length (drop 1 (free_blocks p)) ≤ 64
  left_room = listing_room p u (fit_sizes p e u) (drop 1 (free_blocks p)) left_once left_out

  pub without_blocks : free_blocks (without_next p) ≡ drop 1 (free_blocks p)
  unfolding without_next
  without_blocks = listing_blocks p (drop 1 (free_blocks p)) left_room

  -- a block in use, which may be released
  module _ (n : ℕ) (w : usedb p n ≡ true) where
    pub used-below : n < blocks_of p
    unfolding usedb
    used-below = ltb-true n (blocks_of p) (and_left (ltb n (blocks_of p)) (eqb (count n (free_blocks p)) 0) w)

    pub used_small : n < 64
    used_small = let a = used-below in let b = (fit_blocks p e u).1 in omega (arith, a, b)

    pub used_unlisted : count n (free_blocks p) ≡ 0
    unfolding usedb
    used_unlisted = eqb-true (count n (free_blocks p)) 0 (and_right (ltb n (blocks_of p)) (eqb (count n (free_blocks p)) 0) w)

    more_once : (t : ℕ) → count t (n ∷ free_blocks p) ≤ 1
    more_once t =
        by_eq n t
        (λ q. let a : count t (n ∷ free_blocks p) ≡ suc (count n (free_blocks p)) = ap (λ (k : ℕ). count k (n ∷ free_blocks p)) (sym q) ∙ count_here n (free_blocks p) in let b = used_unlisted in omega (arith, a, b))
        (λ q. let a = count_there t n (free_blocks p) q in let b = fit_once p e u t in omega (arith, a, b))

    more_out : (t : ℕ) → blocks_of p ≤ t → count t (n ∷ free_blocks p) ≡ 0
    more_out t h =
        count_there t n (free_blocks p) (λ q. not-suc-le-zero (let a = used-below in let y : 1 ≤ 0 = omega (arith, a, h, q) in y))
        ∙ fit_out p e u t h

    pub with_fit : pool_fitb (with_free p n) ≡ true
    unfolding with_free
    with_fit = listing_fit p u (fit_sizes p e u) (n ∷ free_blocks p) more_once more_out

    -- there is room
    more_room : length (n ∷ free_blocks p) ≤ 64
    more_room = listing_room p u (fit_sizes p e u) (n ∷ free_blocks p) more_once more_out

    pub with_blocks : free_blocks (with_free p n) ≡ n ∷ free_blocks p
    unfolding with_free
    with_blocks = listing_blocks p (n ∷ free_blocks p) more_room

    -- the last released is given first
    pub with-next : next_block (with_free p n) ≡ n
    unfolding next_block
    with-next = ap (λ (xs : List ℕ). get_or xs 0 64) with_blocks

    pub with_unused : usedb (with_free p n) n ≡ false
    unfolding usedb
    with_unused =
        let c : count n (free_blocks (with_free p n)) ≡ suc (count n (free_blocks p)) = ap (count n) with_blocks ∙ count_here n (free_blocks p) in
        let f = ne_eqb (count n (free_blocks (with_free p n))) 0 (λ z. not-suc-le-zero (let y : 1 ≤ 0 = omega (arith, z, c) in y)) in
        ap (λ (b : Bool). ltb n (blocks_of (with_free p n)) && b) f ∙ and-false (ltb n (blocks_of (with_free p n)))

  -- the list of a record has 64 slots, so as many blocks are listed as the record says
  module _ (l : length p.list ≡ 64) where
    pub without-free : (without_next p).free ≡ p.free - 1
    unfolding without_next
    without-free =
        listing-free p (drop 1 (free_blocks p)) left_room
        ∙ length-drop 1 (free_blocks p)
        ∙ ap (λ (k : ℕ). k - 1) (fit_length p e u l)

    pub with-free : (n : ℕ) → usedb p n ≡ true → (with_free p n).free ≡ p.free + 1
    unfolding with_free
    with-free n w =
        let a = listing-free p (n ∷ free_blocks p) (more_room n w) in
        let b = fit_length p e u l in
        omega (arith, a, b)

    module _ (h : 0 < p.free) where
      next-first : free_blocks p ≡ next_block p ∷ drop 1 (free_blocks p)
      unfolding next_block
      next-first = first_rest (free_blocks p) 64 (let a = fit_length p e u l in omega (arith, a, h))

      next-twice : count (next_block p) (free_blocks p) ≡ suc (count (next_block p) (drop 1 (free_blocks p)))
      next-twice = ap (count (next_block p)) next-first ∙ count_here (next_block p) (drop 1 (free_blocks p))

      next-below : next_block p < blocks_of p
      next-below =
          by_test (ltb (next_block p) (blocks_of p))
          (λ q. ltb-true (next_block p) (blocks_of p) q)
          (λ q. let a = fit_out p e u (next_block p) (ltb-false (next_block p) (blocks_of p) q) in let b = next-twice in absurd (not-suc-le-zero (let y : 1 ≤ 0 = omega (arith, a, b) in y)))

      pub next_used : usedb (without_next p) (next_block p) ≡ true
      unfolding usedb
      next_used =
          let b = alike_blocks (without_next p) p (without_alike p) in
          let c = next-twice in
          let o = fit_once p e u (next_block p) in
          let r = next-below in
          and_in (ltb (next_block p) (blocks_of (without_next p))) (eqb (count (next_block p) (free_blocks (without_next p))) 0)
          (lt-ltb (next_block p) (blocks_of (without_next p)) (omega (arith, b, r)))
          (eq-eqb (count (next_block p) (free_blocks (without_next p))) 0
          (ap (count (next_block p)) without_blocks ∙ (let z : count (next_block p) (drop 1 (free_blocks p)) ≡ 0 = omega (arith, c, o) in z)))

pub pools : PoolClaims
pools = record { given = next_used; released = with_unused; last_first = with-next }
