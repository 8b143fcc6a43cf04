-- Laws of the block view.
use mathlib.Core.Path.{◌≡◌, refl, sym, ap, ◌∙◌}
use mathlib.Core.List.{List, []}
use mathlib.Core.Bool.{Bool, true, false, ◌&&◌}
use mathlib.Core.Logic.{◌⊎◌, inl, inr, ⊎_elim}
use Prim.Native.Nat.{ℕ, suc, ◌+◌, ◌-◌, ◌*◌, ◌≤◌, ◌<◌, min}
use native.Mathlib.Nat.{suc-mul, div-mul-le_self, mul-le-mul_right}
use native.Mathlib.Omega.{arith}
use lib.ListN.{length, take, drop, get_or, length-take, length-drop, get_or-append}
use lib.Seq.{paste, take_all, drop_at, length-take-le, get_or-take, get_or-drop, ext_get_or, length-paste, take-paste, drop-paste}
use lib.Dec.{eqb, ltb, leb}
use borrow.Author.Tests.{leb-true, ltb-true, ltb-false}
use Rattle.lines.specs.Logic.{one_if}
use Rattle.lines.specs.Lists.{count, numbers_from}
use Rattle.lines.specs.Lines.{pad}
use Rattle.lines.proofs.Laws.Logic.{by_test, and_left, and_right}
use Rattle.blocks.specs.declared.pool.Pool.{Pool}
use Rattle.blocks.specs.declared.view.Extent.{Extent}
use Rattle.blocks.specs.Pools.{blocks_of, free_blocks, listing, fresh_pool, usedb, without_next, with_free, block_start}
use Rattle.blocks.specs.Views.{viewedb, extent_of, viewed, written, p8, p8_area, ViewClaims}
use Rattle.std.proofs.lemmas.Slice.{between_is}

-- ---- where blocks lie
-- the next block's overhead starts where a block ends
next_start : (p : Pool) (n : ℕ) → suc n * (p.block + 4) ≡ block_start p n + p.block
unfolding block_start
next_start p n = let m = suc-mul n (p.block + 4) in omega (arith, m)

pub inside : (p : Pool) (n : ℕ) → usedb p n ≡ true → block_start p n + p.block ≤ p.total
unfolding usedb blocks_of
inside p n u =
    let a = mul-le-mul_right (p.block + 4) (ltb-true n (blocks_of p) (and_left (ltb n (blocks_of p)) (eqb (count n (free_blocks p)) 0) u)) in
    let b = div-mul-le_self p.total (p.block + 4) in
    let s = next_start p n in
    omega (arith, a, b, s)

-- the later of two blocks starts where the earlier ends, or further on
after : (p : Pool) (n m : ℕ) → n < m → block_start p n + p.block ≤ block_start p m
unfolding block_start
after p n m h = let a = mul-le-mul_right (p.block + 4) h in let s = next_start p n in omega (arith, a, s)

apart : (p : Pool) (n m : ℕ) → (n ≡ m → ⊥) → (block_start p n + p.block ≤ block_start p m) ⊎ (block_start p m + p.block ≤ block_start p n)
apart p n m ne =
    by_test (ltb n m)
    (λ q. inl (after p n m (ltb-true n m q)))
    (λ q. let h = ltb-false n m q in inr (after p m n (let z : m < n = omega (arith, h, ne) in z)))

-- ---- a block that is shown
module _ (p : Pool) (n len : ℕ) (v : viewedb p n len ≡ true) where
  abbrev ready : Bool
  ready = p.created && leb p.total len

  pub shown_used : usedb p n ≡ true
  unfolding viewedb
  shown_used = and_right ready (usedb p n) v

  -- it lies wholly inside the area
  pub shown_inside : block_start p n + p.block ≤ len
  unfolding viewedb
  shown_inside =
      let a = inside p n shown_used in
      let b = leb-true p.total len (and_right p.created (leb p.total len) (and_left ready (usedb p n) v)) in
      omega (arith, a, b)

  pub extent_shown : extent_of p n len ≡ record { start = block_start p n; length = p.block }
  unfolding extent_of
  extent_shown = rw v

pub extent_none : (p : Pool) (n len : ℕ) → viewedb p n len ≡ false → extent_of p n len ≡ record { start = 0; length = 0 }
unfolding extent_of
extent_none p n len v = rw v

-- shown or not, the extent lies inside the area
pub extent_inside : (p : Pool) (n len : ℕ) (e : Extent) → e ≡ extent_of p n len → e.start + e.length ≤ len
extent_inside p n len e q =
    let ends : Extent → ℕ = λ x. x.start + x.length in
    by_test (viewedb p n len)
    (λ v. let s = ap ends (q ∙ extent_shown p n len v) in let h = shown_inside p n len v in omega (arith, s, h))
    (λ v. let s = ap ends (q ∙ extent_none p n len v) in omega (arith, s))

-- ---- the part, and the area after a write, by the test
module _ (p : Pool) (n : ℕ) (area : List ℕ) where
  pub viewed_shown : viewedb p n (length area) ≡ true → viewed p n area ≡ take p.block (drop (block_start p n) area)
  unfolding viewed
  viewed_shown v = rw v

  pub viewed_none : viewedb p n (length area) ≡ false → viewed p n area ≡ []
  unfolding viewed
  viewed_none v = rw v

  -- the bytes of the extent
  pub extent-viewed : (e : Extent) → e ≡ extent_of p n (length area) → take (e.start + e.length - e.start) (drop e.start area) ≡ viewed p n area
  extent-viewed e q =
      let k : e.start + e.length - e.start ≡ e.length = omega arith in
      ap (λ (m : ℕ). take m (drop e.start area)) k
      ∙ by_test (viewedb p n (length area))
      (λ v. ap (λ (x : Extent). take x.length (drop x.start area)) (q ∙ extent_shown p n (length area) v) ∙ sym (viewed_shown v))
      (λ v. ap (λ (x : Extent). take x.length (drop x.start area)) (q ∙ extent_none p n (length area) v) ∙ sym (viewed_none v))

  module _ (bytes : List ℕ) where
    pub written_shown : viewedb p n (length area) ≡ true → written p n bytes area ≡ paste area (block_start p n) bytes (min (length bytes) p.block)
    unfolding written
    written_shown v = rw v

    pub written_none : viewedb p n (length area) ≡ false → written p n bytes area ≡ area
    unfolding written
    written_none v = rw v

    -- the bytes copied to the extent
    pub extent-written : (e : Extent) → e ≡ extent_of p n (length area) → paste area e.start bytes (min (length bytes) e.length) ≡ written p n bytes area
    extent-written e q =
        by_test (viewedb p n (length area))
        (λ v. ap (λ (x : Extent). paste area x.start bytes (min (length bytes) x.length)) (q ∙ extent_shown p n (length area) v) ∙ sym (written_shown v))
        (λ v. ap (λ (x : Extent). paste area x.start bytes (min (length bytes) x.length)) (q ∙ extent_none p n (length area) v) ∙ ap (λ (k : ℕ). paste area 0 bytes k) (let z : min (length bytes) 0 ≡ 0 = omega arith in z) ∙ sym (written_none v))

-- ---- what a write leaves
module _ (p : Pool) (n : ℕ) (bytes area : List ℕ) where
  abbrev at : ℕ
  at = block_start p n

  abbrev k : ℕ
  k = min (length bytes) p.block

  pub kept : length (written p n bytes area) ≡ length area
  kept =
      by_test (viewedb p n (length area))
      (λ v. let h = shown_inside p n (length area) v in
      ap length (written_shown p n area bytes v) ∙ length-paste area at bytes k (omega (arith, h)) (omega arith))
      (λ v. ap length (written_none p n area bytes v))

  -- of an area whose block is shown
  module _ (v : viewedb p n (length area) ≡ true) where
    front : at ≤ length area
    front = let h = shown_inside p n (length area) v in omega (arith, h)

    pub before_kept : (i : ℕ) → i < at → get_or (written p n bytes area) i 0 ≡ get_or area i 0
    before_kept i h =
        let f = front in
        let l = length-take-le at area f in
        ap (λ (xs : List ℕ). get_or xs i 0) (written_shown p n area bytes v)
        ∙ sym (get_or-take (at + k) (paste area at bytes k) i 0 (omega (arith, h)))
        ∙ ap (λ (xs : List ℕ). get_or xs i 0) (take-paste area at bytes k f (omega arith))
        ∙ get_or-append (take at area) (take k bytes) 0 i (omega (arith, h, l))
        ∙ get_or-take at area i 0 h

    pub behind_kept : (i : ℕ) → at + p.block ≤ i → get_or (written p n bytes area) i 0 ≡ get_or area i 0
    behind_kept i h =
        let j : at + k + (i - (at + k)) ≡ i = omega (arith, h) in
        ap (λ (xs : List ℕ). get_or xs i 0) (written_shown p n area bytes v)
        ∙ ap (λ (m : ℕ). get_or (paste area at bytes k) m 0) (sym j)
        ∙ sym (get_or-drop (at + k) (paste area at bytes k) (i - (at + k)) 0)
        ∙ ap (λ (xs : List ℕ). get_or xs (i - (at + k)) 0) (drop-paste area at bytes k front (omega arith))
        ∙ get_or-drop (at + k) area (i - (at + k)) 0
        ∙ ap (λ (m : ℕ). get_or area m 0) j

  pub outside : (i : ℕ) → (i < at) ⊎ (at + p.block ≤ i) → get_or (written p n bytes area) i 0 ≡ get_or area i 0
  outside i h =
      by_test (viewedb p n (length area))
      (λ v. ⊎_elim (before_kept v i) (behind_kept v i) h)
      (λ v. ap (λ (xs : List ℕ). get_or xs i 0) (written_none p n area bytes v))

  -- the same blocks are shown
  shown_kept : (m : ℕ) → viewedb p m (length (written p n bytes area)) ≡ viewedb p m (length area)
  shown_kept m = ap (viewedb p m) kept

  pub same : viewedb p n (length area) ≡ true → length bytes ≡ p.block → viewed p n (written p n bytes area) ≡ bytes
  same v l =
      let b : k ≡ p.block = omega (arith, l) in
      let j : at + p.block - at ≡ p.block = omega arith in
      viewed_shown p n (written p n bytes area) (shown_kept n ∙ v)
      ∙ ap (λ (xs : List ℕ). take p.block (drop at xs)) (written_shown p n area bytes v ∙ ap (paste area at bytes) b)
      ∙ ap (λ (m : ℕ). take m (drop at (paste area at bytes p.block))) (sym j)
      ∙ between_is (paste area at bytes p.block) at (at + p.block)
      ∙ ap (drop at) (take-paste area at bytes p.block (front v) (omega (arith, l)))
      ∙ drop_at (take at area) (take p.block bytes) at (length-take-le at area (front v))
      ∙ take_all p.block bytes (omega (arith, l))

  -- a byte of another block
  other_kept : (m : ℕ) → (n ≡ m → ⊥) → (i : ℕ) → i < p.block → get_or (written p n bytes area) (block_start p m + i) 0 ≡ get_or area (block_start p m + i) 0
  other_kept m ne i h =
      outside (block_start p m + i)
      (⊎_elim (λ q. inr (omega (arith, q))) (λ q. inl (omega (arith, q, h))) (apart p n m ne))

  pub others : (m : ℕ) → (n ≡ m → ⊥) → viewed p m (written p n bytes area) ≡ viewed p m area
  others m ne =
      by_test (viewedb p m (length area))
      (λ v. viewed_shown p m (written p n bytes area) (shown_kept m ∙ v) ∙ bytes_kept ∙ sym (viewed_shown p m area v))
      (λ v. viewed_none p m (written p n bytes area) (shown_kept m ∙ v) ∙ sym (viewed_none p m area v))
    where
      size : (xs : List ℕ) → length (take p.block (drop (block_start p m) xs)) ≡ min p.block (length xs - block_start p m)
      size xs = length-take p.block (drop (block_start p m) xs) ∙ ap (min p.block) (length-drop (block_start p m) xs)

      read : (xs : List ℕ) (i : ℕ) → i < p.block → get_or (take p.block (drop (block_start p m) xs)) i 0 ≡ get_or xs (block_start p m + i) 0
      read xs i h = get_or-take p.block (drop (block_start p m) xs) i 0 h ∙ get_or-drop (block_start p m) xs i 0

      bytes_kept : take p.block (drop (block_start p m) (written p n bytes area)) ≡ take p.block (drop (block_start p m) area)
      bytes_kept =
          ext_get_or 0 (take p.block (drop (block_start p m) (written p n bytes area))) (take p.block (drop (block_start p m) area))
          (size (written p n bytes area) ∙ ap (λ (l : ℕ). min p.block (l - block_start p m)) kept ∙ sym (size area))
          (λ i h. let z = size (written p n bytes area) in let b : i < p.block = omega (arith, h, z) in read (written p n bytes area) i b ∙ other_kept m ne i b ∙ sym (read area i b))

-- the part is that which the extent says
extent : (p : Pool) (n : ℕ) (area : List ℕ) → viewed p n area ≡ take (extent_of p n (length area)).length (drop (extent_of p n (length area)).start area)
unfolding extent_of viewed
extent p n area = by_test (viewedb p n (length area)) (λ v. rw v) (λ v. rw v)

pub sized : (p : Pool) (n : ℕ) (area : List ℕ) → viewedb p n (length area) ≡ true → length (viewed p n area) ≡ p.block
sized p n area v =
    let h = shown_inside p n (length area) v in
    let d = length-drop (block_start p n) area in
    ap length (viewed_shown p n area v) ∙ length-take-le p.block (drop (block_start p n) area) (omega (arith, h, d))

pub views : ViewClaims
unfolding viewedb viewed p8 p8_area blocks_of free_blocks listing fresh_pool usedb without_next with_free block_start count one_if numbers_from pad
views =
    record {
      inside = inside;
      apart = apart;
      extent = extent;
      sized = sized;
      same = same;
      kept = kept;
      outside = outside;
      others = λ p n m bytes area. others p n bytes area m;
      p8none = (refl, refl, refl, refl);
    }
