-- Tables that are read from a block record by record.
use mathlib.Core.Path.{◌≡◌, refl, sym, ap, ◌∙◌}
use mathlib.Core.List.{List, [], ◌∷◌, ◌++◌, map}
use Prim.Native.Nat.{ℕ, zero, suc, ◌+◌, ◌-◌, ◌*◌, ◌≤◌, ◌<◌}
use native.Mathlib.Omega.{arith}
use native.Mathlib.Numerals.{add-one}
use native.Mathlib.Nat.{mul-suc, mul-le-mul_left}
use lib.ListN.{length, take, drop, set, length-set, length-drop}
use lib.Seq.{take_all, take-suc-set, length-take-le}
use Rattle.lines.specs.Lists.{numbers_from}
use Rattle.codec.specs.Blocks.{part, table_of}

-- a range of a block is the part that it says
part_range : (b : List ℕ) (p n : ℕ) → take (p + n - p) (drop p b) ≡ part p n b
unfolding part
part_range b p n = ap (λ (k : ℕ). take k (drop p b)) (let r : p + n - p ≡ n = omega arith in r)

-- record i of n records of `size` bytes ends within the block, and its range has its size
module _ (b : List ℕ) (size n i : ℕ) (h : i < n) (k : length b ≡ size * n) where
  pub record_end : size * i + size ≤ length b
  record_end = let m = mul-le-mul_left size h in let e = mul-suc size i in omega arith

  pub range_size : length (take (size * i + size - size * i) (drop (size * i) b)) ≡ size
  range_size =
      let e = record_end in
      let d = length-drop (size * i) b in
      length-take-le (size * i + size - size * i) (drop (size * i) b) (omega arith) ∙ (let z : size * i + size - size * i ≡ size = omega arith in z)

-- the first i of n records of `size` bytes are read into the table l
pub record Read {A : Type 0} (read : List ℕ → A) (size n : ℕ) (b : List ℕ) (l : List A) (i : ℕ) : Type 0 where
  pub within : i ≤ n
  pub long : length l ≡ n
  pub whole : length b ≡ size * n
  pub front : take i l ≡ table_of read size i b

module _ {A : Type 0} (read : List ℕ → A) (size n : ℕ) (b : List ℕ) where
  made_last : (f : ℕ → A) (j k : ℕ) → map f (numbers_from j (suc k)) ≡ map f (numbers_from j k) ++ (f (j + k) ∷ [])
  unfolding numbers_from
  made_last f j zero = ap (λ (m : ℕ). f m ∷ []) (let e : j ≡ j + 0 = omega arith in e)
  made_last f j (suc k) =
      ap (λ (l : List A). f j ∷ l) (made_last f (suc j) k ∙ ap (λ (m : ℕ). map f (numbers_from (suc j) k) ++ (f m ∷ [])) (let e : suc j + k ≡ j + suc k = omega arith in e))

  -- the records are as many as the table's elements
  pub read_none : (l : List A) → length l ≡ n → length b ≡ size * n → Read read size n b l 0
  unfolding table_of numbers_from
  read_none l h k = record { within = omega arith; long = h; whole = k; front = refl }

  -- one more record
  pub read_more : (l : List A) (i : ℕ) (x : A) → Read read size n b l i → i < n → x ≡ read (take (size * i + size - size * i) (drop (size * i) b)) → Read read size n b (set l i x) (i + 1)
  unfolding table_of
  read_more l i x r h v =
      record {
        within = omega arith;
        long = simp length-set r.long;
        whole = r.whole;
        front =
            rw add-one
            (take-suc-set l i x (omega arith)
            ∙ (λ j. r.front j ++ ((v ∙ ap read (part_range b (size * i) size)) j ∷ []))
            ∙ ap (λ (k : ℕ). table_of read size i b ++ (read (part (size * k) size b) ∷ [])) (let z : i ≡ 0 + i = omega arith in z)
            ∙ sym (made_last (λ (j : ℕ). read (part (size * j) size b)) 0 i));
      }

  -- all records
  pub read_all : (l : List A) (i : ℕ) → Read read size n b l i → n ≤ i → l ≡ table_of read size n b
  read_all l i r h =
      let q : i ≡ n = omega arith in
      sym (take_all i l (omega arith)) ∙ r.front ∙ ap (λ (k : ℕ). table_of read size k b) q

  -- the record that is read has its size
  pub record_size : (l : List A) (i : ℕ) → Read read size n b l i → i < n → length (take (size * i + size - size * i) (drop (size * i) b)) ≡ size
  record_size l i r h = range_size b size n i h r.whole

-- what proves each need of a loop that reads a table
pub ruleset reads = (read_none, read_more, read_all, record_size)
