-- Blocks that are written from front to end: bytes and parts one behind the other, and tables record by record.
use mathlib.Core.Path.{◌≡◌, refl, sym, ap, ◌∙◌}
use mathlib.Core.List.{List, [], ◌∷◌, ◌++◌, append_assoc, append-nil}
use mathlib.Core.Bool.{Bool, true, false}
use Prim.Native.Nat.{ℕ, suc, ◌+◌, ◌-◌, ◌*◌, ◌≤◌, ◌<◌}
use native.Mathlib.Omega.{arith}
use native.Mathlib.Numerals.{add-one}
use native.Mathlib.Nat.{mul-suc}
use lib.ListN.{length, take, drop, get_or, set, length-append, length-set, length-drop, take-append-drop}
use lib.Seq.{take_all, take_at, take-suc, take-suc-set, drop-length, length-take-le, length_front, sets, sets-eq}
use Rattle.std.specs.Int.{from_bool}
use Rattle.codec.specs.Blocks.{flag_byte, all_bytes}
use Rattle.codec.proofs.Laws.Reading.{record_end, range_size}

-- a block whose bytes are all stored, one by one
pub stored : (b vs : List ℕ) → length b ≡ length vs → sets b 0 vs ≡ vs
stored b vs h = sets-eq vs b 0 (omega arith) ∙ ap (λ (r : List ℕ). vs ++ r) (ap (λ (k : ℕ). drop k b) (let e : 0 + length vs ≡ length b = omega arith in e) ∙ drop-length b) ∙ append-nil vs

-- ---- a part ys of k bytes, written from byte n on
module _ (b ys : List ℕ) (n k : ℕ) where
  -- the block keeps its length
  pub kept-part : (size : ℕ) → length ys ≡ length (take k (drop n b)) → length b ≡ size → length (take n b ++ (ys ++ drop k (drop n b))) ≡ size
  kept-part size q h =
      length-append (take n b) (ys ++ drop k (drop n b))
      ∙ ap (λ (m : ℕ). length (take n b) + m) (length_front (drop n b) ys k q)
      ∙ sym (length-append (take n b) (drop n b))
      ∙ ap length (take-append-drop n b)
      ∙ h

  -- its bytes up to the end of the part
  front-part : (m : ℕ) → m ≡ n + k → n + k ≤ length b → length ys ≡ length (take k (drop n b)) → take m (take n b ++ (ys ++ drop k (drop n b))) ≡ take n b ++ ys
  front-part m z l q =
      let d = length-drop n b in
      let s = length-take-le k (drop n b) (omega arith) in
      let t = length-take-le n b (omega arith) in
      let a = length-append (take n b) ys in
      ap (take m) (sym (append_assoc (take n b) ys (drop k (drop n b)))) ∙ take_at (take n b ++ ys) (drop k (drop n b)) m (omega arith)

-- ---- the bytes of a written block, found from its end on
module _ (b total : List ℕ) where
  -- the last part
  pub last-part : (ys : List ℕ) (n k : ℕ) → length b ≡ n + k → length ys ≡ length (take k (drop n b)) → take n b ++ ys ≡ total → take n b ++ (ys ++ drop k (drop n b)) ≡ total
  last-part ys n k h q e =
      sym (take_all (n + k) _ (let w = kept-part b ys n k (n + k) q h in omega arith)) ∙ front-part b ys n k (n + k) refl (omega arith) q ∙ e

  -- a part before the rest
  pub part_before : (ys rest : List ℕ) (n k m : ℕ) → m ≡ n + k → n + k ≤ length b → length ys ≡ length (take k (drop n b)) → take n b ++ (ys ++ rest) ≡ total
      → take m (take n b ++ (ys ++ drop k (drop n b))) ++ rest ≡ total
  part_before ys rest n k m z l q e = ap (λ (r : List ℕ). r ++ rest) (front-part b ys n k m z l q) ∙ append_assoc (take n b) ys rest ∙ e

  -- a byte before the rest
  pub byte_before : (rest : List ℕ) (x n m : ℕ) → m ≡ n + 1 → n < length b → take n b ++ (x ∷ rest) ≡ total → take m (set b n x) ++ rest ≡ total
  byte_before rest x n m z l e =
      ap (λ (k : ℕ). take k (set b n x) ++ rest) (let y : m ≡ suc n = omega arith in y)
      ∙ ap (λ (r : List ℕ). r ++ rest) (take-suc-set b n x l)
      ∙ append_assoc (take n b) (x ∷ []) rest
      ∙ e

-- equal parts and bytes, one behind the other
pub same_join : (xs vs ys ws : List ℕ) → xs ≡ vs → ys ≡ ws → xs ++ ys ≡ vs ++ ws
same_join xs vs ys ws e f = λ j. e j ++ f j

pub same_next : (x v : ℕ) (ys ws : List ℕ) → x ≡ v → ys ≡ ws → x ∷ ys ≡ v ∷ ws
same_next x v ys ws e f = λ j. e j ∷ f j

-- a block of a known length has room for what is written to it
pub room : (size : ℕ) (b : List ℕ) (m : ℕ) → length b ≡ size → m ≤ size → m ≤ length b
room size b m h k = omega arith

-- a flag as the library makes a byte of it
from_flag : (v : Bool) → from_bool v ≡ flag_byte v
unfolding flag_byte
from_flag true = refl
from_flag false = refl

-- ---- the same from the front on, for blocks of many parts: the first n bytes of b with any rest behind them are f of that rest
pub record Done (f : List ℕ → List ℕ) (size : ℕ) (b : List ℕ) (n : ℕ) : Type 0 where
  pub long : length b ≡ size
  pub front : (rest : List ℕ) → take n b ++ rest ≡ f rest

-- nothing yet
pub none_done : {size : ℕ} (b : List ℕ) → length b ≡ size → Done (λ (r : List ℕ). r) size b 0
none_done b h = record { long = h; front = λ rest. refl }

module _ {f : List ℕ → List ℕ} {size : ℕ} {b : List ℕ} {n : ℕ} (d : Done f size b n) where
  -- a byte more
  pub byte_done : {x v : ℕ} → x ≡ v → n < size → Done (λ (r : List ℕ). f (v ∷ r)) size (set b n x) (n + 1)
  byte_done {x} {v} e l =
      record { long = simp length-set d.long; front = λ rest. byte_before b _ rest x n (n + 1) refl (let h = d.long in omega arith) (d.front (x ∷ rest) ∙ ap (λ (y : ℕ). f (y ∷ rest)) e) }

  -- a flag more
  pub flag_done : {x : ℕ} (v : Bool) → x ≡ from_bool v → n < size → Done (λ (r : List ℕ). f (flag_byte v ∷ r)) size (set b n x) (n + 1)
  flag_done v e l = byte_done (e ∙ from_flag v) l

  -- a part more
  pub part_done : {ys vs : List ℕ} → ys ≡ vs → (k : ℕ) → n + k ≤ size → length ys ≡ length (take k (drop n b)) → Done (λ (r : List ℕ). f (vs ++ r)) size (take n b ++ (ys ++ drop k (drop n b))) (n + k)
  part_done {ys} {vs} e k l q =
      record {
        long = kept-part b ys n k size q d.long;
        front = λ rest. part_before b _ ys rest n k (n + k) refl (let h = d.long in omega arith) q (d.front (ys ++ rest) ∙ ap (λ (y : List ℕ). f (y ++ rest)) e);
      }

  -- the last part
  pub last_done : {ys vs : List ℕ} → ys ≡ vs → (k : ℕ) → size ≡ n + k → length ys ≡ length (take k (drop n b)) → take n b ++ (ys ++ drop k (drop n b)) ≡ f vs
  last_done {ys} {vs} e k z q = last-part b _ ys n k (d.long ∙ z) q (d.front ys ∙ ap f e)

  -- nothing is left
  pub all_done : n ≡ size → b ≡ f []
  all_done z = sym (take_all n b (let h = d.long in omega (arith, h, z))) ∙ sym (append-nil (take n b)) ∙ d.front []

-- ---- a table that is written: the first i of n records of `size` bytes
pub record Put {A : Type 0} (write : A → List ℕ) (size n : ℕ) (xs : List A) (b : List ℕ) (i : ℕ) : Type 0 where
  pub within : i ≤ n
  pub many : length xs ≡ n
  pub whole : length b ≡ size * n
  pub front : take (size * i) b ≡ all_bytes write (take i xs)

module _ {A : Type 0} (write : A → List ℕ) (size n : ℕ) (xs : List A) (b : List ℕ) where
  all_last : (ys : List A) (x : A) → all_bytes write (ys ++ (x ∷ [])) ≡ all_bytes write ys ++ write x
  unfolding all_bytes
  all_last [] x = append-nil (write x)
  all_last (y ∷ ys) x = ap (λ (r : List ℕ). write y ++ r) (all_last ys x) ∙ sym (append_assoc (write y) (all_bytes write ys) (write x))

  pub put_none : length xs ≡ n → length b ≡ size * n → Put write size n xs b 0
  unfolding all_bytes
  put_none h k = record { within = omega arith; many = h; whole = k; front = ap (λ (m : ℕ). take m b) (let z : size * 0 ≡ 0 = omega arith in z) }

  -- one more record
  pub put_more : (ys : List ℕ) (i : ℕ) (d : A) → Put write size n xs b i → i < n → ys ≡ write (get_or xs i d)
      → length ys ≡ length (take (size * i + size - size * i) (drop (size * i) b))
      → Put write size n xs (take (size * i) b ++ (ys ++ drop (size * i + size - size * i) (drop (size * i) b))) (i + 1)
  put_more ys i d r h v q =
      let e = record_end b size n i h r.whole in
      let m = mul-suc size i in
      record {
        within = omega arith;
        many = r.many;
        whole = kept-part b ys (size * i) (size * i + size - size * i) (size * n) q r.whole;
        front =
            rw add-one
            (front-part b ys (size * i) (size * i + size - size * i) (size * suc i) (omega arith) (omega arith) q
            ∙ (λ j. r.front j ++ v j)
            ∙ sym (ap (all_bytes write) (take-suc xs i d (omega arith)) ∙ all_last (take i xs) (get_or xs i d)));
      }

  -- all records
  pub put_all : (i : ℕ) → Put write size n xs b i → n ≤ i → b ≡ all_bytes write xs
  put_all i r h =
      let q : n ≡ i = omega arith in
      sym (take_all (size * i) b (let w = r.whole ∙ ap (λ (k : ℕ). size * k) q in omega arith)) ∙ r.front ∙ ap (all_bytes write) (take_all i xs (omega arith))

  -- the part that a record is written to has its size
  pub put_size : (i : ℕ) → Put write size n xs b i → i < n → length (take (size * i + size - size * i) (drop (size * i) b)) ≡ size
  put_size i r h = range_size b size n i h r.whole

-- what proves each need of a loop that writes a table
pub ruleset puts = (put_none, put_more, put_all, put_size)
