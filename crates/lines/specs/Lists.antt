-- Lists of thread numbers: joining, taking out, the part for which a test holds, the first and the best.
use Rattle.std.specs.Prelude.{if◌then◌else◌, ◌≡◌, List, [], ◌∷◌, ◌++◌, Bool, true, ◌&&◌, not, ℕ, zero, suc, ◌+◌, get_or, eqb, ltb, leb}
use Rattle.std.specs.Int.Bits.{bit_or}
use Rattle.numbers.specs.Numbers.{nobody}
use Rattle.lines.specs.Logic.{one_if}

-- n numbers in order, the first of them i
unfoldable pub numbers_from : ℕ → ℕ → List ℕ
numbers_from i zero = []
numbers_from i (suc n) = i ∷ numbers_from (suc i) n

-- those of a list for whom a test holds, in the list's order
unfoldable pub filter : (ℕ → Bool) → List ℕ → List ℕ
filter f [] = []
filter f (x ∷ xs) = if f x then x ∷ filter f xs else filter f xs

-- the list with t taken out
unfoldable pub without : ℕ → List ℕ → List ℕ
without t = filter (λ x. not (eqb x t))

-- the list of t alone where the test holds, else the empty list
abbrev pub only_if : Bool → ℕ → List ℕ
only_if b t = if b then t ∷ [] else []

-- rule 4.8: t joins at the end, and stands nowhere else
unfoldable pub to_end : ℕ → List ℕ → List ℕ
to_end t xs = without t xs ++ (t ∷ [])

-- rule 4.8: t joins at the front, and stands nowhere else
unfoldable pub to_front : ℕ → List ℕ → List ℕ
to_front t xs = t ∷ without t xs

-- rule 12.1: how often t stands in a list
unfoldable pub count : ℕ → List ℕ → ℕ
count t [] = 0
count t (x ∷ xs) = one_if (eqb x t) + count t xs

-- the list l without those who stand in ts
unfoldable pub less : List ℕ → List ℕ → List ℕ
less ts l = filter (λ u. eqb (count u ts) 0) l

-- every number of the list is below n
unfoldable pub below : ℕ → List ℕ → Bool
below n [] = true
below n (x ∷ xs) = ltb x n && below n xs

-- who stands first; nobody where the list is empty
unfoldable pub first : List ℕ → ℕ
first xs = get_or xs 0 nobody

-- the first for whom a test holds; nobody where it holds for none
unfoldable pub first_with : (ℕ → Bool) → List ℕ → ℕ
first_with f xs = first (filter f xs)

-- nobody in the list has a key smaller than k
unfoldable pub leastb : (ℕ → ℕ) → ℕ → List ℕ → Bool
leastb key k [] = true
leastb key k (x ∷ xs) = leb k (key x) && leastb key k xs

-- rule 4.4: the first of the best key, which is the smallest; nobody where the list is empty
unfoldable pub best_of : (ℕ → ℕ) → List ℕ → ℕ
best_of key xs = first_with (λ x. leastb key (key x) xs) xs

-- t goes to the front where it is somebody, and the others stay as they stand
unfoldable pub fronted : ℕ → List ℕ → List ℕ
fronted t xs = only_if (ltb t nobody) t ++ without t xs

-- rule 5.8: the first of the best key goes to the front, and the others stay as they stand
unfoldable pub prioritised : (ℕ → ℕ) → List ℕ → List ℕ
prioritised key xs = fronted (best_of key xs) xs

-- the union of the flags of all in a list
unfoldable pub union_of : (ℕ → ℕ) → List ℕ → ℕ
union_of flags [] = 0
union_of flags (x ∷ xs) = bit_or (flags x) (union_of flags xs)

-- rule 13.3: the list l begins with r
abbrev pub Begins : List ℕ → List ℕ → Type 0
Begins r l = (rest : List ℕ) × (l ≡ r ++ rest)
