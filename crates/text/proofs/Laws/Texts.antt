-- Laws of the first items of a list, and of their texts.
use mathlib.Core.Path.{◌≡◌, refl, sym, ap, subst, ◌∙◌}
use mathlib.Core.List.{List, [], ◌∷◌, ◌++◌, append-nil, append_assoc}
use mathlib.Core.Bool.{Bool, true, false}
use Prim.Native.Nat.{ℕ, zero, suc, ◌+◌, ◌<◌, min}
use native.Mathlib.Omega.{arith}
use native.Mathlib.Numerals.{add-one}
use lib.ListN.{length, take, get_or}
use lib.Seq.{take-suc, take_all, length-take-le}
use lib.Dec.{ltb}
use borrow.Author.Tests.{ltb-true, ltb-false}
use Rattle.std.specs.Prelude.{if◌then◌else◌}
use Rattle.std.specs.Int.{from_bool}
use Rattle.lines.specs.Logic.{one_if}
use Rattle.lines.proofs.Laws.Logic.{by_test}
use Rattle.output.specs.declared.Writer.{Writer}
use Rattle.output.specs.Texts.{Put, Puts}
use Rattle.output.proofs.Laws.Texts.{put-append}
use Rattle.text.specs.Texts.{each_text}

-- ---- parts of lists
-- as many as were taken
pub take_taken : {A : Type 0} (n : ℕ) (xs : List A) → take (length (take n xs)) xs ≡ take n xs
take_taken zero xs = refl
take_taken (suc n) [] = refl
take_taken (suc n) (x ∷ xs) = ap (λ (l : List _). x ∷ l) (take_taken n xs)

-- as many as the smaller of a number and the length
pub take_least : {A : Type 0} (n m : ℕ) (xs : List A) → length xs ≡ m → take (min n m) xs ≡ take n xs
take_least n m xs e =
    by_test (ltb n m)
    (λ w. let l = ltb-true n m w in ap (λ (k : ℕ). take k xs) (let z : min n m ≡ n = omega (arith, l) in z))
    (λ w. let l = ltb-false n m w in take_all (min n m) xs (omega (arith, l, e)) ∙ sym (take_all n xs (omega (arith, l, e))))

-- ---- one item more
each_last : {A : Type 0} (f : ℕ → A → List ℕ) (i : ℕ) (xs : List A) (x : A) → each_text f i (xs ++ (x ∷ [])) ≡ each_text f i xs ++ f (length xs + i) x
unfolding each_text
each_last f i [] x = append-nil (f i x) ∙ ap (λ (k : ℕ). f k x) (let e : i ≡ 0 + i = omega arith in e)
each_last f i (y ∷ xs) x =
    ap (λ (l : List ℕ). f i y ++ l) (each_last f (suc i) xs x)
    ∙ sym (append_assoc (f i y) (each_text f (suc i) xs) (f (length xs + suc i) x))
    ∙ ap (λ (k : ℕ). f i y ++ each_text f (suc i) xs ++ f k x) (let e : length xs + suc i ≡ suc (length xs) + i = omega arith in e)

each_more : {A : Type 0} (f : ℕ → A → List ℕ) (xs : List A) (i : ℕ) (d : A) → i < length xs
    → each_text f 0 (take (i + 1) xs) ≡ each_text f 0 (take i xs) ++ f i (get_or xs i d)
each_more f xs i d h =
    rw (add-one, take-suc xs i d h)
    (each_last f 0 (take i xs) (get_or xs i d)
    ∙ ap (λ (k : ℕ). each_text f 0 (take i xs) ++ f k (get_or xs i d)) (let l = length-take-le i xs (omega (arith, h)) in let e : length (take i xs) + 0 ≡ i = omega (arith, l) in e))

-- the texts of so many items are in a buffer, and the text of the next goes in behind them
pub put_more : {A : Type 0} (f : ℕ → A → List ℕ) (xs : List A) (d : A) {a b c : List ℕ} {at i r s : ℕ} → i < length xs
    → Put a at (each_text f 0 (take i xs)) b r → Put b r (f i (get_or xs i d)) c s → Put a at (each_text f 0 (take (i + 1) xs)) c s
put_more f xs d {a} {b} {c} {at} {i} {r} {s} h p q = rw (each_more f xs i d h) (put-append p q)

-- the same, of an item that was read by its index
pub put_item : {A : Type 0} (f : ℕ → A → List ℕ) (xs : List A) {x : A} {a b c : List ℕ} {at i r s : ℕ} → i < length xs → x ≡ get_or xs i x
    → Put a at (each_text f 0 (take i xs)) b r → Put b r (f i x) c s → Put a at (each_text f 0 (take (i + 1) xs)) c s
put_item f xs {x} {a} {b} {c} {at} {i} {r} {s} h e p q = put_more f xs x h p (subst (λ (y : _). Put b r (f i y) c s) e q)

-- both, of a writer's buffer
pub puts_more : {P A : Type 0} (f : ℕ → A → List ℕ) (xs : List A) (d : A) {u v w : Writer P} {i : ℕ} → i < length xs
    → Puts u (each_text f 0 (take i xs)) v → Puts v (f i (get_or xs i d)) w → Puts u (each_text f 0 (take (i + 1) xs)) w
puts_more f xs d h p q = record { put = put_more f xs d h p.put q.put; lent = q.lent ∙ p.lent }

pub puts_item : {P A : Type 0} (f : ℕ → A → List ℕ) (xs : List A) {x : A} {u v w : Writer P} {i : ℕ} → i < length xs → x ≡ get_or xs i x
    → Puts u (each_text f 0 (take i xs)) v → Puts v (f i x) w → Puts u (each_text f 0 (take (i + 1) xs)) w
puts_item f xs h e p q = record { put = put_item f xs h e p.put q.put; lent = q.lent ∙ p.lent }

-- ---- a text that is put only where a test holds
pub put_if : {a c xs : List ℕ} {at r : ℕ} (b : Bool) → b ≡ true → Put a at xs c r → Put a at (if b then xs else []) c r
put_if {a} {c} {xs} {at} {r} b e p = subst (λ (v : Bool). Put a at (if v then xs else []) c r) (sym e) p

-- the same, of a writer's buffer
pub puts_if : {P : Type 0} {u w : Writer P} {xs : List ℕ} (b : Bool) → b ≡ true → Puts u xs w → Puts u (if b then xs else []) w
puts_if b e p = record { put = put_if b e p.put; lent = p.lent }

-- ---- a bit
pub bit_is : (b : Bool) → from_bool b ≡ one_if b
unfolding one_if
bit_is true = refl
bit_is false = refl
