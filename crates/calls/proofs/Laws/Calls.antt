-- Laws of decoding.
use mathlib.Core.Path.{◌≡◌, refl, sym, ap, ◌∙◌, subst}
use mathlib.Core.List.{List, [], ◌∷◌}
use mathlib.Core.Bool.{Bool, true, false, ◌||◌}
use Prim.Native.Nat.{ℕ, ◌≤◌, min}
use native.Mathlib.Omega.{arith}
use lib.Dec.{eqb, ltb}
use borrow.Author.Tests.{le-ltb, ne_eqb, eqb-true, lt-ltb, ltb-true, ltb-false}
use Rattle.std.specs.Prelude.{if◌then◌else◌, Option, None}
use Rattle.lines.proofs.Laws.Logic.{by_test, by_choice, never, or-rest}
use Rattle.objects.specs.Groups.{or_optionb, metb}
use Rattle.calls.specs.declared.call.Request.{Request}
use Rattle.calls.specs.declared.call.Call.{Call}
use Rattle.calls.specs.Calls.{decoded, known_call}

-- a known caller: the call of the number
pub decoded_as : (q : Request) (m : ℕ) → q.caller ≤ 2 → q.number ≡ m → decoded q ≡ known_call m q.a q.b q.c q.d
unfolding decoded
decoded_as q m h e =
    ap (λ (x : Bool). if x then None else known_call q.number q.a q.b q.c q.d) (le-ltb 2 q.caller h)
    ∙ ap (λ (x : ℕ). known_call x q.a q.b q.c q.d) e

-- what holds of the call of number m, and of every other, holds of the choice between them
pub by_number : (P : ℕ → Option Call → Type 0) (n m : ℕ) (x y : Option Call) → P m x → P n y → P n (if eqb n m then x else y)
by_number P n m x y D E = by_choice (P n) (eqb n m) x y (λ e. subst (λ (i : ℕ). P i x) (sym (eqb-true n m e)) D) (λ e. E)

-- ---- numbers of no call
-- n is none of a list of numbers
abbrev pub NoneOf : List ℕ → ℕ → Type 0
NoneOf [] n = Unit {0}
NoneOf (k ∷ ks) n = NoneOf ks n × (n ≡ k → ⊥)

abbrev one_ofb : List ℕ → ℕ → Bool
one_ofb [] n = false
one_ofb (k ∷ ks) n = eqb k n || one_ofb ks n

none_of : (ks : List ℕ) (n : ℕ) → NoneOf ks n → (k : ℕ) → one_ofb ks k ≡ true → eqb n k ≡ false
none_of [] n r k e = never e refl
none_of (j ∷ ks) n r k e =
    by_test (eqb j k)
    (λ q. ne_eqb n k (λ p. r.1 (p ∙ sym (eqb-true j k q))))
    (λ q. none_of ks n r.0 k (or-rest (eqb j k) (one_ofb ks k) e q))

-- the numbers of the calls, the last first
abbrev pub numbers : List ℕ
numbers = 39 ∷ 38 ∷ 37 ∷ 36 ∷ 35 ∷ 34 ∷ 33 ∷ 32 ∷ 31 ∷ 30 ∷ 29 ∷ 28 ∷ 27 ∷ 26 ∷ 25 ∷ 24 ∷ 23 ∷ 22 ∷ 21 ∷ 20 ∷ 19 ∷ 18 ∷ 17 ∷ 16 ∷ 15 ∷ 14 ∷ 13 ∷ 12 ∷ 11 ∷ 10 ∷ 9 ∷ 8 ∷ 7 ∷ 6 ∷ 5 ∷ 4 ∷ 3 ∷ 2 ∷ 1 ∷ []

pub unknown : (n a b c d : ℕ) → NoneOf numbers n → known_call n a b c d ≡ None
unfolding known_call
unknown n a b c d r = let no = none_of numbers n r in simp (no)

-- ---- options
-- a request's option past the last and the byte that stands for it are met by the same flags
pub met-option : (flags request option : ℕ) → metb flags request (min option 4) ≡ metb flags request option
unfolding metb or_optionb
met-option flags request option =
    let e : ltb (min option 4) 2 ≡ ltb option 2 =
    by_test (ltb option 2)
    (λ q. lt-ltb (min option 4) 2 (let h = ltb-true option 2 q in omega (arith, h)) ∙ sym q)
    (λ q. le-ltb (min option 4) 2 (let h = ltb-false option 2 q in omega (arith, h)) ∙ sym q) in
    rw (e)
