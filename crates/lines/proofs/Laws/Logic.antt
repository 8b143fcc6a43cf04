-- Laws of tests and of choices by a test.
use mathlib.Core.Path.{◌≡◌, refl, sym, ap, ◌∙◌}
use mathlib.Core.Bool.{Bool, true, false, ◌&&◌, ◌||◌}
use Prim.Native.Nat.{ℕ, zero, suc, ◌+◌, ◌≤◌, ◌<◌}
use native.Mathlib.Nat.{not-suc-le-zero}
use native.Mathlib.Omega.{arith}
use native.Mathlib.Numerals.{add-one}
use lib.Dec.{eqb}
use borrow.Author.Tests.{eqb-true, eqb-false}
use Rattle.std.specs.Prelude.{if◌then◌else◌}
use Rattle.lines.specs.Logic.{one_if, implies, all_below}

-- a case for each answer of a test
pub by_test : {P : Type 0} (b : Bool) → (b ≡ true → P) → (b ≡ false → P) → P
by_test true f g = f refl
by_test false f g = g refl

pub by_eq : {P : Type 0} (a b : ℕ) → (a ≡ b → P) → ((a ≡ b → ⊥) → P) → P
by_eq a b f g = by_test (eqb a b) (λ e. f (eqb-true a b e)) (λ e. g (eqb-false a b e))

-- what holds of both ways of a choice holds of the choice
pub by_choice : {A : Type 0} (P : A → Type 0) (b : Bool) (x y : A) → (b ≡ true → P x) → (b ≡ false → P y) → P (if b then x else y)
by_choice P true x y f g = f refl
by_choice P false x y f g = g refl

-- a test has one answer
pub never : {P : Type 0} {b : Bool} → b ≡ true → b ≡ false → P
never p q = absurd (let z : ◌≡◌ {A = ℕ} 0 1 = go (sym p ∙ q) in omega arith)
  where
    go : true ≡ false → ◌≡◌ {A = ℕ} 0 1
    go e = cc

-- ---- tests joined
pub and_left : (a b : Bool) → (a && b) ≡ true → a ≡ true
and_left true b e = refl
and_left false b e = e

pub and_right : (a b : Bool) → (a && b) ≡ true → b ≡ true
and_right true b e = e
and_right false b e = never e refl

pub and_in : (a b : Bool) → a ≡ true → b ≡ true → (a && b) ≡ true
and_in true b p q = q
and_in false b p q = p

pub or_left : (a b : Bool) → a ≡ true → (a || b) ≡ true
or_left true b e = refl
or_left false b e = never e refl

pub or_right : (a b : Bool) → b ≡ true → (a || b) ≡ true
or_right true b e = refl
or_right false b e = e

pub or-rest : (a b : Bool) → (a || b) ≡ true → a ≡ false → b ≡ true
or-rest true b e n = never e n
or-rest false b e n = e

-- ---- implications
pub implies_out : (a b : Bool) → implies a b ≡ true → a ≡ true → b ≡ true
unfolding implies
implies_out true b e h = e
implies_out false b e h = never h refl

pub implies_in : (a b : Bool) → (a ≡ true → b ≡ true) → implies a b ≡ true
unfolding implies
implies_in true b h = h refl
implies_in false b h = refl

pub one_at_most : (b : Bool) → one_if b ≤ 1
unfolding one_if
one_at_most true = omega arith
one_at_most false = omega arith

-- ---- tests of a range
pub all-at : (n : ℕ) (f : ℕ → Bool) → all_below n f ≡ true → (i : ℕ) → i < n → f i ≡ true
unfolding all_below
all-at zero f e i h = absurd (not-suc-le-zero h)
all-at (suc n) f e i h =
    by_eq i n
    (λ q. ap f q ∙ and_right (all_below n f) (f n) e)
    (λ q. all-at n f (and_left (all_below n f) (f n) e) i (omega arith))

pub all_in : (n : ℕ) (f : ℕ → Bool) → ((i : ℕ) → i < n → f i ≡ true) → all_below n f ≡ true
unfolding all_below
all_in zero f h = refl
all_in (suc n) f h = and_in (all_below n f) (f n) (all_in n f (λ i l. h i (omega arith))) (h n (omega arith))

-- one number more, as a loop takes it
pub all_more : (f : ℕ → Bool) (i : ℕ) → (all_below i f && f i) ≡ all_below (i + 1) f
unfolding all_below
all_more f i = rw add-one

-- one number of which f does not hold
pub all-not : (n : ℕ) (f : ℕ → Bool) (i : ℕ) → i < n → f i ≡ false → all_below n f ≡ false
all-not n f i h e = by_test (all_below n f) (λ a. never (all-at n f a i h) e) (λ a. a)
