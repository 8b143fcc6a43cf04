-- What holds of every element of a list.
use mathlib.Core.List.{List, [], ◌∷◌, ◌++◌, map}
use Prim.Native.Nat.{ℕ, zero, suc, ◌<◌}
use native.Mathlib.Omega.{arith}
use lib.ListN.{length, take, drop, get_or, set, replicate}
use Rattle.codec.specs.Restored.{All}

module _ {A : Type 0} (P : A → Type 0) where
  pub all_append : (xs ys : List A) → All P xs → All P ys → All P (xs ++ ys)
  all_append [] ys f g = g
  all_append (x ∷ xs) ys f g = (f.0, all_append xs ys f.1 g)

  pub all_take : (n : ℕ) (xs : List A) → All P xs → All P (take n xs)
  all_take zero xs f = tt
  all_take (suc n) [] f = tt
  all_take (suc n) (x ∷ xs) f = (f.0, all_take n xs f.1)

  pub all_drop : (n : ℕ) (xs : List A) → All P xs → All P (drop n xs)
  all_drop zero xs f = f
  all_drop (suc n) [] f = tt
  all_drop (suc n) (x ∷ xs) f = all_drop n xs f.1

  -- an element, or what is read past the end
  pub all_get : (xs : List A) (i : ℕ) (d : A) → All P xs → P d → P (get_or xs i d)
  all_get [] i d f p = p
  all_get (x ∷ xs) zero d f p = f.0
  all_get (x ∷ xs) (suc i) d f p = all_get xs i d f.1 p

  -- after a store
  pub all_set : (xs : List A) (i : ℕ) (x : A) → All P xs → P x → All P (set xs i x)
  all_set [] i x f p = tt
  all_set (y ∷ xs) zero x f p = (p, f.1)
  all_set (y ∷ xs) (suc i) x f p = (f.0, all_set xs i x f.1 p)

  -- element by element
  pub all-each : (xs : List A) (d : A) → ((i : ℕ) → i < length xs → P (get_or xs i d)) → All P xs
  all-each [] d h = tt
  all-each (x ∷ xs) d h = (h 0 (omega arith), all-each xs d (λ i l. h (suc i) (omega (arith, l))))

  -- one value in every place
  pub all_replicate : (n : ℕ) (x : A) → P x → All P (replicate n x)
  all_replicate zero x p = tt
  all_replicate (suc n) x p = (p, all_replicate n x p)

  -- what is made from each element of another list
  pub all_made : {B : Type 0} (g : B → A) (Q : B → Type 0) → ((y : B) → Q y → P (g y)) → (ys : List B) → All Q ys → All P (map g ys)
  all_made g Q h [] f = tt
  all_made g Q h (y ∷ ys) f = (h y f.0, all_made g Q h ys f.1)

-- what follows for each element
pub all_imply : {A : Type 0} (P Q : A → Type 0) → ((x : A) → P x → Q x) → (xs : List A) → All P xs → All Q xs
all_imply P Q h [] f = tt
all_imply P Q h (x ∷ xs) f = (h x f.0, all_imply P Q h xs f.1)
