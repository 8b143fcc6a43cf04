-- Laws of folds: a test holds of each of a list.
use mathlib.Core.Path.{◌≡◌, refl, sym, ap, ◌∙◌}
use mathlib.Core.List.{List}
use mathlib.Core.Bool.{Bool, true, ◌&&◌}
use Prim.Native.Nat.{ℕ, zero, suc, ◌+◌, ◌≤◌, ◌<◌}
use native.Mathlib.Omega.{arith}
use lib.ListN.{length, take, get_or}
use Rattle.std.specs.List.{fold}
use Rattle.std.proofs.lemmas.List.{take_all, take_more}
use Rattle.std.proofs.lemmas.List.Sums.{fold_push}
use Rattle.lines.specs.Logic.{all_below}

-- ---- a test of each of a list
-- the first i of the list
module _ {A : Type 0} (f : A → Bool) (d : A) (xs : List A) where
  part_holds : (i : ℕ) → i ≤ length xs → fold (λ b x. b && f x) true (take i xs) ≡ all_below i (λ k. f (get_or xs k d))
  unfolding all_below
  part_holds zero h = refl
  part_holds (suc i) h =
      let l : i < length xs = omega (arith, h) in
      let s : suc i ≡ i + 1 = omega arith in
      let r = part_holds i (omega (arith, h)) in
      rw s (rw (take_more xs i d l, fold_push (λ b x. b && f x) true (take i xs) (get_or xs i d), r))

  pub each_holds : fold (λ b x. b && f x) true xs ≡ all_below (length xs) (λ i. f (get_or xs i d))
  each_holds = ap (fold (λ b x. b && f x) true) (sym (take_all (length xs) xs (omega arith))) ∙ part_holds (length xs) (omega arith)
