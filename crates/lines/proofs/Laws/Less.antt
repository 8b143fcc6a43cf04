-- Laws of a list less all of another.
use mathlib.Core.Path.{◌≡◌, refl, sym, ap, ◌∙◌}
use mathlib.Core.List.{List, [], ◌∷◌, ◌++◌}
use mathlib.Core.Bool.{Bool, ◌&&◌, not}
use Prim.Native.Nat.{ℕ, ◌+◌, ◌<◌}
use native.Mathlib.Omega.{arith}
use lib.Dec.{eqb}
use borrow.Author.Tests.{eq-eqb, ne_eqb}
use Rattle.lines.specs.Lists.{filter, without, count, less}
use Rattle.lines.proofs.Laws.Logic.{by_test, by_eq}
use Rattle.lines.proofs.Laws.Lists.{filter-append, filter_same, count_here, count_there, count-append, count_kept, count_dropped}

filter_both : (f g : ℕ → Bool) (xs : List ℕ) → filter f (filter g xs) ≡ filter (λ u. g u && f u) xs
unfolding filter
filter_both f g [] = refl
filter_both f g (x ∷ xs) =
    by_test (g x)
    (λ e. rw e (by_test (f x) (λ z. rw z (ap {B = List ℕ} (λ l. x ∷ l) (filter_both f g xs))) (λ z. rw z (filter_both f g xs))))
    (λ e. rw e (filter_both f g xs))

zero_sum : (a b : ℕ) → (eqb a 0 && eqb b 0) ≡ eqb (a + b) 0
zero_sum a b =
    by_eq a 0
    (λ e. let s : b ≡ a + b = omega (arith, e) in rw (eq-eqb a 0 e) (ap (λ (n : ℕ). eqb n 0) s))
    (λ e. rw (ne_eqb a 0 e) (sym (ne_eqb (a + b) 0 (λ z. e (omega (arith, z))))))

pub less-less : (rs ts l : List ℕ) → less ts (less rs l) ≡ less (rs ++ ts) l
unfolding less
less-less rs ts l =
    filter_both (λ u. eqb (count u ts) 0) (λ u. eqb (count u rs) 0) l
    ∙ filter_same (λ u. eqb (count u rs) 0 && eqb (count u ts) 0) (λ u. eqb (count u (rs ++ ts)) 0) l
    (λ u. zero_sum (count u rs) (count u ts) ∙ sym (ap (λ (n : ℕ). eqb n 0) (count-append u rs ts)))

pub less-append : (ts xs ys : List ℕ) → less ts (xs ++ ys) ≡ less ts xs ++ less ts ys
unfolding less
less-append ts xs ys = filter-append (λ u. eqb (count u ts) 0) xs ys

pub less_none : (l : List ℕ) → less [] l ≡ l
unfolding less count filter
less_none [] = refl
less_none (x ∷ xs) = ap {B = List ℕ} (λ l. x ∷ l) (less_none xs)

pub count_none : (u : ℕ) → count u [] ≡ 0
unfolding count
count_none u = refl

pub less_one : (t : ℕ) (l : List ℕ) → less (t ∷ []) l ≡ without t l
unfolding less without
less_one t l =
    filter_same (λ u. eqb (count u (t ∷ [])) 0) (λ x. not (eqb x t)) l
    (λ u. by_eq u t
    (λ e. let c = count_here t [] in rw (e, eq-eqb t t refl) (ne_eqb (count t (t ∷ [])) 0 (λ z. omega (arith, c, z))))
    (λ e. rw (ne_eqb u t e) (eq-eqb (count u (t ∷ [])) 0 (count_there u t [] (λ z. e (sym z)) ∙ count_none u))))

-- who is less is gone, and who is not stays
pub less_gone : (ts l : List ℕ) (u : ℕ) → 0 < count u ts → count u (less ts l) ≡ 0
unfolding less
less_gone ts l u c = count_dropped (λ v. eqb (count v ts) 0) u l (ne_eqb (count u ts) 0 (λ z. omega (arith, c, z)))

pub less_kept : (ts l : List ℕ) (u : ℕ) → count u ts ≡ 0 → count u (less ts l) ≡ count u l
unfolding less
less_kept ts l u z = count_kept (λ v. eqb (count v ts) 0) u l (eq-eqb (count u ts) 0 z)
