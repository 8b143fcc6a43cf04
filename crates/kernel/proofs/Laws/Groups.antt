-- Laws of the waiters that a set wakes: tables of requests and options beside what the threads hold.
use mathlib.Core.Path.{◌≡◌, refl, sym, ap, ap₂, ◌∙◌}
use mathlib.Core.List.{List, [], ◌∷◌}
use Prim.Native.Nat.{ℕ, ◌+◌, ◌≤◌, ◌<◌}
use native.Mathlib.Omega.{arith}
use lib.Bits.{bit_or}
use lib.ListN.{length, get_or, set, get_or-eq_default}
use lib.Seq.{get_or-set_same, get_or-set_other}
use lib.Dec.{ltb}
use borrow.Author.Tests.{ltb-true, ltb-false}
use Rattle.lines.specs.Lists.{filter, union_of}
use Rattle.lines.specs.Lines.{members, line_of}
use Rattle.lines.proofs.Laws.Lists.{filter_same, length_part}
use Rattle.lines.proofs.Laws.Logic.{by_test, by_eq}
use Rattle.lines.proofs.Laws.Lines.{members_short}
use Rattle.scheduler.specs.Orders.{line_at}
use Rattle.objects.specs.Groups.{metb, clear_of}
use Rattle.matching.specs.Loops.{met_atb, woken_of, clears_of}
use Rattle.calls.specs.declared.held.Held.{Held}
use Rattle.calls.specs.Held.{no_held}
use Rattle.kernel.specs.declared.Kernel.{Kernel}
use Rattle.kernel.specs.Tables.{held_at}
use Rattle.kernel.specs.Kinds.{Kind, place_of}
use Rattle.kernel.specs.Groups.{woken_by, clears_by}

-- the same flags of all in a list
union_same : (f g : ℕ → ℕ) (xs : List ℕ) → ((u : ℕ) → f u ≡ g u) → union_of f xs ≡ union_of g xs
unfolding union_of
union_same f g [] h = refl
union_same f g (x ∷ xs) h = ap₂ bit_or (h x) (union_same f g xs h)

-- a table that has one number of what each thread holds; past the table nothing is held
pub table-all : (k : Kernel) (field : Held → ℕ) (xs : List ℕ) → field no_held ≡ 0 → length xs ≡ 32 → length k.held ≡ 32 → ((j : ℕ) → j < 32 → get_or xs j 0 ≡ field (held_at k j)) → (u : ℕ) → get_or xs u 0 ≡ field (held_at k u)
unfolding held_at
table-all k field xs none l s h u =
    by_test (ltb u 32)
    (λ e. h u (ltb-true u 32 e))
    (λ e. let past = ltb-false u 32 e in
    get_or-eq_default xs 0 (omega (arith, l, past)) ∙ sym none ∙ sym (ap field (get_or-eq_default k.held no_held (omega (arith, s, past)))))

-- one slot more of such a table
pub table_more : (k : Kernel) (field : Held → ℕ) (xs : List ℕ) (t v : ℕ) → t < length xs → v ≡ field (held_at k t) → ((j : ℕ) → j < t → get_or xs j 0 ≡ field (held_at k j)) → (j : ℕ) → j < t + 1 → get_or (set xs t v) j 0 ≡ field (held_at k j)
table_more k field xs t v l e h j m =
    by_eq j t
    (λ q. ap (λ (x : ℕ). get_or (set xs t v) x 0) q ∙ get_or-set_same xs t v 0 l ∙ e ∙ sym (ap (λ (x : ℕ). field (held_at k x)) q))
    (λ q. get_or-set_other xs t j v 0 q ∙ h j (omega (arith, m, q)))

module _ (k : Kernel) (n flags : ℕ) (requests options : List ℕ) (rs : (u : ℕ) → get_or requests u 0 ≡ (held_at k u).request) (os : (u : ℕ) → get_or options u 0 ≡ (held_at k u).option) where
  pub woken_by_lem : woken_of flags requests options (line_at k.scheduler (place_of Kind.group n)) ≡ woken_by k n flags
  unfolding woken_of woken_by met_atb
  woken_by_lem = filter_same _ _ (line_at k.scheduler (place_of Kind.group n)) (λ u. (λ i. metb flags (rs u i) (os u i)))

  pub clears_by_lem : clears_of flags requests options (line_at k.scheduler (place_of Kind.group n)) ≡ clears_by k n flags
  unfolding clears_of clears_by
  clears_by_lem = union_same _ _ _ (λ u. (λ i. clear_of (rs u i) (os u i))) ∙ ap (union_of (λ t. clear_of (held_at k t).request (held_at k t).option)) woken_by_lem

  -- they fit into a line
  pub woken-members : length (line_at k.scheduler (place_of Kind.group n)) ≤ 32 → members (line_of (woken_of flags requests options (line_at k.scheduler (place_of Kind.group n)))) ≡ woken_by k n flags
  unfolding woken_of
  woken-members l =
      let s = length_part (met_atb flags requests options) (line_at k.scheduler (place_of Kind.group n)) in
      members_short (filter (met_atb flags requests options) (line_at k.scheduler (place_of Kind.group n))) (omega (arith, l, s)) ∙ woken_by_lem
