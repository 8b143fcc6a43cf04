-- One step of the loop over the waiters.
use mathlib.Core.Path.{◌≡◌, ap, ◌∙◌}
use mathlib.Core.List.{List, [], ◌∷◌, ◌++◌}
use mathlib.Core.Bool.{true, false}
use Prim.Native.Nat.{ℕ, ◌+◌, ◌≤◌, ◌<◌}
use lib.ListN.{length, take, get_or, get_or-eq_default}
use lib.Bits.{bit_or}
use Rattle.lines.specs.Lists.{union_of}
use Rattle.lines.proofs.Laws.Bits.{union_more}
use Rattle.lines.proofs.Laws.Lines.{kept_one, left_one}
use Rattle.objects.specs.Groups.{metb, clear_of}
use Rattle.objects.proofs.Laws.Groups.{met-zero}
use Rattle.matching.specs.Loops.{met_atb, woken_of, clears_of}

module _ (flags : ℕ) (requests options : List ℕ) where
  -- a number past the table asks for nothing
  pub unknown : (t : ℕ) → length requests ≤ t → met_atb flags requests options t ≡ false
  unfolding met_atb
  unknown t h = ap (λ (r : ℕ). metb flags r (get_or options t 0)) (get_or-eq_default requests 0 h) ∙ met-zero flags (get_or options t 0)

  module _ (ids : List ℕ) (i : ℕ) (h : i < length ids) where
    pub woken_more : met_atb flags requests options (get_or ids i 0) ≡ true
        → woken_of flags requests options (take (i + 1) ids) ≡ woken_of flags requests options (take i ids) ++ (get_or ids i 0 ∷ [])
    unfolding woken_of
    woken_more e = kept_one (met_atb flags requests options) i ids h e

    pub woken_same : met_atb flags requests options (get_or ids i 0) ≡ false
        → woken_of flags requests options (take (i + 1) ids) ≡ woken_of flags requests options (take i ids)
    unfolding woken_of
    woken_same e = left_one (met_atb flags requests options) i ids h e

    abbrev clears : ℕ → ℕ
    clears t = clear_of (get_or requests t 0) (get_or options t 0)

    pub clears_more : met_atb flags requests options (get_or ids i 0) ≡ true
        → clears_of flags requests options (take (i + 1) ids)
        ≡ bit_or (clears_of flags requests options (take i ids)) (clear_of (get_or requests (get_or ids i 0) 0) (get_or options (get_or ids i 0) 0))
    unfolding clears_of
    clears_more e = ap (union_of clears) (woken_more e) ∙ union_more clears (woken_of flags requests options (take i ids)) (get_or ids i 0)

    pub clears_same : met_atb flags requests options (get_or ids i 0) ≡ false
        → clears_of flags requests options (take (i + 1) ids) ≡ clears_of flags requests options (take i ids)
    unfolding clears_of
    clears_same e = ap (union_of clears) (woken_same e)
