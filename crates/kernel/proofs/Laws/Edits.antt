-- Laws of lists of edits.
use mathlib.Core.Path.{◌≡◌, refl, sym, ap, ◌∙◌}
use mathlib.Core.List.{List, [], ◌∷◌, ◌++◌, append-nil, append_assoc}
use mathlib.Core.Bool.{Bool, true, false}
use Prim.Native.Nat.{ℕ, ◌+◌}
use Rattle.lines.specs.Lists.{count}
use Rattle.lines.proofs.Laws.Logic.{and_left, and_right, and_in}
use Rattle.lines.proofs.Laws.Lists
use Rattle.scheduler.specs.declared.thread.Thread.{Thread}
use Rattle.kernel.specs.declared.Kernel.{Kernel}
use Rattle.kernel.specs.Kinds.{Kind, Object}
use Rattle.kernel.specs.Edits.{Move, Edit, edited, applied, gathered}
use Rattle.kernel.specs.Edits.Edit.{moves, alters, counts, ranks, stores, sets}
use Rattle.kernel.specs.Roles.{allb}

-- ---- what holds of each kind of edit holds of all
pub by_edit : (P : Edit → Type 0) → ((t : ℕ) (m : Move) → P (moves t m)) → ((t : ℕ) (f : Thread → Thread) → P (alters t f)) → ((t : ℕ) → P (counts t)) → ((d : Kind) (n : ℕ) → P (ranks d n)) → ((d : Kind) (n : ℕ) (x : Object d) → P (stores d n x)) → ((c : ℕ) → P (sets c)) → (e : Edit) → P e
by_edit P m a c r o s (moves t x) = m t x
by_edit P m a c r o s (alters t f) = a t f
by_edit P m a c r o s (counts t) = c t
by_edit P m a c r o s (ranks d n) = r d n
by_edit P m a c r o s (stores d n x) = o d n x
by_edit P m a c r o s (sets i) = s i

-- no record is altered where its thread stands
abbrev pub unalteredb : Edit → Bool
unalteredb (moves t m) = true
unalteredb (alters t f) = false
unalteredb (counts t) = true
unalteredb (ranks d n) = true
unalteredb (stores d n x) = true
unalteredb (sets c) = true

-- ---- the tables
pub applied-append : (k : Kernel) (es fs : List Edit) → applied k (es ++ fs) ≡ applied (applied k es) fs
unfolding applied
applied-append k [] fs = refl
applied-append k (e ∷ es) fs = applied-append (edited k e) es fs

-- ---- what each edit names: who moves, who is counted
module _ (f : Edit → List ℕ) where
  pub gathered_then : (e : Edit) (es : List Edit) → gathered f (e ∷ es) ≡ gathered f (e ∷ []) ++ gathered f es
  unfolding gathered
  gathered_then e es = ap (λ (l : List ℕ). l ++ gathered f es) (sym (append-nil (f e)))

  pub gathered-append : (es fs : List Edit) → gathered f (es ++ fs) ≡ gathered f es ++ gathered f fs
  unfolding gathered
  gathered-append [] fs = refl
  gathered-append (e ∷ es) fs = ap (λ (l : List ℕ). f e ++ l) (gathered-append es fs) ∙ sym (append_assoc (f e) (gathered f es) (gathered f fs))

  pub gathered-count : (e : Edit) (es : List Edit) (u : ℕ) → count u (gathered f (e ∷ es)) ≡ count u (gathered f (e ∷ [])) + count u (gathered f es)
  gathered-count e es u = ap (count u) (gathered_then e es) ∙ Lists.count-append u (gathered f (e ∷ [])) (gathered f es)

-- ---- tests of every edit
module _ (f : Edit → Bool) (e : Edit) (es : List Edit) (a : allb f (e ∷ es) ≡ true) where
  pub all_first : f e ≡ true
  unfolding allb
  all_first = and_left (f e) (allb f es) a

  pub all_rest : allb f es ≡ true
  unfolding allb
  all_rest = and_right (f e) (allb f es) a

pub all_append : (f : Edit → Bool) (es fs : List Edit) → allb f es ≡ true → allb f fs ≡ true → allb f (es ++ fs) ≡ true
unfolding allb
all_append f [] fs a b = b
all_append f (e ∷ es) fs a b = and_in (f e) (allb f (es ++ fs)) (all_first f e es a) (all_append f es fs (all_rest f e es a) b)
