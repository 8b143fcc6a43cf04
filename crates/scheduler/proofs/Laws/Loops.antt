-- One step of each loop over the line or the threads.
use mathlib.Core.Path.{◌≡◌, sym, ap, ◌∙◌, subst}
use mathlib.Core.List.{List, [], ◌∷◌, ◌++◌, append_assoc, append-nil}
use mathlib.Core.Bool.{Bool, true, false}
use Prim.Native.Nat.{ℕ, suc, ◌+◌, ◌<◌, ◌≤◌}
use native.Mathlib.Omega.{arith}
use native.Mathlib.Numerals.{add-one}
use lib.ListN.{length, take, drop, get_or, length-take}
use lib.Seq.{drop-cons, get_or-take}
use lib.Dec.{ltb}
use borrow.Author.Tests.{ltb-true, ltb-false}
use Rattle.lines.specs.Lists.{filter, count}
use Rattle.lines.specs.Lines.{members}
use Rattle.lines.specs.Loops.{better_of}
use Rattle.lines.specs.declared.Best.{Best}
use Rattle.lines.proofs.Laws.Logic.{by_test}
use Rattle.lines.proofs.Laws.Lists.{filter_yes, filter_no, count_dropped}
use Rattle.lines.proofs.Laws.Bests.{Found, found-nobody, found_more}
use Rattle.scheduler.specs.declared.thread.Thread.{Thread}
use Rattle.scheduler.specs.declared.Scheduler.{Scheduler}
use Rattle.scheduler.specs.Threads.{uncreated}
use Rattle.scheduler.specs.Orders.{thread_at, priority_at}
use Rattle.scheduler.specs.Loops.{considered_of}
use Rattle.scheduler.proofs.Laws.Threads.{none-at}

-- ---- the pass that looks for the best of those for whom a test holds, from the end of the line
-- what it has found when `left` of the line is left
pub record Passed (s : Scheduler) (f : Thread → Bool) (left : List ℕ) (b : Best) : Type 0 where
  -- those whom it has passed
  pub behind : List ℕ
  pub whole : left ++ behind ≡ members s.order
  pub best : Found (priority_at s) (filter (λ t. f (thread_at s t)) behind) b

module _ (s : Scheduler) (f : Thread → Bool) where
  abbrev holds : ℕ → Bool
  holds t = f (thread_at s t)

  pub passed_none : (left : List ℕ) → left ≡ members s.order → Passed s f left (record { id = record { 0 = 32 }; key = 255 })
  unfolding filter
  passed_none left e = record { behind = []; whole = append-nil left ∙ e; best = found-nobody (priority_at s) }

  pub passed_all : (left : List ℕ) (b : Best) → length left ≡ 0 → Passed s f left b
      → Found (priority_at s) (filter (λ t. f (thread_at s t)) (members s.order)) b
  passed_all [] b e p = subst (λ (l : List ℕ). Found (priority_at s) (filter holds l) b) p.whole p.best
  passed_all (x ∷ xs) b e p = absurd (omega (arith, e))

  module _ (sized : length s.threads ≡ 32) (none : f uncreated ≡ false) where
    -- those for whom it holds are threads
    pub held_small : (xs : List ℕ) (u : ℕ) → 0 < count u (filter holds xs) → u < 32
    held_small xs u c =
        by_test (ltb u 32) (λ w. ltb-true u 32 w)
        (λ w. absurd (let d = count_dropped holds u xs (ap f (none-at s u sized (ltb-false u 32 w)) ∙ none) in omega (arith, c, d)))

    module _ (before left : List ℕ) (x : ℕ) (b : Best) (e : before ≡ left ++ (x ∷ [])) (p : Passed s f before b) where
      joined : left ++ (x ∷ p.behind) ≡ members s.order
      joined = sym (ap (λ (l : List ℕ). l ++ p.behind) e ∙ append_assoc left (x ∷ []) p.behind) ∙ p.whole

      passed-no : f (thread_at s x) ≡ false → Passed s f left b
      passed-no w = record {
        behind = x ∷ p.behind;
        whole = joined;
        best = subst (λ (l : List ℕ). Found (priority_at s) l b) (sym (filter_no holds x p.behind w)) p.best;
      }

      -- one that is in no table
      pub passed_out : 32 ≤ x → Passed s f left b
      passed_out o = passed-no (ap f (none-at s x sized o) ∙ none)

      -- one of the threads, of any priority that a byte can be
      pub passed_one : (wanted : Bool) (th : Thread) (r : Best) → x < 32 → th.priority ≤ 255 → th ≡ thread_at s x → wanted ≡ f (thread_at s x)
          → r ≡ considered_of wanted (record { id = record { 0 = x }; key = th.priority }) b → Passed s f left r
      unfolding considered_of
      passed_one true th r known byte h w q =
          let y : th.priority ≡ priority_at s x = ap (λ (t : Thread). t.priority) h in
          subst (Passed s f left) (ap (λ (k : ℕ). better_of x k b) (sym y) ∙ sym q)
          (record {
            behind = x ∷ p.behind;
            whole = joined;
            best = subst (λ (l : List ℕ). Found (priority_at s) l (better_of x (priority_at s x) b)) (sym (filter_yes holds x p.behind (sym w)))
                (found_more (priority_at s) x (filter holds p.behind) (held_small p.behind) b p.best known (omega (arith, byte, y)));
          })
      passed_one false th r known byte h w q = subst (Passed s f left) (sym q) (passed-no (sym w))

-- ---- one slot on in the first n
pub on : (n i : ℕ) (xs : List ℕ) → i < length (take n xs) → drop i (take n xs) ≡ get_or xs i 0 ∷ drop (i + 1) (take n xs)
on n i xs h =
    let w = length-take n xs in
    let g = get_or-take n xs i 0 (omega (arith, w)) in
    rw add-one (drop-cons (take n xs) i 0 h ∙ ap (λ (z : ℕ). z ∷ drop (suc i) (take n xs)) g)
