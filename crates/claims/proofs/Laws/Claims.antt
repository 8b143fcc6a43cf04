-- First come, first served, over every list of calls (rules 13.1 to 13.4).
use mathlib.Core.Path.{◌≡◌, refl, ap, ◌∙◌, subst}
use mathlib.Core.List.{List, [], ◌∷◌, ◌++◌}
use mathlib.Core.Bool.{true, false, ◌&&◌}
use Prim.Native.Nat.{ℕ, suc, ◌-◌, ◌<◌, ◌≤◌}
use native.Mathlib.Omega.{arith}
use lib.ListN.{length, drop, length-append}
use lib.Seq.{drop-append_seam}
use lib.Dec.{eqb}
use borrow.Author.Tests.{lt-ltb}
use Rattle.lines.specs.Logic.{one_if}
use Rattle.lines.specs.Lists.{count}
use Rattle.lines.proofs.Laws.Logic.{by_test, never, and_right}
use Rattle.lines.proofs.Laws.Lists
use Rattle.lines.proofs.Laws.Less
use Rattle.calls.specs.Callers.{one_of}
use Rattle.calls.specs.Held.{holding}
use Rattle.calls.specs.Statuses as Statuses
use Rattle.kernel.specs.declared.Kernel.{Kernel}
use Rattle.kernel.specs.Tables.{held_at}
use Rattle.kernel.specs.Kinds.{Kind}
use Rattle.kernel.specs.Kinds.Kind.{semaphore, queue, group, pool}
use Rattle.kernel.specs.Roles.{row_of}
use Rattle.kernel.specs.Uses.{rolledb, given_words}
use Rattle.claims.specs.Lists.{Made, answer, next, after}
use Rattle.claims.specs.Rolls.{Entry, names, roll_of, onb, givesb, succeedsb, waiters_of, rolled, roll_after, lastsb, Ends, Left, start_roll, NoPrioritiseOrDelete, gave, Over, FirstComeFirstServed}
use Rattle.claims.specs.Rolls.Left.{served, aborted, timed_out, stopped}
use Rattle.claims.proofs.Laws.Members
use Rattle.claims.proofs.Laws.Rolls
use Rattle.claims.proofs.Laws.Leaving
use Rattle.claims.proofs.Laws.Counts
use Rattle.claims.proofs.Laws.Ahead
use Rattle.claims.proofs.Laws.Late

length_roll : (k : Kernel) (xs : List ℕ) → length (roll_of k xs) ≡ length xs
unfolding roll_of
length_roll k [] = refl
length_roll k (x ∷ xs) = ap suc (length_roll k xs)

-- ---- who has left
-- stands in the line no more
left_gone : (d : Kind) (n u : ℕ) (k : Kernel) (m : Made) → Left d n u k (next k m) m → count u (waiters_of d n (next k m)) ≡ 0
left_gone d n u k m (served g E) = E.gone
left_gone d n u k m (aborted i a E) = E.gone
left_gone d n u k m (timed_out i E) = E.gone
left_gone d n u k m (stopped i a S) = S.gone

-- and waits no more
left-status : (d : Kind) (n u : ℕ) (k : Kernel) (m : Made) → Left d n u k (next k m) m → (held_at (next k m) u).status ≡ Statuses.waiting → ⊥
unfolding holding
left-status d n u k m (served g E) z = let s = E.status in omega (arith, s, z)
left-status d n u k m (aborted i a E) z = let s = E.status in omega (arith, s, z)
left-status semaphore n u k m (timed_out i E) z = let s = E.status in omega (arith, s, z)
left-status queue n u k m (timed_out i E) z = let s = E.status in omega (arith, s, z)
left-status group n u k m (timed_out i E) z = let s = E.status in omega (arith, s, z)
left-status pool n u k m (timed_out i E) z = let s = E.status in omega (arith, s, z)
left-status d n u k m (stopped i a S) z = let s : (held_at (next k m) u).status ≡ 0 = ap (λ h. h.status) S.held in omega (arith, s, z)

-- no giving call is an abort, a tick or a terminate
abbrev Other : ℕ → Kind → Type 0
Other i d = one_of i (row_of d).gives ≡ false

aborts-not : (d : Kind) → Other 10 d × Other 15 d × Other 5 d
aborts-not semaphore = (refl, refl, refl)
aborts-not queue = (refl, refl, refl)
aborts-not group = (refl, refl, refl)
aborts-not pool = (refl, refl, refl)

-- by a giving call it is served
left-served : (d : Kind) (n u : ℕ) (k : Kernel) (m : Made) → givesb d n m ≡ true → Left d n u k (next k m) m → Ends d n u k (next k m) Statuses.success (given_words d k n m.request.b m.request.c m.messages)
unfolding givesb onb
left-served d n u k m g (served y E) = E
left-served d n u k m g (aborted i a E) = never (and_right (eqb m.request.a n) (one_of m.request.number (row_of d).gives) g) (ap (λ (j : ℕ). one_of j (row_of d).gives) i ∙ (aborts-not d).0)
left-served d n u k m g (timed_out i E) = never (and_right (eqb m.request.a n) (one_of m.request.number (row_of d).gives) g) (ap (λ (j : ℕ). one_of j (row_of d).gives) i ∙ (aborts-not d).1)
left-served d n u k m g (stopped i a S) = never (and_right (eqb m.request.a n) (one_of m.request.number (row_of d).gives) g) (ap (λ (j : ℕ). one_of j (row_of d).gives) i ∙ (aborts-not d).2)

module _ (d : Kind) (o : rolledb d ≡ true) (n t : ℕ) where
  -- after the calls before another the wait still lasts
  lasts-at : (before rest : List Made) (k : Kernel) (r : List Entry) → Rolls.Lasts d n t k r → NoPrioritiseOrDelete d n k (before ++ rest) → lastsb t (roll_after d n k r before) ≡ true
      → Rolls.Lasts d n t (after k before) (roll_after d n k r before) × NoPrioritiseOrDelete d n (after k before) rest
  unfolding after roll_after
  lasts-at [] rest k r L c w = (L, c)
  lasts-at (m ∷ ms) rest k r L c w =
      let s = rolled d n m (answer k m) r in lasts-at ms rest (next k m) s (Rolls.next_lasts d o n t k r L m c.0 (Counts.lasted d n t ms (next k m) s w)) c.1 w

  -- the wait is over by the giving call after the first j
  over_by : (ms : List Made) (k : Kernel) (r : List Entry) (j : ℕ) → Rolls.Lasts d n t k r → NoPrioritiseOrDelete d n k ms → length r ≤ suc j → j < gave d n k ms → Over d n t j k ms
  unfolding gave after
  over_by [] k r j L c l g = absurd (omega (arith, g))
  over_by (m ∷ ms) k r j L c l g =
      let s = rolled d n m (answer k m) r in
      let one = one_if (givesb d n m && succeedsb (answer k m)) in
      by_test (lastsb t s)
      (λ w. let lasts = Rolls.next_lasts d o n t k r L m c.0 w in
      let a = Counts.length-rolled d n m (answer k m) r in
      let b = Counts.named_long t s lasts.stands in
      let more = over_by ms (next k m) s (j - one) lasts c.1 (omega (arith, a, l, b)) (omega (arith, a, l, b, g)) in
      record {
        before = m ∷ more.before;
        call = more.call;
        rest = more.rest;
        among = ap {B = List Made} (λ ys. m ∷ ys) {y = more.before ++ (more.call ∷ more.rest)} more.among;
        by = (let y = more.by in omega (arith, y, a, l, b));
        gone = more.gone;
        status = more.status;
      })
      (λ w. let left = (Leaving.kept d o n t k r L m c.0).left t L.stands (Counts.off t s w) in
      record { before = []; call = m; rest = ms; among = refl; by = omega arith; gone = left_gone d n t k m left; status = left-status d n t k m left })

pub first_come_first_served : FirstComeFirstServed
unfolding lastsb
first_come_first_served k S d n ahead t W ms c =
    let o = W.object in
    let L = Rolls.start d n k S ahead t W in
    let r = start_roll k ahead t in
    let xs = ahead ++ (t ∷ []) in
    let q = Members.names_roll k xs in
    let at : (before rest : List Made) → ms ≡ before ++ rest → NoPrioritiseOrDelete d n k (before ++ rest) = λ before rest e. subst (NoPrioritiseOrDelete d n k) e c in
    record {
      kept = λ before m rest e w. (let (lasts, calm) = lasts-at d o n t before (m ∷ rest) k r L (at before (m ∷ rest) e) w in Leaving.kept d o n t (after k before) (roll_after d n k r before) lasts m calm.0);
      order = λ before rest e w. Ahead.order d o n t before rest k r ahead L q (at before rest e) w;
      none_served = λ before m rest e w. Late.none_late d o n t before m rest k r [] L (λ u z. absurd (let y = Less.count_none u in omega (arith, z, y))) (at before (m ∷ rest) e) w;
      over = λ l. over_by d o n t ms k r (length ahead) L c (let a = length_roll k xs in let b = length-append ahead (t ∷ []) in omega (arith, a, b)) l;
      served = λ before m rest e U i g z.
          (let s = roll_after d n k r before in
          let alone : names s ≡ t ∷ [] = Counts.names-after d n before k r U ∙ ap (drop (gave d n k before)) q ∙ ap (λ (j : ℕ). drop j xs) i ∙ drop-append_seam ahead (t ∷ []) in
          let lasts : lastsb t s ≡ true = lt-ltb 0 (count t (names s)) (let h = Lists.count_here t [] in let y = ap (count t) alone in omega (arith, h, y)) in
          let (later, calm) = lasts-at d o n t before (m ∷ rest) k r L (at before (m ∷ rest) e) lasts in
          let left = (Leaving.kept d o n t (after k before) s later m calm.0).left t later.stands (Counts.last-served d n t m (answer (after k before) m) s alone g z) in
          (lasts, left-served d n t (after k before) m g left));
    }
