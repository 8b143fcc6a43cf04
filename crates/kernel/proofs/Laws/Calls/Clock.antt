-- Calls 13 to 15: what each does.
use mathlib.Core.Path.{◌≡◌, refl, ap, ◌∙◌}
use mathlib.Core.List.{List, [], ◌∷◌, ◌++◌, append-nil}
use mathlib.Core.Bool.{Bool, true, false, ◌&&◌, not, and-false}
use Prim.Native.Nat.{ℕ, zero, suc, ◌+◌, ◌<◌, ◌≤◌}
use Prim.{tt}
use native.Mathlib.Omega.{arith}
use lib.Dec.{ltb}
use borrow.Author.Tests.{ltb-true, ltb-false}
use Rattle.lines.specs.Logic.{one_if}
use Rattle.lines.specs.Lists.{count, only_if}
use Rattle.lines.proofs.Laws.Logic.{by_test, by_eq, by_choice, and_in, one_at_most}
use Rattle.lines.proofs.Laws.Lists
use Rattle.lines.proofs.Laws.Less
use Rattle.scheduler.specs.declared.thread.Thread.{Thread}
use Rattle.calls.specs.Held.{no_words}
use Rattle.calls.specs.Chains.{tick_refusal}
use Rattle.waiting.specs.Ticks.{next_time, timedb, last_tickb}
use Rattle.kernel.specs.declared.Kernel.{Kernel}
use Rattle.kernel.specs.Tables.{thread_of}
use Rattle.kernel.specs.Sound.{Fit}
use Rattle.kernel.specs.Edits.{Edit, applied, gathered, mover, anyb, counted_by, counted, startsb}
use Rattle.kernel.specs.Edits.Cause.{timed_out}
use Rattle.kernel.specs.Edits.Move.{ends}
use Rattle.kernel.specs.Edits.Edit.{moves, counts, sets}
use Rattle.kernel.specs.Edits.Success.{done}
use Rattle.kernel.specs.Roles.{may_moveb, mayb, allb}
use Rattle.kernel.specs.Clock.{clock_effect, clock_set_effect}
use Rattle.kernel.proofs.Laws.Edits
use Rattle.kernel.proofs.Laws.Ticks.{tick_of, ticks_below, one_pass, tick-movers, below_other}
use Rattle.kernel.proofs.Laws.Fits
use Rattle.kernel.proofs.Laws.Lines
use Rattle.kernel.proofs.Laws.Does
use Rattle.kernel.proofs.Laws.Effects

-- ---- what is named by the edits of a tick: each thread of which b holds, once
module _ (k : Kernel) (f : Edit → List ℕ) (b : Thread → Bool) (clock : (c : ℕ) → f (sets c) ≡ []) (alone : (th : Thread) (t : ℕ) → gathered f (tick_of th t) ≡ only_if (b th) t) where
  one_more : (n u : ℕ) → count u (gathered f (ticks_below (suc n) k)) ≡ count u (gathered f (ticks_below n k)) + count u (only_if (b (thread_of k n)) n)
  unfolding ticks_below
  one_more n u = ap (count u) (Edits.gathered-append f (ticks_below n k) (tick_of (thread_of k n) n) ∙ ap (λ (l : List ℕ). gathered f (ticks_below n k) ++ l) (alone (thread_of k n) n)) ∙ Lists.count-append u (gathered f (ticks_below n k)) (only_if (b (thread_of k n)) n)

  ticks_past : (n u : ℕ) → n ≤ u → count u (gathered f (ticks_below n k)) ≡ 0
  unfolding ticks_below gathered
  ticks_past zero u l = Less.count_none u
  ticks_past (suc n) u l = let c = ticks_past n u (omega (arith, l)) in let d = Lists.count-not_only n u (b (thread_of k n)) (λ q. omega (arith, l, q)) in omega (arith, one_more n u, c, d)

  ticks-below : (n u : ℕ) → u < n → count u (gathered f (ticks_below n k)) ≡ one_if (b (thread_of k u))
  ticks-below zero u l = absurd (omega (arith, l))
  ticks-below (suc n) u l =
      by_eq u n
      (λ q. let d = ap (λ (v : ℕ). count v (only_if (b (thread_of k n)) n)) q ∙ Lists.count_only n (b (thread_of k n)) in
      let z = ap (λ (v : ℕ). one_if (b (thread_of k v))) q in omega (arith, one_more n u, ticks_past n u (omega (arith, q)), d, z))
      (λ q. let c = ticks-below n u (omega (arith, l, q)) in omega (arith, one_more n u, c, Lists.count-not_only n u (b (thread_of k n)) q))

  tick-named : gathered f (one_pass k).edits ≡ gathered f (ticks_below 32 k)
  unfolding one_pass gathered
  tick-named = Edits.gathered-append f (ticks_below 32 k) (sets (next_time k.clock) ∷ []) ∙ rw (clock (next_time k.clock)) (append-nil (gathered f (ticks_below 32 k)))

  tick-count : (u : ℕ) → u < 32 → count u (gathered f (one_pass k).edits) ≡ one_if (b (thread_of k u))
  tick-count u l = ap (count u) tick-named ∙ ticks-below 32 u l

  tick_once : (u : ℕ) → count u (gathered f (one_pass k).edits) ≤ 1
  tick_once u = let e = ap (count u) tick-named in by_test (ltb u 32) (λ l. let c = ticks-below 32 u (ltb-true u 32 l) in let m = one_at_most (b (thread_of k u)) in omega (arith, e, c, m)) (λ l. let c = ticks_past 32 u (ltb-false u 32 l) in omega (arith, e, c))

-- ---- the tick of one thread, and of those below n
tick-all : (f : Edit → Bool) (th : Thread) (t : ℕ) → f (moves t (ends timed_out no_words)) ≡ true → f (counts t) ≡ true → allb f (tick_of th t) ≡ true
unfolding allb tick_of
tick-all f th t a b =
    by_choice (λ (es : List Edit). allb f es ≡ true) (last_tickb th) _ _ (λ e. and_in (f (moves t (ends timed_out no_words))) true a refl) (λ e.
    by_choice (λ (es : List Edit). allb f es ≡ true) (timedb th) _ _ (λ q. and_in (f (counts t)) true b refl) (λ q. refl))

below_all : (f : Edit → Bool) → ((t : ℕ) → f (moves t (ends timed_out no_words)) ≡ true) → ((t : ℕ) → f (counts t) ≡ true) → (k : Kernel) (n : ℕ) → allb f (ticks_below n k) ≡ true
unfolding allb ticks_below
below_all f a b k zero = refl
below_all f a b k (suc n) = Edits.all_append f (ticks_below n k) (tick_of (thread_of k n) n) (below_all f a b k n) (tick-all f (thread_of k n) n (a n) (b n))

tick_fits : (k : Kernel) → Fit k → (t : ℕ) → Fits.Fits k (tick_of (thread_of k t) t)
unfolding tick_of
tick_fits k F t =
    by_choice (Fits.Fits k) (last_tickb (thread_of k t)) _ _ (λ e. ((Effects.ends-moved k F 0 0 t timed_out no_words refl e, tt), tt)) (λ e.
    by_choice (Fits.Fits k) (timedb (thread_of k t)) _ _ (λ q. (((q, e), tt), tt)) (λ q. tt))

below_fits : (k : Kernel) → Fit k → (n : ℕ) → Fits.Fits k (ticks_below n k)
unfolding ticks_below
below_fits k F zero = tt
below_fits k F (suc n) =
    Effects.fits-append k (ticks_below n k) (tick_of (thread_of k n) n) (below_fits k F n)
    (rw (← below_other k n n (omega arith)) (tick_fits (applied k (ticks_below n k)) (Fits.fit_all k F (ticks_below n k) (below_fits k F n)) n))

-- who is counted by it
counted_by_lem : (th : Thread) (t : ℕ) → counted (tick_of th t) ≡ only_if (timedb th && not (last_tickb th)) t
unfolding gathered tick_of
counted_by_lem th t =
    by_test (last_tickb th)
    (λ e. rw (e, and-false))
    (λ e. by_test (timedb th) (λ y. rw (e, y)) (λ y. rw (e, y)))

module _ (k : Kernel) (b c : ℕ) (messages : List ℕ) (caller a : ℕ) where
  pub get-does : Does.Does k caller 13 a b c messages 0 (clock_effect k)
  unfolding clock_effect
  get-does = Does.plain Does.none (λ S runs z. Effects.proper_none k S.fit 13 a _)

  pub set_does : (time : ℕ) → Does.Does k caller 14 a b c messages 0 (clock_set_effect time)
  unfolding clock_set_effect allb mayb Lines.unstartedb
  set_does time = Does.plain Does.none (λ S runs z. Effects.proper_one k S.fit 14 a done no_words false (sets time) tt tt refl refl)

  pub tick-does : Does.Does k caller 15 a b c messages (tick_refusal caller) (one_pass k)
  unfolding one_pass allb mayb may_moveb startsb gathered Lines.unstartedb
  tick-does =
      record {
        proper = λ S runs z. (let es = ticks_below 32 k in
            let clock = sets (next_time k.clock) ∷ [] in
            Effects.proper-all k S.fit 15 a (es ++ clock) no_words (Effects.fits-append k es clock (below_fits k S.fit 32) ((tt, tt), tt)) (tick_once k (mover anyb) last_tickb (λ i. refl) (λ th t. tick-movers k t th anyb refl))
            (Edits.all_append (mayb 15 a) es clock (below_all (mayb 15 a) (λ t. refl) (λ t. refl) k 32) refl) (Edits.all_append Lines.unstartedb es clock (below_all Lines.unstartedb (λ t. refl) (λ t. refl) k 32) refl));
        role = λ S z. (
          tt,
          tt,
          tt,
          tt,
          tt,
          tt,
          record {
            done = refl;
            over = λ f y. tick-count k (mover f) last_tickb (λ i. refl) (λ th t. tick-movers k t th f y);
            less = tick-count k counted_by (λ th. timedb th && not (last_tickb th)) (λ i. refl) counted_by_lem;
          },
        );
      }
