-- Laws of the tick: taking ticks and then ending the waits at zero comes to one pass over the threads.
use mathlib.Core.Path.{◌≡◌, refl, sym, ap, ◌∙◌}
use mathlib.Core.List.{List, [], ◌∷◌, ◌++◌}
use mathlib.Core.Bool.{Bool, true, false}
use Prim.Native.Nat.{ℕ, zero, suc, ◌+◌, ◌<◌, ◌≤◌}
use native.Mathlib.Omega.{arith}
use native.Mathlib.Nat.{zero-add}
use native.Mathlib.Numerals.{add-one}
use lib.ListN.{length, length-append, get_or-eq_default}
use lib.Seq.{get_or-set_same, get_or-set_other, set-set, set_comm}
use lib.Dec.{ltb}
use borrow.Author.Tests.{ltb-true, ltb-false}
use Rattle.std.specs.Prelude.{if◌then◌else◌}
use Rattle.lines.specs.Logic.{one_if}
use Rattle.lines.specs.Lists.{numbers_from, filter, count, only_if}
use Rattle.lines.proofs.Laws.Logic.{by_test, by_eq, by_choice, never}
use Rattle.lines.proofs.Laws.Lists
use Rattle.scheduler.specs.declared.thread.Thread.{Thread}
use Rattle.scheduler.specs.Threads.{uncreated, waitsb, sleepsb, pausedb, awake, in_state}
use Rattle.scheduler.specs.Orders.{thread_at, with_thread, with_order, moved, joined}
use Rattle.scheduler.specs.Choice.{rescheduled}
use Rattle.calls.specs.Held.{no_words}
use Rattle.waiting.specs.Ticks.{next_time, timedb, timeout_status, with_ticks, one_tick_less, at_zerob, last_tickb}
use Rattle.waiting.proofs.Laws.Ticks.{untimed_left}
use Rattle.kernel.specs.declared.Kernel.{Kernel}
use Rattle.kernel.specs.Tables.{thread_of, held_at, with_scheduler, with_held}
use Rattle.kernel.specs.Edits.{status_by, Move, record_by, held_by, frontb, Edit, edited, applied, gathered, mover, movers, endsb, status_of, Effect, carried_out}
use Rattle.kernel.specs.Edits.Cause.{timed_out}
use Rattle.kernel.specs.Edits.Move.{ends}
use Rattle.kernel.specs.Edits.Edit.{moves, counts, sets}
use Rattle.kernel.specs.Edits.Success.{done}
use Rattle.kernel.specs.Effects.{does, ends_each}
use Rattle.kernel.specs.Clock.{counts_each, ticks_taken, timeouts, tick_effect}
use Rattle.kernel.proofs.Laws.Edits
use Rattle.kernel.proofs.Laws.Waits

-- ---- one pass: each timed wait or sleep has one tick less, and ends where none is left
unfoldable pub tick_of : Thread → ℕ → List Edit
tick_of th t =
    if last_tickb th then moves t (ends timed_out no_words) ∷ []
    else if timedb th then counts t ∷ []
    else []

-- threads 0 to n - 1, in this order
unfoldable pub ticks_below : ℕ → Kernel → List Edit
ticks_below zero k = []
ticks_below (suc n) k = ticks_below n k ++ tick_of (thread_of k n) n

-- all threads, and the clock
unfoldable pub one_pass : Kernel → Effect
one_pass k = does (ticks_below 32 k ++ (sets (next_time k.clock) ∷ []))

-- by the three cases of a record
module _ (k : Kernel) (n : ℕ) (th : Thread) where
  pub tick_last : last_tickb th ≡ true → applied k (tick_of th n) ≡ edited k (moves n (ends timed_out no_words))
  unfolding tick_of applied
  tick_last e = rw e

  pub tick_timed : last_tickb th ≡ false → timedb th ≡ true → applied k (tick_of th n) ≡ edited k (counts n)
  unfolding tick_of applied
  tick_timed e f = rw (e, f)

  pub tick_none : last_tickb th ≡ false → timedb th ≡ false → applied k (tick_of th n) ≡ k
  unfolding tick_of applied
  tick_none e f = rw (e, f)

  -- the tick of thread n leaves the others' records
  tick_other : (u : ℕ) → (u ≡ n → ⊥) → thread_of (applied k (tick_of th n)) u ≡ thread_of k u
  unfolding tick_of applied edited record_by frontb joined with_held with_scheduler moved with_order with_thread thread_at
  tick_other u h =
      by_choice (λ (es : List Edit). thread_of (applied k es) u ≡ thread_of k u) (last_tickb th) _ _
      (λ e. get_or-set_other k.scheduler.threads n u _ uncreated h)
      (λ e. by_choice (λ (es : List Edit). thread_of (applied k es) u ≡ thread_of k u) (timedb th) _ _ (λ f. get_or-set_other k.scheduler.threads n u _ uncreated h) (λ f. refl))

  -- whom it moves, in a way that counts: whose last tick it is
  pub tick-movers : (c : Move → Bool) → c (ends timed_out no_words) ≡ true → movers c (tick_of th n) ≡ only_if (last_tickb th) n
  unfolding gathered tick_of
  tick-movers c y = by_test (last_tickb th) (λ e. rw (e, y)) (λ e. by_test (timedb th) (λ f. rw (e, f)) (λ f. rw (e, f)))

-- threads from n on are as they were
pub below_other : (k : Kernel) (n u : ℕ) → n ≤ u → thread_of (applied k (ticks_below n k)) u ≡ thread_of k u
unfolding ticks_below applied
below_other k zero u h = refl
below_other k (suc n) u h =
    ap (λ (x : Kernel). thread_of x u) (Edits.applied-append k (ticks_below n k) (tick_of (thread_of k n) n))
    ∙ tick_other (applied k (ticks_below n k)) n (thread_of k n) u (λ e. omega (arith, e, h)) ∙ below_other k n u (omega (arith, h))

-- one thread more
module _ (k : Kernel) (n : ℕ) where
  abbrev x : Kernel
  x = applied k (ticks_below n k)

  pub more-below : applied k (ticks_below (n + 1) k) ≡ applied x (tick_of (thread_of x n) n)
  unfolding ticks_below
  more-below = rw (add-one, below_other k n n (omega arith)) (Edits.applied-append k (ticks_below n k) (tick_of (thread_of k n) n))

  pub more-ended : length (movers endsb (ticks_below (n + 1) k)) ≡ length (movers endsb (ticks_below n k)) + one_if (last_tickb (thread_of k n))
  unfolding ticks_below endsb one_if
  more-ended =
      rw add-one (ap (λ (l : List ℕ). length l) (Edits.gathered-append (mover endsb) (ticks_below n k) (tick_of (thread_of k n) n) ∙ ap (λ (l : List ℕ). movers endsb (ticks_below n k) ++ l) (tick-movers k n (thread_of k n) endsb refl))
      ∙ length-append (movers endsb (ticks_below n k)) (only_if (last_tickb (thread_of k n)) n)
      ∙ ap (λ (i : ℕ). length (movers endsb (ticks_below n k)) + i) (by_test (last_tickb (thread_of k n)) (λ e. rw e) (λ e. rw e)))

-- ---- threads in order
numbers_last : (i n : ℕ) → numbers_from i (suc n) ≡ numbers_from i n ++ ((i + n) ∷ [])
unfolding numbers_from
numbers_last i zero = ap (λ (v : ℕ). v ∷ []) (let e : i ≡ i + 0 = omega arith in e)
numbers_last i (suc n) =
    ap {B = List ℕ} (λ r. i ∷ r) (numbers_last (suc i) n ∙ ap (λ (v : ℕ). numbers_from (suc i) n ++ (v ∷ [])) (let e : suc i + n ≡ i + suc n = omega arith in e))

-- one thread more of those of whom a test holds
with_last_lem : (f : ℕ → Bool) (n : ℕ) → filter f (numbers_from 0 (suc n)) ≡ filter f (numbers_from 0 n) ++ only_if (f n) n
with_last_lem f n =
    ap (filter f) (numbers_last 0 n ∙ ap (λ (v : ℕ). numbers_from 0 n ++ (v ∷ [])) (zero-add n))
    ∙ Lists.filter-append f (numbers_from 0 n) (n ∷ []) ∙ ap (λ (l : List ℕ). filter f (numbers_from 0 n) ++ l) (Lists.filter_only f true n)

-- the number itself is not among those below it
not-below : (f : ℕ → Bool) (n : ℕ) → count n (filter f (numbers_from 0 n)) ≡ 0
not-below f n = let p = Lists.count-part f n (numbers_from 0 n) in let z = Lists.numbers_past 0 n n (omega arith) in omega (arith, p, z)

counts-append : (xs ys : List ℕ) → counts_each (xs ++ ys) ≡ counts_each xs ++ counts_each ys
unfolding counts_each
counts-append [] ys = refl
counts-append (x ∷ xs) ys = ap (λ (l : List Edit). counts x ∷ l) (counts-append xs ys)

counts-movers : (c : Move → Bool) (xs : List ℕ) → movers c (counts_each xs) ≡ []
unfolding gathered counts_each
counts-movers c [] = refl
counts-movers c (x ∷ xs) = counts-movers c xs

-- ---- who is timed stands in the table
timed_in : (k : Kernel) (t : ℕ) → timedb (thread_of k t) ≡ true → t < length k.scheduler.threads
unfolding thread_at timedb uncreated pausedb waitsb sleepsb
timed_in k t e =
    by_test (ltb t (length k.scheduler.threads))
    (λ w. ltb-true t _ w)
    (λ w. never e (rw (get_or-eq_default k.scheduler.threads uncreated (ltb-false t (length k.scheduler.threads) w)) refl))

-- one tick less is taken from one thread
count_self : (k : Kernel) (t : ℕ) → timedb (thread_of k t) ≡ true → thread_of (edited k (counts t)) t ≡ one_tick_less (thread_of k t)
unfolding edited with_scheduler with_thread thread_at
count_self k t e = get_or-set_same k.scheduler.threads t _ uncreated (timed_in k t e)

count_other : (k : Kernel) (t u : ℕ) → (u ≡ t → ⊥) → thread_of (edited k (counts t)) u ≡ thread_of k u
unfolding edited with_scheduler with_thread thread_at
count_other k t u n = get_or-set_other k.scheduler.threads t u _ uncreated n

counted_yes : (x : Kernel) (n : ℕ) (b : Bool) → b ≡ true → applied x (counts_each (only_if b n)) ≡ edited x (counts n)
unfolding applied counts_each
counted_yes x n b e = rw e

counted_no : (x : Kernel) (n : ℕ) (b : Bool) → b ≡ false → applied x (counts_each (only_if b n)) ≡ x
unfolding applied counts_each
counted_no x n b e = rw e

-- ---- ticks are taken from those below n
module _ (k : Kernel) where
  abbrev timed : ℕ → List ℕ
  timed n = filter (λ t. timedb (thread_of k t)) (numbers_from 0 n)

  abbrev last : ℕ → List ℕ
  last n = filter (λ t. last_tickb (thread_of k t)) (numbers_from 0 n)

  abbrev taken : ℕ → Kernel
  taken n = applied k (counts_each (timed n))

  taken_more : (n : ℕ) → taken (suc n) ≡ applied (taken n) (counts_each (only_if (timedb (thread_of k n)) n))
  taken_more n =
      ap (applied k) (ap counts_each (with_last_lem (λ t. timedb (thread_of k t)) n) ∙ counts-append (timed n) (only_if (timedb (thread_of k n)) n))
      ∙ Edits.applied-append k (counts_each (timed n)) (counts_each (only_if (timedb (thread_of k n)) n))

  taken_later : (n u : ℕ) → n ≤ u → thread_of (taken n) u ≡ thread_of k u
  unfolding numbers_from filter counts_each applied
  taken_later zero u l = refl
  taken_later (suc n) u l =
      ap (λ (x : Kernel). thread_of x u) (taken_more n)
      ∙ by_choice (λ (ts : List ℕ). thread_of (applied (taken n) (counts_each ts)) u ≡ thread_of k u) (timedb (thread_of k n)) (n ∷ []) []
      (λ e. count_other (taken n) n u (λ q. omega (arith, q, l)) ∙ taken_later n u (omega (arith, l))) (λ e. taken_later n u (omega (arith, l)))

  -- who is at zero then is whose last tick it was
  zero_last : (n u : ℕ) → u < n → at_zerob (thread_of (taken n) u) ≡ last_tickb (thread_of k u)
  unfolding last_tickb
  zero_last zero u l = absurd (omega (arith, l))
  zero_last (suc n) u l =
      by_eq u n
      (λ q. by_test (timedb (thread_of k n))
      (λ e. let same = taken_later n n (omega arith) in
      ap (λ (v : ℕ). at_zerob (thread_of (taken (suc n)) v)) q ∙ ap (λ (x : Kernel). at_zerob (thread_of x n)) (is_timed e) ∙ ap at_zerob (count_self (taken n) n (ap timedb same ∙ e) ∙ ap one_tick_less same) ∙ sym (ap last_tickb (ap (thread_of k) q) ∙ rw e))
      (λ e. ap (λ (v : ℕ). at_zerob (thread_of (taken (suc n)) v)) q ∙ ap (λ (x : Kernel). at_zerob (thread_of x n)) (is_untimed e) ∙ ap at_zerob (taken_later n n (omega arith)) ∙ untimed_left (thread_of k n) e ∙ sym (ap last_tickb (ap (thread_of k) q) ∙ rw e)))
      (λ q. by_test (timedb (thread_of k n))
      (λ e. ap (λ (x : Kernel). at_zerob (thread_of x u)) (is_timed e) ∙ ap at_zerob (count_other (taken n) n u q) ∙ zero_last n u (omega (arith, l, q)))
      (λ e. ap (λ (x : Kernel). at_zerob (thread_of x u)) (is_untimed e) ∙ zero_last n u (omega (arith, l, q))))
    where
      is_timed : timedb (thread_of k n) ≡ true → taken (suc n) ≡ edited (taken n) (counts n)
      is_timed e = taken_more n ∙ counted_yes (taken n) n (timedb (thread_of k n)) e

      is_untimed : timedb (thread_of k n) ≡ false → taken (suc n) ≡ taken n
      is_untimed e = taken_more n ∙ counted_no (taken n) n (timedb (thread_of k n)) e

  zeros_last : (n : ℕ) → n ≤ 32 → filter (λ t. at_zerob (thread_of (taken 32) t)) (numbers_from 0 n) ≡ last n
  unfolding numbers_from filter
  zeros_last zero l = refl
  zeros_last (suc n) l =
      with_last_lem (λ t. at_zerob (thread_of (taken 32) t)) n
      ∙ (λ i. zeros_last n (omega (arith, l)) i ++ only_if (zero_last 32 n (omega (arith, l)) i) n)
      ∙ sym (with_last_lem (λ t. last_tickb (thread_of k t)) n)

-- ---- one edit behind the other
-- a tick that is taken from n, and the end of the wait of another
swap : (z : Kernel) (n t : ℕ) → (t ≡ n → ⊥) → edited (edited z (counts n)) (moves t (ends timed_out no_words)) ≡ edited (edited z (moves t (ends timed_out no_words))) (counts n)
unfolding edited record_by held_by frontb status_by joined moved with_order with_thread with_held with_scheduler thread_at held_at
swap z n t ne =
    let ths = z.scheduler.threads in
    let d : n ≡ t → ⊥ = λ e. ne (sym e) in
    rw (get_or-set_other ths n t _ uncreated ne, get_or-set_other ths t n _ uncreated d, set_comm ths n t _ _ d) refl

-- the end of its own wait
absorb : (z : Kernel) (n : ℕ) → timedb (thread_of z n) ≡ true → edited (edited z (counts n)) (moves n (ends timed_out no_words)) ≡ edited z (moves n (ends timed_out no_words))
unfolding edited record_by held_by frontb status_by joined moved with_order with_thread with_held with_scheduler thread_at held_at with_ticks awake in_state timeout_status
absorb z n e =
    let ths = z.scheduler.threads in
    rw (get_or-set_same ths n _ uncreated (timed_in z n e), set-set ths n) refl

-- ticks that are taken from n, and the ends of the waits of others
swap-all : (z : Kernel) (n : ℕ) (ts : List ℕ) → count n ts ≡ 0 → applied (edited z (counts n)) (ends_each timed_out no_words ts) ≡ edited (applied z (ends_each timed_out no_words ts)) (counts n)
unfolding applied ends_each
swap-all z n [] c = refl
swap-all z n (t ∷ ts) c =
    by_eq t n
    (λ e. absurd (let h = ap (λ (v : ℕ). count n (v ∷ ts)) e ∙ Lists.count_here n ts in omega (arith, c, h)))
    (λ e. ap (λ (w : Kernel). applied w (ends_each timed_out no_words ts)) (swap z n t e) ∙ swap-all (edited z (moves t (ends timed_out no_words))) n ts (sym (Lists.count_there n t ts e) ∙ c))

swap_maybe : (z : Kernel) (n : ℕ) (b : Bool) (ts : List ℕ) → count n ts ≡ 0
    → applied (applied z (counts_each (only_if b n))) (ends_each timed_out no_words ts) ≡ applied (applied z (ends_each timed_out no_words ts)) (counts_each (only_if b n))
unfolding applied counts_each
swap_maybe z n true ts c = swap-all z n ts c
swap_maybe z n false ts c = refl

-- both steps of one thread are its tick
both_steps : (y : Kernel) (n : ℕ) (th : Thread) → thread_of y n ≡ th → applied (applied y (counts_each (only_if (timedb th) n))) (ends_each timed_out no_words (only_if (last_tickb th) n)) ≡ applied y (tick_of th n)
unfolding applied counts_each ends_each last_tickb tick_of
both_steps y n th e =
    by_test (timedb th)
    (λ t. by_test (at_zerob (one_tick_less th)) (λ z. rw (t, z) (absorb y n (ap timedb e ∙ t))) (λ z. rw (t, z)))
    (λ t. rw t)

each_append : (xs ys : List ℕ) → ends_each timed_out no_words (xs ++ ys) ≡ ends_each timed_out no_words xs ++ ends_each timed_out no_words ys
unfolding ends_each
each_append [] ys = refl
each_append (x ∷ xs) ys = ap (λ (l : List Edit). moves x (ends timed_out no_words) ∷ l) (each_append xs ys)

-- ---- two steps over the threads below n come to one pass
module _ (k : Kernel) where
  steps_pass : (n : ℕ) → applied (taken k n) (ends_each timed_out no_words (last k n)) ≡ applied k (ticks_below n k)
  unfolding numbers_from filter counts_each ends_each applied ticks_below
  steps_pass zero = refl
  steps_pass (suc n) =
      let a = counts_each (only_if (timedb (thread_of k n)) n) in
      let b = ends_each timed_out no_words (only_if (last_tickb (thread_of k n)) n) in
      let ts = ends_each timed_out no_words (last k n) in
      (λ i. applied (taken_more k n i) (ap (ends_each timed_out no_words) (with_last_lem (λ t. last_tickb (thread_of k t)) n) i))
      ∙ ap (applied (applied (taken k n) a)) (each_append (last k n) (only_if (last_tickb (thread_of k n)) n))
      ∙ Edits.applied-append (applied (taken k n) a) ts b
      ∙ ap (λ (w : Kernel). applied w b) (swap_maybe (taken k n) n (timedb (thread_of k n)) (last k n) (not-below (λ t. last_tickb (thread_of k t)) n) ∙ ap (λ (w : Kernel). applied w a) (steps_pass n))
      ∙ both_steps (applied k (ticks_below n k)) n (thread_of k n) (below_other k n n (omega arith))
      ∙ sym (Edits.applied-append k (ticks_below n k) (tick_of (thread_of k n) n))

  pass-movers : (n : ℕ) → movers endsb (ticks_below n k) ≡ last k n
  unfolding numbers_from filter ticks_below gathered endsb
  pass-movers zero = refl
  pass-movers (suc n) =
      Edits.gathered-append (mover endsb) (ticks_below n k) (tick_of (thread_of k n) n)
      ∙ (λ i. pass-movers n i ++ tick-movers k n (thread_of k n) endsb refl i) ∙ sym (with_last_lem (λ t. last_tickb (thread_of k t)) n)

  abbrev clock : List Edit
  clock = sets (next_time k.clock) ∷ []

  ends_are : timeouts (applied k (ticks_taken k)) ≡ ends_each timed_out no_words (last k 32)
  unfolding timeouts ticks_taken
  ends_are = ap (ends_each timed_out no_words) (zeros_last k 32 (omega arith))

  tables_same : applied k (ticks_taken k ++ (timeouts (applied k (ticks_taken k)) ++ clock)) ≡ applied k (ticks_below 32 k ++ clock)
  unfolding ticks_taken
  tables_same =
      Edits.applied-append k (ticks_taken k) (timeouts (applied k (ticks_taken k)) ++ clock)
      ∙ Edits.applied-append (taken k 32) (timeouts (applied k (ticks_taken k))) clock
      ∙ ap (λ (w : Kernel). applied w clock) (ap (applied (taken k 32)) ends_are ∙ steps_pass 32)
      ∙ sym (Edits.applied-append k (ticks_below 32 k) clock)

  movers_same : movers endsb (ticks_taken k ++ (timeouts (applied k (ticks_taken k)) ++ clock)) ≡ movers endsb (ticks_below 32 k ++ clock)
  unfolding ticks_taken gathered endsb
  movers_same =
      Edits.gathered-append (mover endsb) (ticks_taken k) (timeouts (applied k (ticks_taken k)) ++ clock)
      ∙ (λ i. counts-movers endsb (timed k 32) i ++ Edits.gathered-append (mover endsb) (timeouts (applied k (ticks_taken k))) clock i)
      ∙ ap (λ (es : List Edit). movers endsb es ++ []) ends_are
      ∙ ap (λ (l : List ℕ). l ++ []) (Waits.movers-each timed_out no_words endsb (last k 32) refl ∙ sym (pass-movers 32))
      ∙ sym (Edits.gathered-append (mover endsb) (ticks_below 32 k) clock)

  pub tick_same : carried_out k (tick_effect k) ≡ carried_out k (one_pass k)
  unfolding carried_out tick_effect one_pass
  tick_same = λ i. record { status = status_of done; words = no_words; ended = movers_same i; kernel = with_scheduler (tables_same i) (rescheduled (tables_same i).scheduler false) }
