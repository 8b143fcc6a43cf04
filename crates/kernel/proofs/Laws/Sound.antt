-- The test of soundness holds exactly of sound tables; what the test finds, thread by thread.
use mathlib.Core.Path.{◌≡◌, refl, sym, ap, ap₂, ◌∙◌}
use mathlib.Core.Bool.{Bool, true, false, not, ◌&&◌, and-true, and-false}
use Prim.Native.Nat.{ℕ, ◌+◌, ◌<◌, ◌≤◌}
use native.Mathlib.Omega.{arith}
use lib.ListN.{length}
use borrow.Author.Tests.{ne_eqb, not-false}
use Rattle.lines.specs.Logic.{one_if, implies, all_below}
use Rattle.lines.specs.Lists.{filter, count, below, first, first_with, leastb, best_of}
use Rattle.lines.specs.Lines.{members, pad, line_of, cleanb}
use Rattle.lines.proofs.Laws.Logic.{never, and_left, and_right, and_in, implies_out, implies_in, all-at, all_in, all_more}
use Rattle.scheduler.specs.declared.thread.Thread.{Thread}
use Rattle.scheduler.specs.Threads.{uncreated, readyb, waitsb, sleepsb, pausedb, standsb}
use Rattle.scheduler.specs.Orders as Orders
use Rattle.scheduler.specs.Choice.{best_among, best_ready}
use Rattle.scheduler.specs.Sound as Scheduling
use Rattle.scheduler.proofs.Laws.Testing
use Rattle.lines.specs.Slots.{zero_from}
use Rattle.objects.specs.Semaphores.{no_semaphore}
use Rattle.objects.specs.Queues.{no_queue, queue_zerob, queue_fitb}
use Rattle.objects.specs.Groups.{no_group}
use Rattle.blocks.specs.Pools.{no_pool, pool_zerob, pool_fitb}
use Rattle.calls.specs.declared.held.Held.{Held}
use Rattle.calls.specs.Held.{holding, held_words, message_of}
use Rattle.waiting.proofs.Laws.Fit.{waits_nowhere}
use Rattle.waiting.specs.Fit.{blank_from, waits_onb, sendsb, status_fitb, words_fitb, sender_fitb, request_fitb, unheld_fitb, held_fitb, semaphores_fitb, queues_fitb, groups_fitb, pools_fitb}
use Rattle.kernel.specs.declared.Kernel.{Kernel}
use Rattle.kernel.specs.Tables.{started, thread_of, held_at, semaphore_at, queue_at, group_at, pool_at}
use Rattle.kernel.specs.Kinds.{Kind, size_of, state_on, table_of, object_at, record_fitb, waitb}
use Rattle.kernel.specs.Kinds.Kind.{semaphore, queue, group, pool}
use Rattle.kernel.specs.Loops.{asks_fitb}
use Rattle.kernel.specs.Sound.{wait_fitb, soundb, Sized, MayWait, Sound}
use Rattle.kernel.proofs.Laws.Objects
use Rattle.kernel.proofs.Laws.Objects.{by_kind}

-- ---- one thread more of a test of all
pub one_more : (f : ℕ → Bool) (t : ℕ) (ok b : Bool) → ok ≡ all_below t f → b ≡ f t → (ok && b) ≡ all_below (t + 1) f
one_more f t ok b p q = ap₂ ◌&&◌ p q ∙ all_more f t

pub none_more : (f : ℕ → Bool) (t : ℕ) (ok : Bool) → ok ≡ all_below t f → f t ≡ true → ok ≡ all_below (t + 1) f
none_more f t ok p q = sym (and-true ok) ∙ one_more f t ok true p (sym q)

pub past_more : (f : ℕ → Bool) (t : ℕ) → f t ≡ false → false ≡ all_below (t + 1) f
past_more f t q = sym (and-false (all_below t f)) ∙ one_more f t (all_below t f) false refl (sym q)

-- ---- a test of two parts, where the first holds, is the second
pub and-rest : {a b c : Bool} → c ≡ (a && b) → a ≡ true → c ≡ b
and-rest {b = b} e h = e ∙ ap (λ (x : Bool). x && b) h

-- ---- a number against the size of a table
pub outside : {n m l : ℕ} → m ≤ n → l ≡ m → l ≤ n
outside h e = omega arith

-- ---- what is asked of the object that a thread waits on, kind by kind
module _ (k : Kernel) (t : ℕ) where
  abbrev askedb : Kind → Bool
  askedb d = implies (waits_onb (state_on d) (thread_of k t)) (waitb d (held_at k t) (object_at d k (thread_of k t).object))

  asked : wait_fitb k t ≡ true → MayWait k (thread_of k t) (held_at k t)
  unfolding wait_fitb
  asked w =
      let c = and_left _ _ w in
      let b = and_left _ _ c in
      by_kind (λ d. waits_onb (state_on d) (thread_of k t) ≡ true → waitb d (held_at k t) (object_at d k (thread_of k t).object) ≡ true)
      (implies_out _ _ (and_right (askedb queue) _ b)) (implies_out _ _ (and_left (askedb queue) (askedb semaphore) b)) (implies_out _ _ (and_right (askedb queue && askedb semaphore) _ c)) (implies_out _ _ (and_right (askedb queue && askedb semaphore && askedb group) _ w))

  asks : MayWait k (thread_of k t) (held_at k t) → wait_fitb k t ≡ true
  unfolding wait_fitb
  asks W = and_in _ _ (and_in _ _ (and_in _ _ (implies_in _ _ (W queue)) (implies_in _ _ (W semaphore))) (implies_in _ _ (W group))) (implies_in _ _ (W pool))

-- ---- the same of a thread that is as its table has it
module _ (k : Kernel) (t : ℕ) (th : Thread) (e : th ≡ thread_of k t) where
  abbrev on : ℕ → Bool → Type 0
  on state b = waits_onb state th ≡ b

  abbrev kept : (state : ℕ) (b : Bool) → on state b → waits_onb state (thread_of k t) ≡ b
  kept state b w = sym (ap (waits_onb state) e) ∙ w

  pub waits_none : ((d : Kind) → on (state_on d) false) → wait_fitb k t ≡ true
  waits_none h = asks k t (λ d w. never w (kept (state_on d) false (h d)))

  -- who neither waits nor sleeps
  pub waits-rest : pausedb th ≡ false → wait_fitb k t ≡ true
  waits-rest p = waits_none (λ d. waits_nowhere (state_on d) th (Objects.state_low d) p)

-- ---- the same of a record and what it holds, as the code asks it: by the state
module _ (k : Kernel) (th : Thread) (h : Held) where
  pub asks_object : (d : Kind) → not th.created ≡ false → th.state ≡ state_on d → asks_fitb k th h ≡ waitb d h (object_at d k th.object)
  unfolding asks_fitb waits_onb implies
  asks_object d made e =
      let m = not-false th.created made in
      by_kind (λ d. th.state ≡ state_on d → asks_fitb k th h ≡ waitb d h (object_at d k th.object))
      (λ e. rw (m, e) (simp and-true)) (λ e. rw (m, e) (simp and-true)) (λ e. rw (m, e) (simp and-true)) (λ e. rw (m, e)) d e

  pub asks_none : th.created ≡ false → true ≡ asks_fitb k th h
  unfolding asks_fitb waits_onb implies
  asks_none e = rw e

  pub asks-other : (th.state ≡ 5 → ⊥) → (th.state ≡ 6 → ⊥) → (th.state ≡ 7 → ⊥) → (th.state ≡ 8 → ⊥) → true ≡ asks_fitb k th h
  unfolding asks_fitb waits_onb implies
  asks-other q s g p = rw (ne_eqb _ 5 q, ne_eqb _ 6 s, ne_eqb _ 7 g, ne_eqb _ 8 p) (simp (and-false))

-- ---- the test and soundness
module _ (k : Kernel) where
  -- the tests of `soundb` before those of the objects' tables, and up to each of these
  abbrev threads_test : Bool
  threads_test = Scheduling.soundb k.scheduler && all_below 32 (λ t. held_fitb (thread_of k t) (held_at k t))

  abbrev fit_test : Kind → Bool
  fit_test d = all_below (size_of d) (λ n. record_fitb d (object_at d k n))

  pub tested : Sized k → soundb k ≡ true → Sound k
  unfolding soundb semaphores_fitb queues_fitb groups_fitb pools_fitb semaphore_at queue_at group_at pool_at
  tested Z e =
      let to-waits : Bool = threads_test && all_below 32 (wait_fitb k) in
      let g = and_left _ _ e in
      let q = and_left _ _ g in
      let s = and_left _ _ q in
      let w = and_left to-waits _ s in
      let h = and_left threads_test _ w in
      let t = Testing.tested k.scheduler Z.records (and_left _ _ h) in
      let fit : (d : Kind) (n : ℕ) → n < size_of d → record_fitb d (object_at d k n) ≡ true = by_kind (λ d. (n : ℕ) → n < size_of d → record_fitb d (object_at d k n) ≡ true)
      (all-at 16 _ (and_right to-waits _ s)) (all-at 8 _ (and_right (to-waits && fit_test semaphore) _ q))
      (all-at 8 _ (and_right (to-waits && fit_test semaphore && fit_test queue) _ g)) (all-at 4 _ (and_right (to-waits && fit_test semaphore && fit_test queue && fit_test group) _ e)) in
      record {
        fit = record {
          steady = t.steady;
          held_sized = Z.held;
          held = all-at 32 _ (and_right (Scheduling.soundb k.scheduler) _ h);
          waits = λ u l. asked k u (all-at 32 _ (and_right threads_test _ w) u l);
          objects = λ d. record { sized = Z.objects d; fit = fit d };
        };
        runs = t.runs;
      }

  pub passes : Sound k → soundb k ≡ true
  unfolding soundb semaphores_fitb queues_fitb groups_fitb pools_fitb semaphore_at queue_at group_at pool_at
  passes S =
      let F = S.fit in
      let all : (d : Kind) → all_below (size_of d) (λ n. record_fitb d (object_at d k n)) ≡ true = λ d. all_in (size_of d) _ (F.objects d).fit in
      and_in _ _ (and_in _ _ (and_in _ _ (and_in _ _ (and_in _ _ (and_in _ _
      (Testing.passes k.scheduler (record { steady = F.steady; runs = S.runs })) (all_in 32 _ F.held)) (all_in 32 _ (λ t l. asks k t (F.waits t l)))) (all semaphore)) (all queue)) (all group)) (all pool)

-- ---- nothing created
started_passes : soundb started ≡ true
unfolding started Orders.idle uncreated readyb waitsb sleepsb pausedb standsb Orders.thread_at members pad line_of cleanb filter count below first first_with leastb best_of best_among best_ready one_if implies all_below Scheduling.zerob Scheduling.fitb Scheduling.countedb Scheduling.steadyb Scheduling.runsb Scheduling.soundb no_semaphore no_queue no_group no_pool zero_from queue_zerob queue_fitb pool_zerob pool_fitb holding held_at semaphore_at queue_at group_at pool_at blank_from waits_onb sendsb status_fitb words_fitb sender_fitb request_fitb unheld_fitb held_fitb wait_fitb semaphores_fitb queues_fitb groups_fitb pools_fitb soundb held_words message_of
started_passes = refl

pub started_sound : Sound started
unfolding started Orders.idle
started_sound = tested started (record { records = refl; held = refl; objects = by_kind (λ d. length (table_of d started) ≡ size_of d) refl refl refl refl }) started_passes
