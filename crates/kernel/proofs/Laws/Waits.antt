-- Laws of ending several waits, as loops go: one thread more.
use mathlib.Core.Path.{◌≡◌, refl, sym, ap, ◌∙◌}
use mathlib.Core.List.{List, [], ◌∷◌, ◌++◌, append-nil}
use mathlib.Core.Bool.{Bool, true, false}
use Prim.Native.Nat.{ℕ, ◌+◌, ◌<◌}
use lib.ListN.{length, take, get_or, set, length-set}
use Rattle.lines.proofs.Laws.Lines.{take_one}
use Rattle.scheduler.specs.declared.Scheduler.{Scheduler}
use Rattle.scheduler.specs.Threads.{awake}
use Rattle.scheduler.specs.Orders.{thread_at, with_thread, with_order, moved, joined, woken}
use Rattle.scheduler.specs.Choice.{rescheduled}
use Rattle.calls.specs.declared.held.Held.{Held}
use Rattle.calls.specs.Held.{no_words, holding}
use Rattle.kernel.specs.declared.Kernel.{Kernel}
use Rattle.kernel.specs.Tables.{held_at, with_scheduler, with_held, with_semaphore, with_queue, with_group, with_pool}
use Rattle.kernel.specs.Kinds.{Kind, Object, with_object}
use Rattle.kernel.specs.Edits.{Cause, Holds, Move, record_by, held_by, frontb, edited, applied, gathered, mover, movers, endsb, status_of, carried_out}
use Rattle.kernel.specs.Edits.Move.{ends}
use Rattle.kernel.specs.Edits.Edit.{moves, stores}
use Rattle.kernel.specs.Edits.Success.{done}
use Rattle.kernel.specs.Effects.{does, ends_each}
use Rattle.kernel.proofs.Laws.Objects.{by_kind}
use Rattle.kernel.proofs.Laws.Edits

-- ---- the waits of several end for one cause
module _ (c : Cause) (words : List ℕ) where
  each_last : (k : Kernel) (xs : List ℕ) (t : ℕ) → applied k (ends_each c words (xs ++ (t ∷ []))) ≡ edited (applied k (ends_each c words xs)) (moves t (ends c words))
  unfolding applied ends_each
  each_last k [] t = refl
  each_last k (x ∷ xs) t = each_last (edited k (moves x (ends c words))) xs t

  -- one more of a line, in a loop that keeps the scheduler beside the tables
  pub each_step : (k self : Kernel) (s : Scheduler) (status : ℕ) (xs : List ℕ) (i : ℕ) → Holds c status → i < length xs → with_scheduler self s ≡ applied k (ends_each c words (take i xs))
      → with_held (with_scheduler self (woken s (get_or xs i 0))) (get_or xs i 0) (holding status words) ≡ applied k (ends_each c words (take (i + 1) xs))
  unfolding with_scheduler with_held edited record_by held_by frontb joined woken
  each_step k self s status xs i same h e =
      let x = get_or xs i 0 in
      sym (ap (λ (v : ℕ). with_held (with_scheduler self (woken s x)) x (holding v words)) (same (thread_at s x) (held_at (with_scheduler self s) x)))
      ∙ ap (λ (u : Kernel). edited u (moves x (ends c words))) e
      ∙ sym (ap (λ (l : List ℕ). applied k (ends_each c words l)) (take_one xs i h) ∙ each_last k (take i xs) x)

  -- the same, where the loop has stored what the thread holds
  pub each_stored : (k self : Kernel) (s next : Scheduler) (hs : List Held) (status : ℕ) (h : Held) (xs : List ℕ) (i : ℕ) → Holds c status → i < length xs → h ≡ holding status words
      → next ≡ woken s (get_or xs i 0) → hs ≡ set self.held (get_or xs i 0) h → with_scheduler self s ≡ applied k (ends_each c words (take i xs))
      → record { scheduler = next; held = hs; semaphores = self.semaphores; queues = self.queues; groups = self.groups; pools = self.pools; clock = self.clock } ≡ applied k (ends_each c words (take (i + 1) xs))
  unfolding with_scheduler with_held
  each_stored k self s next hs status h xs i same more g e f below =
      (λ j. record {
        scheduler = e j;
        held = (f ∙ ap (set self.held (get_or xs i 0)) g) j;
        semaphores = self.semaphores;
        queues = self.queues;
        groups = self.groups;
        pools = self.pools;
        clock = self.clock;
      })
      ∙ each_step k self s status xs i same more below

  -- who moves: each of them
  pub movers-each : (f : Move → Bool) (xs : List ℕ) → f (ends c words) ≡ true → movers f (ends_each c words xs) ≡ xs
  unfolding gathered ends_each
  movers-each f [] e = refl
  movers-each f (t ∷ ts) e = rw e (ap (λ (l : List ℕ). t ∷ l) (movers-each f ts e))

  -- an object's record can be stored before or after
  pub each-object : (d : Kind) (k : Kernel) (n : ℕ) (x : Object d) (xs : List ℕ) → applied (with_object d k n x) (ends_each c words xs) ≡ with_object d (applied k (ends_each c words xs)) n x
  unfolding applied ends_each edited with_held with_scheduler held_at with_semaphore with_queue with_group with_pool
  each-object d k n x [] = refl
  each-object d k n x (t ∷ ts) = ap (λ (y : Kernel). applied y (ends_each c words ts)) (past t) ∙ each-object d (edited k (moves t (ends c words))) n x ts
    where
      past : (t : ℕ) → edited (with_object d k n x) (moves t (ends c words)) ≡ with_object d (edited k (moves t (ends c words))) n x
      past t = by_kind (λ b. (z : Object b) → edited (with_object b k n z) (moves t (ends c words)) ≡ with_object b (edited k (moves t (ends c words))) n z) (λ z. refl) (λ z. refl) (λ z. refl) (λ z. refl) d x

  -- so a call that stores first and then ends the waits has done as one that stores afterwards
  pub closed : (d : Kind) (k : Kernel) (n : ℕ) (x : Object d) (xs : List ℕ) → carried_out (with_object d k n x) (does (ends_each c words xs)) ≡ carried_out k (does (ends_each c words xs ++ (stores d n x ∷ [])))
  unfolding carried_out applied edited gathered
  closed d k n x xs =
      let es = ends_each c words xs in
      let p = each-object d k n x xs ∙ sym (Edits.applied-append k es (stores d n x ∷ [])) in
      let q = sym (Edits.gathered-append (mover endsb) es (stores d n x ∷ []) ∙ append-nil (movers endsb es)) in
      λ i. record { status = status_of done; words = no_words; ended = q i; kernel = with_scheduler (p i) (rescheduled (p i).scheduler false) }

-- the table keeps its size
pub woken_sized : (s : Scheduler) (t : ℕ) (r : Scheduler) → r ≡ woken s t → length s.threads ≡ 32 → length r.threads ≡ 32
unfolding woken moved with_order with_thread
woken_sized s t r e h = ap (λ (x : Scheduler). length x.threads) e ∙ length-set s.threads t (awake (thread_at s t)) ∙ h
