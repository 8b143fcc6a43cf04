-- Laws of the tables of objects, one for every kind: what is read, what a store changes, and who waits where.
use mathlib.Core.Path.{◌≡◌, refl, sym, ap, ◌∙◌, subst}
use mathlib.Core.List.{List}
use mathlib.Core.Bool.{true, false}
use Prim.Native.Nat.{ℕ, ◌<◌, ◌≤◌}
use native.Mathlib.Omega.{arith}
use lib.ListN.{length, get_or, set, length-set, get_or-eq_default}
use lib.Dec.{eqb, ltb}
use lib.Seq.{get_or-set_same, get_or-set_other}
use borrow.Author.Tests.{ltb-true, ltb-false}
use Rattle.std.specs.Prelude.{if◌then◌else◌}
use Rattle.lines.proofs.Laws.Logic.{by_test, by_eq, never, and_left}
use Rattle.scheduler.specs.declared.thread.Thread.{Thread}
use Rattle.scheduler.specs.declared.Scheduler.{Scheduler}
use Rattle.objects.specs.Semaphores.{no_semaphore}
use Rattle.objects.specs.Queues.{no_queue}
use Rattle.objects.specs.Groups.{no_group}
use Rattle.blocks.specs.Pools.{no_pool}
use Rattle.calls.specs.declared.held.Held.{Held}
use Rattle.waiting.specs.Fit.{waits_onb, semaphore_waitb, queue_waitb, group_waitb, pool_waitb}
use Rattle.kernel.specs.declared.Kernel.{Kernel}
use Rattle.kernel.specs.Tables.{thread_of, held_at, semaphore_at, queue_at, group_at, pool_at, with_scheduler, with_held, with_semaphore, with_queue, with_group, with_pool, with_clock}
use Rattle.kernel.specs.Kinds.{Kind, Object, size_of, state_on, table_of, object_at, with_object, no_object, createdb, record_fitb, waitb}
use Rattle.kernel.specs.Kinds.Kind.{semaphore, queue, group, pool}
use Rattle.kernel.specs.Sound.{Objects, MayWait, Fit}

-- ---- what holds of each kind holds of all
pub by_kind : (P : Kind → Type 0) → P semaphore → P queue → P group → P pool → (d : Kind) → P d
by_kind P s q g p semaphore = s
by_kind P s q g p queue = q
by_kind P s q g p group = g
by_kind P s q g p pool = p

-- ---- kinds by the state of those who wait
pub state_low : (d : Kind) → 4 < state_on d
state_low = by_kind (λ d. 4 < state_on d) (omega arith) (omega arith) (omega arith) (omega arith)

pub state_known : (d : Kind) → state_on d ≤ 8
state_known = by_kind (λ d. state_on d ≤ 8) (omega arith) (omega arith) (omega arith) (omega arith)

kind_at : ℕ → Kind
kind_at state = if eqb state 5 then queue else if eqb state 6 then semaphore else if eqb state 7 then group else pool

kind-at : (d : Kind) → kind_at (state_on d) ≡ d
unfolding kind_at
kind-at = by_kind (λ d. kind_at (state_on d) ≡ d) refl refl refl refl

pub same_kind : (d e : Kind) → state_on d ≡ state_on e → d ≡ e
same_kind d e s = sym (kind-at d) ∙ ap kind_at s ∙ kind-at e

-- ---- reads
pub object_is : (d : Kind) (k : Kernel) (n : ℕ) → object_at d k n ≡ get_or (table_of d k) n (no_object d)
unfolding semaphore_at queue_at group_at pool_at
object_is d k n = by_kind (λ d. object_at d k n ≡ get_or (table_of d k) n (no_object d)) refl refl refl refl d

-- tables with the same records
pub same_object : (d : Kind) (k x : Kernel) → table_of d x ≡ table_of d k → (n : ℕ) → object_at d x n ≡ object_at d k n
same_object d k x e n = object_is d x n ∙ ap (λ (l : List (Object d)). get_or l n (no_object d)) e ∙ sym (object_is d k n)

pub same_objects : (d : Kind) (k x : Kernel) → table_of d x ≡ table_of d k → Objects d k → Objects d x
same_objects d k x e F =
    record {
      sized = ap (λ (l : List (Object d)). length l) e ∙ F.sized;
      fit = λ n l. ap (record_fitb d) (same_object d k x e n) ∙ F.fit n l;
    }

pub same-waits : (k x : Kernel) → ((d : Kind) → table_of d x ≡ table_of d k) → (th : Thread) (h : Held) → MayWait k th h → MayWait x th h
same-waits k x e th h W d w = ap (waitb d h) (same_object d k x (e d) th.object) ∙ W d w

-- what is not stored in
pub table-scheduler : (k : Kernel) (s : Scheduler) (d : Kind) → table_of d (with_scheduler k s) ≡ table_of d k
unfolding with_scheduler
table-scheduler k s = by_kind (λ d. table_of d (with_scheduler k s) ≡ table_of d k) refl refl refl refl

pub table-held : (k : Kernel) (t : ℕ) (h : Held) (d : Kind) → table_of d (with_held k t h) ≡ table_of d k
unfolding with_held
table-held k t h = by_kind (λ d. table_of d (with_held k t h) ≡ table_of d k) refl refl refl refl

pub table-clock : (k : Kernel) (c : ℕ) (d : Kind) → table_of d (with_clock k c) ≡ table_of d k
unfolding with_clock
table-clock k c = by_kind (λ d. table_of d (with_clock k c) ≡ table_of d k) refl refl refl refl

-- ---- a store
table-stored : (d : Kind) (k : Kernel) (n : ℕ) (x : Object d) → table_of d (with_object d k n x) ≡ set (table_of d k) n x
unfolding with_semaphore with_queue with_group with_pool
table-stored d k n = by_kind (λ d. (x : Object d) → table_of d (with_object d k n x) ≡ set (table_of d k) n x) (λ x. refl) (λ x. refl) (λ x. refl) (λ x. refl) d

pub stored-scheduler : (d : Kind) (k : Kernel) (n : ℕ) (x : Object d) → (with_object d k n x).scheduler ≡ k.scheduler
unfolding with_semaphore with_queue with_group with_pool
stored-scheduler d k n = by_kind (λ d. (x : Object d) → (with_object d k n x).scheduler ≡ k.scheduler) (λ x. refl) (λ x. refl) (λ x. refl) (λ x. refl) d

pub stored-held : (d : Kind) (k : Kernel) (n : ℕ) (x : Object d) → (with_object d k n x).held ≡ k.held
unfolding with_semaphore with_queue with_group with_pool
stored-held d k n = by_kind (λ d. (x : Object d) → (with_object d k n x).held ≡ k.held) (λ x. refl) (λ x. refl) (λ x. refl) (λ x. refl) d

-- the tables of the other kinds
table_other : (d : Kind) (k : Kernel) (n : ℕ) (x : Object d) (e : Kind) → (e ≡ d → ⊥) → table_of e (with_object d k n x) ≡ table_of e k
unfolding with_semaphore with_queue with_group with_pool
table_other semaphore k n x = by_kind (λ e. (e ≡ semaphore → ⊥) → table_of e (with_semaphore k n x) ≡ table_of e k) (λ o. absurd (o refl)) (λ o. refl) (λ o. refl) (λ o. refl)
table_other queue k n x = by_kind (λ e. (e ≡ queue → ⊥) → table_of e (with_queue k n x) ≡ table_of e k) (λ o. refl) (λ o. absurd (o refl)) (λ o. refl) (λ o. refl)
table_other group k n x = by_kind (λ e. (e ≡ group → ⊥) → table_of e (with_group k n x) ≡ table_of e k) (λ o. refl) (λ o. refl) (λ o. absurd (o refl)) (λ o. refl)
table_other pool k n x = by_kind (λ e. (e ≡ pool → ⊥) → table_of e (with_pool k n x) ≡ table_of e k) (λ o. refl) (λ o. refl) (λ o. refl) (λ o. absurd (o refl))

-- one kind or another
by_same : {P : Type 0} (e d : Kind) → (e ≡ d → P) → ((e ≡ d → ⊥) → P) → P
by_same e d f g = by_eq (state_on e) (state_on d) (λ s. f (same_kind e d s)) (λ s. g (λ z. s (ap state_on z)))

module _ (d : Kind) (k : Kernel) (n : ℕ) (x : Object d) where
  pub stored_self : length (table_of d k) ≡ size_of d → n < size_of d → object_at d (with_object d k n x) n ≡ x
  stored_self sized small =
      object_is d (with_object d k n x) n ∙ ap (λ (l : List (Object d)). get_or l n (no_object d)) (table-stored d k n x)
      ∙ get_or-set_same (table_of d k) n x (no_object d) (omega (arith, sized, small))

  pub stored_other : (m : ℕ) → (m ≡ n → ⊥) → object_at d (with_object d k n x) m ≡ object_at d k m
  stored_other m o =
      object_is d (with_object d k n x) m ∙ ap (λ (l : List (Object d)). get_or l m (no_object d)) (table-stored d k n x)
      ∙ get_or-set_other (table_of d k) n m x (no_object d) o ∙ sym (object_is d k m)

  pub stored_elsewhere : (e : Kind) (m : ℕ) → (e ≡ d → m ≡ n → ⊥) → object_at e (with_object d k n x) m ≡ object_at e k m
  stored_elsewhere e m o =
      by_same e d
      (λ z. subst (λ (c : Kind). object_at c (with_object d k n x) m ≡ object_at c k m) (sym z) (stored_other m (o z)))
      (λ z. same_object e k (with_object d k n x) (table_other d k n x e z) m)

  stored_sized : length (table_of d k) ≡ size_of d → length (table_of d (with_object d k n x)) ≡ size_of d
  stored_sized e = ap (λ (l : List (Object d)). length l) (table-stored d k n x) ∙ length-set (table_of d k) n x ∙ e

  module _ (F : (c : Kind) → Objects c k) (small : n < size_of d) where
    -- a fit record leaves every table fit
    stored_here : record_fitb d x ≡ true → Objects d (with_object d k n x)
    stored_here fit =
        record {
          sized = stored_sized (F d).sized;
          fit = λ m l. by_eq m n
              (λ e. ap (λ (i : ℕ). record_fitb d (object_at d (with_object d k n x) i)) e ∙ ap (record_fitb d) (stored_self (F d).sized small) ∙ fit)
              (λ o. ap (record_fitb d) (stored_other m o) ∙ (F d).fit m l);
        }

    pub stored_objects : record_fitb d x ≡ true → (e : Kind) → Objects e (with_object d k n x)
    stored_objects fit e =
        by_same e d
        (λ z. subst (λ (c : Kind). Objects c (with_object d k n x)) (sym z) (stored_here fit))
        (λ z. same_objects e k (with_object d k n x) (table_other d k n x e z) (F e))

    -- who waits on it may wait on the new record, and all others wait as before
    pub stored-waits : (th : Thread) (h : Held) → (waits_onb (state_on d) th ≡ true → th.object ≡ n → waitb d h x ≡ true) → MayWait k th h → MayWait (with_object d k n x) th h
    stored-waits th h here W e w =
        by_same e d
        (λ z. subst (λ (c : Kind). waitb c h (object_at c (with_object d k n x) th.object) ≡ true) (sym z)
        (let v = subst (λ (c : Kind). waits_onb (state_on c) th ≡ true) z w in
        by_eq th.object n
        (λ m. ap (λ (i : ℕ). waitb d h (object_at d (with_object d k n x) i)) m ∙ ap (waitb d h) (stored_self (F d).sized small) ∙ here v m)
        (λ m. ap (waitb d h) (stored_other th.object m) ∙ W d v)))
        (λ z. ap (waitb e h) (same_object e k (with_object d k n x) (table_other d k n x e z) th.object) ∙ W e w)

-- ---- a created object
none-created : (d : Kind) → createdb d (no_object d) ≡ false
unfolding no_semaphore no_queue no_group no_pool
none-created = by_kind (λ d. createdb d (no_object d) ≡ false) refl refl refl refl

-- who may wait waits on a created object
wait-created : (d : Kind) (h : Held) (x : Object d) → waitb d h x ≡ true → createdb d x ≡ true
unfolding semaphore_waitb queue_waitb group_waitb pool_waitb
wait-created semaphore h x w = and_left x.created _ w
wait-created queue h x w = and_left x.created _ w
wait-created group h x w = and_left x.created _ w
wait-created pool h x w = and_left x.created _ w

-- nobody may wait on one that is not
pub none-waits : (d : Kind) (h : Held) → waitb d h (no_object d) ≡ false
none-waits d h = by_test (waitb d h (no_object d)) (λ y. never (wait-created d h (no_object d) y) (none-created d)) (λ y. y)

module _ (d : Kind) (k : Kernel) (F : Fit k) (n : ℕ) where
  -- it is in the table, and fit
  pub object_small : createdb d (object_at d k n) ≡ true → n < size_of d
  object_small made =
      by_test (ltb n (size_of d))
      (λ w. ltb-true n (size_of d) w)
      (λ w. never made
      (ap (createdb d) (object_is d k n ∙ get_or-eq_default (table_of d k) (no_object d) (let o = ltb-false n (size_of d) w in let e = (F.objects d).sized in omega (arith, o, e))) ∙ none-created d))

  pub object_fit : createdb d (object_at d k n) ≡ true → record_fitb d (object_at d k n) ≡ true
  object_fit made = (F.objects d).fit n (object_small made)

  -- who waits there may
  pub waits_here : (t : ℕ) → t < 32 → waits_onb (state_on d) (thread_of k t) ≡ true → (thread_of k t).object ≡ n → waitb d (held_at k t) (object_at d k n) ≡ true
  waits_here t l w o = ap (λ (i : ℕ). waitb d (held_at k t) (object_at d k i)) (sym o) ∙ F.waits t l d w

  -- where the record lets a thread not wait, it does not
  pub waits-not : {P : Type 0} (t : ℕ) → waitb d (held_at k t) (object_at d k n) ≡ false → t < 32 → waits_onb (state_on d) (thread_of k t) ≡ true → (thread_of k t).object ≡ n → P
  waits-not t none l w o = never (waits_here t l w o) none

  pub waits-created : (t : ℕ) → t < 32 → waits_onb (state_on d) (thread_of k t) ≡ true → (thread_of k t).object ≡ n → createdb d (object_at d k n) ≡ true
  waits-created t l w o = wait-created d (held_at k t) (object_at d k n) (waits_here t l w o)
