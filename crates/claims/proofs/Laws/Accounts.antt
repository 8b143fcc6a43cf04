-- Accounts from history, over every list of calls.
use mathlib.Core.Path.{◌≡◌, refl, sym, ap, ◌∙◌, subst}
use mathlib.Core.List.{List, [], ◌∷◌}
use mathlib.Core.Bool.{true}
use Prim.Native.Nat.{ℕ, ◌+◌, ◌-◌, ◌/◌, ◌≤◌}
use native.Mathlib.Omega.{arith}
use lib.ListN.{length}
use Rattle.objects.specs.declared.semaphore.Semaphore.{Semaphore}
use Rattle.blocks.specs.declared.pool.Pool.{Pool}
use Rattle.blocks.specs.Pools.{blocks_of, pool_fitb, listing, fresh_pool, without_next, with_free}
use Rattle.blocks.proofs.Laws.Pools as Records
use Rattle.kernel.proofs.Laws.Objects
use Rattle.kernel.specs.declared.Kernel.{Kernel}
use Rattle.kernel.specs.Tables.{semaphore_at, pool_at}
use Rattle.kernel.specs.Kinds.Kind.{semaphore, pool}
use Rattle.kernel.specs.Sound.{Sound}
use Rattle.calls.specs.Callers.{one_of}
use Rattle.kernel.specs.Effects.{counting}
use Rattle.claims.specs.Lists.{Made, answer, next, after}
use Rattle.claims.specs.Rolls.{succeedsb, gave}
use Rattle.claims.specs.Accounts.{served_later, served, Undeleted, SemaphoreAccount, PoolAccount, Accounts}
use Rattle.claims.proofs.Laws.Steps.{next_sound}
use Rattle.claims.proofs.Laws.Served.{later}
use Rattle.claims.proofs.Laws.Puts.{never_full_lem}
use Rattle.claims.proofs.Laws.Entries.{Entry, even, less, more, gives, takes, step_entry, new-object}

-- ---- what one call makes of a count
record Counted (n : ℕ) (k : Kernel) (m : Made) (status : ℕ) (x : Kernel) : Type 0 where
  created : (semaphore_at x n).created ≡ true
  enough : takes semaphore n m status + later semaphore n k x ≤ (semaphore_at k n).count + gives semaphore n m status
  count : (semaphore_at x n).count ≡ (semaphore_at k n).count + gives semaphore n m status - (takes semaphore n m status + later semaphore n k x)

module _ (n : ℕ) (k : Kernel) (m : Made) (status : ℕ) (x : Kernel) (made : (semaphore_at k n).created ≡ true) where
  counted : Entry semaphore n k m status x → Counted n k m status x
  unfolding counting
  counted (even b e) = let c = ap (λ (y : Semaphore). y.count) e in record { created = ap (λ (y : Semaphore). y.created) e ∙ made; enough = omega (arith, b); count = omega (arith, b, c) }
  counted (less o g some e) = let c = ap (λ (y : Semaphore). y.count) e in record { created = ap (λ (y : Semaphore). y.created) e; enough = omega (arith, o, some); count = omega (arith, o, g, c, some) }
  counted (more o g may e) = let c = ap (λ (y : Semaphore). y.count) e in record { created = ap (λ (y : Semaphore). y.created) e; enough = omega (arith, o); count = omega (arith, o, g, c) }

-- ---- and of the free blocks
record Booked (n : ℕ) (k : Kernel) (m : Made) (status : ℕ) (x : Kernel) : Type 0 where
  created : (pool_at x n).created ≡ true
  slots : length (pool_at x n).list ≡ 64
  total : blocks_of (pool_at x n) ≡ blocks_of (pool_at k n)
  enough : takes pool n m status + later pool n k x ≤ (pool_at k n).free + gives pool n m status
  free : (pool_at x n).free ≡ (pool_at k n).free + gives pool n m status - (takes pool n m status + later pool n k x)

module _ (n : ℕ) (k : Kernel) (S : Sound k) (made : (pool_at k n).created ≡ true) (slots : length (pool_at k n).list ≡ 64) where
  pool_fit : pool_fitb (pool_at k n) ≡ true
  pool_fit = Objects.object_fit pool k S.fit n made

  module _ (m : Made) (status : ℕ) (x : Kernel) where
    changed : (y : Pool) → pool_at x n ≡ y → Records.Alike y (pool_at k n) → length y.list ≡ 64 → takes pool n m status + later pool n k x ≤ (pool_at k n).free + gives pool n m status
        → y.free ≡ (pool_at k n).free + gives pool n m status - (takes pool n m status + later pool n k x) → Booked n k m status x
    changed y e a l enough f =
        record {
          created = ap (λ (z : Pool). z.created) e ∙ a.0 ∙ made;
          slots = ap (λ (z : Pool). length z.list) e ∙ l;
          total = ap blocks_of e ∙ Records.alike_blocks y (pool_at k n) a;
          enough = enough;
          free = ap (λ (z : Pool). z.free) e ∙ f;
        }

    booked : Entry pool n k m status x → Booked n k m status x
    unfolding without_next with_free
    booked (even b e) = changed (pool_at k n) e (refl, refl, refl) slots (omega (arith, b)) (omega (arith, b))
    booked (less o g some e) =
        let f = Records.without-free (pool_at k n) pool_fit made slots in
        changed (without_next (pool_at k n)) e (Records.without_alike (pool_at k n)) (Records.listing-slots (pool_at k n) _) (omega (arith, o, some)) (omega (arith, o, g, f))
    booked (more o g may e) =
        let f = Records.with-free (pool_at k n) pool_fit made slots m.request.b may in
        changed (with_free (pool_at k n) m.request.b) e (Records.with_alike (pool_at k n) m.request.b) (Records.listing-slots (pool_at k n) _) (omega (arith, o)) (omega (arith, o, g, f))

-- ---- lists of calls
semaphore_from_lem : (n : ℕ) (ms : List Made) (k : Kernel) → Sound k → (semaphore_at k n).created ≡ true → Undeleted semaphore n k ms → SemaphoreAccount n (semaphore_at k n).count k ms
unfolding served served_later gave after succeedsb
semaphore_from_lem n [] k S made u = record { enough = omega arith; count = omega arith }
semaphore_from_lem n (m ∷ ms) k S made u =
    let one = counted n k m (answer k m).status (next k m) made (step_entry semaphore refl n k S made m u.0) in
    let few = one.enough in
    let now = one.count in
    let rest = semaphore_from_lem n ms (next k m) (next_sound k S m) one.created u.1 in
    let enough = rest.enough in
    let last = rest.count in
    record { enough = omega (arith, few, now, enough); count = omega (arith, few, now, enough, last) }

pool_from_lem : (n : ℕ) (ms : List Made) (k : Kernel) → Sound k → (pool_at k n).created ≡ true → length (pool_at k n).list ≡ 64 → Undeleted pool n k ms → PoolAccount n (pool_at k n).free k ms
unfolding served served_later gave after succeedsb
pool_from_lem n [] k S made slots u = record { enough = omega arith; free = omega arith; listed = Records.fit_length (pool_at k n) (pool_fit n k S made slots) made slots; total = refl }
pool_from_lem n (m ∷ ms) k S made slots u =
    let one = booked n k S made slots m (answer k m).status (next k m) (step_entry pool refl n k S made m u.0) in
    let few = one.enough in
    let now = one.free in
    let rest = pool_from_lem n ms (next k m) (next_sound k S m) one.created one.slots u.1 in
    let enough = rest.enough in
    let last = rest.free in
    record { enough = omega (arith, few, now, enough); free = omega (arith, few, now, enough, last); listed = rest.listed; total = rest.total ∙ one.total }

-- ---- since creation
module _ (k : Kernel) (S : Sound k) (m : Made) where
  semaphore_since : m.request.number ≡ 16 → succeedsb (answer k m) ≡ true → (ms : List Made) → Undeleted semaphore m.request.a (next k m) ms → SemaphoreAccount m.request.a m.request.b (next k m) ms
  unfolding counting
  semaphore_since n done ms u =
      let e = new-object k S m semaphore (subst (λ (i : ℕ). one_of i (16 ∷ []) ≡ true) (sym n) refl) done in
      let c : (semaphore_at (next k m) m.request.a).count ≡ m.request.b = ap (λ (y : Semaphore). y.count) e in
      subst (λ (b : ℕ). SemaphoreAccount m.request.a b (next k m) ms) c
      (semaphore_from_lem m.request.a ms (next k m) (next_sound k S m) (ap (λ (y : Semaphore). y.created) e) u)

  module _ (n : m.request.number ≡ 33) (done : succeedsb (answer k m) ≡ true) where
    fresh : pool_at (next k m) m.request.a ≡ fresh_pool m.request.b m.request.c
    fresh = new-object k S m pool (subst (λ (i : ℕ). one_of i (33 ∷ []) ≡ true) (sym n) refl) done

    pool_since : (ms : List Made) → Undeleted pool m.request.a (next k m) ms → PoolAccount m.request.a (blocks_of (pool_at (next k m) m.request.a)) (next k m) ms
    unfolding fresh_pool listing
    pool_since ms u =
        let T = next_sound k S m in
        let made = ap (λ (y : Pool). y.created) fresh in
        let slots = ap (λ (y : Pool). length y.list) fresh ∙ Records.listing-slots (pool_at k m.request.a) _ in
        let sizes = Records.fit_sizes (fresh_pool m.request.b m.request.c) (sym (ap pool_fitb fresh) ∙ pool_fit m.request.a (next k m) T made slots) refl in
        let all = ap (λ (y : Pool). y.free) fresh ∙ Records.fresh-free m.request.b m.request.c sizes ∙ sym (ap blocks_of fresh) in
        subst (λ (b : ℕ). PoolAccount m.request.a b (next k m) ms) all (pool_from_lem m.request.a ms (next k m) T made slots u)

    pool-total : blocks_of (pool_at (next k m) m.request.a) ≡ m.request.c / (m.request.b + 4)
    unfolding fresh_pool listing blocks_of
    pool-total = ap blocks_of fresh

-- ---- all of it
pub accounts : Accounts
accounts =
    record {
      semaphore = λ k S m n done ms u. semaphore_since k S m n done ms u;
      pool = λ k S m n done ms u. pool_since k S m n done ms u;
      pool_total = λ k S m n done. pool-total k S m n done;
      semaphore_from = λ k S n made ms u. semaphore_from_lem n ms k S made u;
      pool_from = λ k S n made slots ms u. pool_from_lem n ms k S made slots u;
      never_full = λ k S n t here m g. never_full_lem k S n t here m g;
    }
