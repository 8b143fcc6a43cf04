-- Accounts from history (rules 13.5, 13.6, 13.8): what a semaphore counts and how many blocks a pool has free, from the calls since its creation.
use Rattle.std.specs.Prelude.{◌≡◌, List, [], ◌∷◌, Bool, true, false, ◌&&◌, ℕ, ◌+◌, ◌-◌, ◌/◌, ◌<◌, ◌≤◌, length}
use Rattle.lines.specs.Logic.{one_if}
use Rattle.lines.specs.Lists.{filter, count}
use Rattle.scheduler.specs.Orders.{line_at}
use Rattle.blocks.specs.Pools.{blocks_of, free_blocks}
use Rattle.calls.specs.Services.{semaphore_create, block_pool_create}
use Rattle.calls.specs.Statuses as Statuses
use Rattle.kernel.specs.declared.Kernel.{Kernel}
use Rattle.kernel.specs.Tables.{semaphore_at, pool_at}
use Rattle.kernel.specs.Sound.{Sound}
use Rattle.kernel.specs.Kinds.{Kind, place_of}
use Rattle.kernel.specs.Roles.{row_of}
use Rattle.claims.specs.Lists.{Made, answer, next, after}
use Rattle.claims.specs.Rolls.{onb, givesb, takesb, succeedsb, waiters_of, gave, servedb}

-- ---- who is served
-- rule 13.6: how many of those who waited there a call serves, whatever call it is
unfoldable pub served_later : Kind → ℕ → Kernel → Made → ℕ
served_later d n k m = length (filter (servedb (next k m)) (line_at k.scheduler (place_of d n)))

-- rule 13.6: how many gets or allocates a list of calls serves there, at once or later
unfoldable pub served : Kind → ℕ → Kernel → List Made → ℕ
served d n k [] = 0
served d n k (m ∷ ms) = one_if (takesb d n m && succeedsb (answer k m)) + served_later d n k m + served d n (next k m) ms

-- ---- the history of an object ends with its delete
-- rule 13.5: a delete of the object
unfoldable pub deletesb : Kind → ℕ → Made → Bool
deletesb d n m = onb n m (row_of d).deletes

-- rule 13.5: no delete of it is done in a list of calls
abbrev pub Undeleted : Kind → ℕ → Kernel → List Made → Type 0
Undeleted d n k [] = Unit {0}
Undeleted d n k (m ∷ ms) = ((deletesb d n m && succeedsb (answer k m)) ≡ false) × Undeleted d n (next k m) ms

-- ---- the accounts of a list of calls
-- rule 13.5: the account of a semaphore that starts with a count
pub record SemaphoreAccount (n start : ℕ) (k : Kernel) (ms : List Made) : Type 0 where
  -- nothing is lost by taking off: no more gets are served than the start and the puts allow
  pub enough : served Kind.semaphore n k ms ≤ start + gave Kind.semaphore n k ms
  -- the start plus puts less served gets, as numbers
  pub count : (semaphore_at (after k ms) n).count ≡ start + gave Kind.semaphore n k ms - served Kind.semaphore n k ms

-- rule 13.5: the account of a pool that starts with so many free blocks
pub record PoolAccount (n start : ℕ) (k : Kernel) (ms : List Made) : Type 0 where
  -- no more allocates are served than the start and the releases allow
  pub enough : served Kind.pool n k ms ≤ start + gave Kind.pool n k ms
  -- the start plus releases less served allocates
  pub free : (pool_at (after k ms) n).free ≡ start + gave Kind.pool n k ms - served Kind.pool n k ms
  -- so many blocks are listed as free
  pub listed : length (free_blocks (pool_at (after k ms) n)) ≡ (pool_at (after k ms) n).free
  -- the total stays what it was
  pub total : blocks_of (pool_at (after k ms) n) ≡ blocks_of (pool_at k n)

-- ---- the claims
-- rule 13.5: the accounts hold of every list of calls in which no delete of the object is done
pub record Accounts : Type 0 where
  -- call 16 creates a semaphore that starts with the count of its second argument
  pub semaphore : (k : Kernel) → Sound k → (m : Made) → m.request.number ≡ semaphore_create → succeedsb (answer k m) ≡ true
      → (ms : List Made) → Undeleted Kind.semaphore m.request.a (next k m) ms
      → SemaphoreAccount m.request.a m.request.b (next k m) ms
  -- call 33 creates a pool, all of whose blocks are free
  pub pool : (k : Kernel) → Sound k → (m : Made) → m.request.number ≡ block_pool_create → succeedsb (answer k m) ≡ true
      → (ms : List Made) → Undeleted Kind.pool m.request.a (next k m) ms
      → PoolAccount m.request.a (blocks_of (pool_at (next k m) m.request.a)) (next k m) ms
  -- rule 10.1: its blocks are those of the call's arguments
  pub pool_total : (k : Kernel) → Sound k → (m : Made) → m.request.number ≡ block_pool_create → succeedsb (answer k m) ≡ true
      → blocks_of (pool_at (next k m) m.request.a) ≡ m.request.c / (m.request.b + 4)
  -- from any sound tables in which it is created a semaphore has its present count for a start
  pub semaphore_from : (k : Kernel) → Sound k → (n : ℕ) → (semaphore_at k n).created ≡ true
      → (ms : List Made) → Undeleted Kind.semaphore n k ms → SemaphoreAccount n (semaphore_at k n).count k ms
  -- and a pool its free blocks, its list having its 64 slots
  pub pool_from : (k : Kernel) → Sound k → (n : ℕ) → (pool_at k n).created ≡ true → length (pool_at k n).list ≡ 64
      → (ms : List Made) → Undeleted Kind.pool n k ms → PoolAccount n (pool_at k n).free k ms
  -- rule 13.8: a put to a semaphore that somebody waits on is never refused for the count
  pub never_full : (k : Kernel) → Sound k → (n t : ℕ) → 0 < count t (waiters_of Kind.semaphore n k) → (m : Made)
      → givesb Kind.semaphore n m ≡ true → (answer k m).status ≡ Statuses.ceiling_exceeded → ⊥
