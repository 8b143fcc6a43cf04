-- Sound tables: rules 12.1 to 12.9. What they say of single records is in the crates below.
use Rattle.std.specs.Prelude.{◌≡◌, Bool, true, ◌&&◌, ℕ, ◌<◌, length}
use Rattle.numbers.specs.Numbers.{threads, nobody}
use Rattle.lines.specs.Logic.{implies, all_below}
use Rattle.scheduler.specs.declared.thread.Thread.{Thread}
use Rattle.scheduler.specs.Threads.{on_queue, on_semaphore, on_flags, on_block}
use Rattle.scheduler.specs.Sound as Scheduling
use Rattle.calls.specs.declared.held.Held.{Held}
use Rattle.waiting.specs.Fit.{
  waits_onb,
  held_fitb,
  queue_waitb,
  semaphore_waitb,
  group_waitb,
  pool_waitb,
  semaphores_fitb,
  queues_fitb,
  groups_fitb,
  pools_fitb,
}
use Rattle.kernel.specs.declared.Kernel.{Kernel}
use Rattle.kernel.specs.Tables.{thread_of, held_at, semaphore_at, queue_at, group_at, pool_at}
use Rattle.kernel.specs.Kinds.{Kind, size_of, state_on, table_of, object_at, record_fitb, waitb}

-- ---- who waits for what
-- rule 12.5: thread t may wait on what it waits on, if it waits
unfoldable pub wait_fitb : Kernel → ℕ → Bool
wait_fitb k t =
    implies (waits_onb on_queue (thread_of k t)) (queue_waitb (held_at k t) (queue_at k (thread_of k t).object))
    && implies (waits_onb on_semaphore (thread_of k t)) (semaphore_waitb (semaphore_at k (thread_of k t).object))
    && implies (waits_onb on_flags (thread_of k t)) (group_waitb (held_at k t) (group_at k (thread_of k t).object))
    && implies (waits_onb on_block (thread_of k t)) (pool_waitb (pool_at k (thread_of k t).object))

-- rule 12.9: the test of the tables
unfoldable pub soundb : Kernel → Bool
soundb k =
    Scheduling.soundb k.scheduler
    && all_below threads (λ t. held_fitb (thread_of k t) (held_at k t))
    && all_below threads (wait_fitb k)
    && semaphores_fitb k.semaphores
    && queues_fitb k.queues
    && groups_fitb k.groups
    && pools_fitb k.pools

-- ---- soundness
-- rule 12.9: the arrays of the tables have their sizes, as in every value of the code's types
pub record Sized (k : Kernel) : Type 0 where
  pub records : length k.scheduler.threads ≡ threads
  pub held : length k.held ≡ threads
  pub objects : (d : Kind) → length (table_of d k) ≡ size_of d

-- rules 12.6, 12.7: the table of a kind of objects has its size, as every value of its type has, and each record is fit in itself: its
-- sizes are allowed, a free block is listed once and a used one never, what is not in use is zero
pub record Objects (d : Kind) (k : Kernel) : Type 0 where
  pub sized : length (table_of d k) ≡ size_of d
  pub fit : (n : ℕ) → n < size_of d → record_fitb d (object_at d k n) ≡ true

-- rule 12.5: a thread with this record that holds h may wait on the object that it waits on, of whichever kind
abbrev pub MayWait : Kernel → Thread → Held → Type 0
MayWait k th h = (d : Kind) → waits_onb (state_on d) th ≡ true → waitb d h (object_at d k th.object) ≡ true

-- rule 12.9: sound but for the runner
pub record Fit (k : Kernel) : Type 0 where
  -- rules 12.1, 12.2, 12.4, 12.7: each ready or waiting thread stands once in its own order, and nobody else; thread records are fit in
  -- themselves
  pub steady : Scheduling.Steady k.scheduler
  pub held_sized : length k.held ≡ threads
  -- rules 12.4, 12.7: each thread holds what its record says: 0x101 and zero words while it waits or sleeps, and nothing that is not in use
  pub held : (t : ℕ) → t < nobody → held_fitb (thread_of k t) (held_at k t) ≡ true
  -- rule 12.5: each waiter may wait on its object
  pub waits : (t : ℕ) → t < nobody → MayWait k (thread_of k t) (held_at k t)
  pub objects : (d : Kind) → Objects d k

-- rule 12.9: sound tables
pub record Sound (k : Kernel) : Type 0 where
  pub fit : Fit k
  -- rules 12.2, 12.3: the runner is ready, has no mark, and nobody ready is below its threshold; nobody runs only if nobody is ready
  pub runs : Scheduling.Runs k.scheduler
