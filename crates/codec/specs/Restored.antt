-- When tables fit a block, as every value of the code's types does, and what is claimed of the block that such tables are written to
-- (rule 14.2).
use Rattle.std.specs.Prelude.{◌≡◌, List, [], ◌∷◌, true, ℕ, length}
use Rattle.scheduler.specs.declared.thread.Thread.{Thread}
use Rattle.scheduler.specs.declared.Scheduler.{Scheduler}
use Rattle.objects.specs.declared.semaphore.Semaphore.{Semaphore}
use Rattle.objects.specs.declared.queue.Queue.{Queue}
use Rattle.objects.specs.declared.group.Group.{Group}
use Rattle.blocks.specs.declared.pool.Pool.{Pool}
use Rattle.calls.specs.declared.held.Held.{Held}
use Rattle.kernel.specs.declared.Kernel.{Kernel}
use Rattle.words.specs.Words.{Byte, Half, Word}
use Rattle.codec.specs.Layout.{
  thread_count,
  semaphore_count,
  queue_count,
  group_count,
  pool_count,
  word_count,
  store_count,
  list_count,
  state_bytes,
}
use Rattle.codec.specs.State.{kernel_of, flags_fitb}
use Rattle.codec.specs.Bytes.{bytes_of}

-- ---- arrays
-- P holds of every element
abbrev pub All : {A : Type 0} → (A → Type 0) → List A → Type 0
All P [] = Unit {0}
All P (x ∷ xs) = P x × All P xs

-- n elements, and P holds of each
pub record Array {A : Type 0} (P : A → Type 0) (n : ℕ) (xs : List A) : Type 0 where
  pub size : length xs ≡ n
  pub each : All P xs

-- ---- records
-- a thread fits its bytes
pub record ThreadFits (th : Thread) : Type 0 where
  pub state : Byte th.state
  pub priority : Byte th.priority
  pub threshold : Byte th.threshold
  pub object : Byte th.object
  pub ticks : Word th.ticks

-- what a thread holds fits its bytes
pub record HeldFits (h : Held) : Type 0 where
  pub status : Word h.status
  pub words : Array Word word_count h.words
  pub request : Word h.request
  pub option : Byte h.option

-- a semaphore fits its bytes
pub record SemaphoreFits (x : Semaphore) : Type 0 where
  pub count : Word x.count

-- a queue fits its bytes
pub record QueueFits (q : Queue) : Type 0 where
  pub words : Byte q.words
  pub storage : Byte q.storage
  pub stored : Byte q.stored
  pub store : Array Word store_count q.store

-- a group fits its bytes
pub record GroupFits (g : Group) : Type 0 where
  pub flags : Word g.flags

-- a pool fits its bytes
pub record PoolFits (p : Pool) : Type 0 where
  pub block : Half p.block
  pub total : Word p.total
  pub free : Byte p.free
  pub list : Array Byte list_count p.list

-- ---- the tables
-- the scheduler fits its bytes
pub record SchedulerFits (s : Scheduler) : Type 0 where
  pub running : Byte s.running.0
  pub ids : Array Byte thread_count s.order.ids
  pub len : Byte s.order.len
  pub threads : Array ThreadFits thread_count s.threads

-- rule 14.2: the tables fit a block
pub record Fits (k : Kernel) : Type 0 where
  pub scheduler : SchedulerFits k.scheduler
  pub held : Array HeldFits thread_count k.held
  pub semaphores : Array SemaphoreFits semaphore_count k.semaphores
  pub queues : Array QueueFits queue_count k.queues
  pub groups : Array GroupFits group_count k.groups
  pub pools : Array PoolFits pool_count k.pools
  pub clock : Word k.clock

-- ---- claims
-- rules 14.1, 14.2: the block that tables are written to
pub record BlockClaims : Type 0 where
  -- a block has its size
  pub sized : (k : Kernel) → Fits k → length (bytes_of k) ≡ state_bytes
  -- every number of it is a byte
  pub bytes : (k : Kernel) → Fits k → All Byte (bytes_of k)
  -- every flag that is written is 0 or 1
  pub flagged : (k : Kernel) → Fits k → flags_fitb (bytes_of k) ≡ true
  -- rule 14.2: the tables that are read are those that were written
  pub restored : (k : Kernel) → Fits k → kernel_of (bytes_of k) ≡ k
  -- rule 14.2: the tables of any block fit one
  pub fitted : (b : List ℕ) → length b ≡ state_bytes → All Byte b → Fits (kernel_of b)
  -- rule 14.2: the bytes that are written are those that were read, where every flag is 0 or 1
  pub rewritten : (b : List ℕ) → length b ≡ state_bytes → All Byte b → flags_fitb b ≡ true → bytes_of (kernel_of b) ≡ b
