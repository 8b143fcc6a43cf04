-- The block of bytes that tables are written to (rule 14.1): the counterpart of State.
use Rattle.std.specs.Prelude.{if◌then◌else◌, List, [], ◌∷◌, ◌++◌, Bool, ℕ, eqb, length}
use Rattle.scheduler.specs.declared.thread.Thread.{Thread}
use Rattle.scheduler.specs.declared.Scheduler.{Scheduler}
use Rattle.objects.specs.declared.semaphore.Semaphore.{Semaphore}
use Rattle.objects.specs.declared.queue.Queue.{Queue}
use Rattle.objects.specs.declared.group.Group.{Group}
use Rattle.blocks.specs.declared.pool.Pool.{Pool}
use Rattle.calls.specs.declared.held.Held.{Held}
use Rattle.kernel.specs.declared.Kernel.{Kernel}
use Rattle.words.specs.Words.{word_bytes, half_bytes}
use Rattle.codec.specs.Blocks.{flag_byte, all_bytes}
use Rattle.codec.specs.Layout.{state_bytes}

-- ---- records
-- the bytes of a thread
unfoldable pub thread_bytes : Thread → List ℕ
thread_bytes th =
    flag_byte th.created ∷ th.state ∷ th.priority ∷ th.threshold ∷ flag_byte th.marked ∷ flag_byte th.suspending ∷ th.object
    ∷ word_bytes th.ticks

-- the bytes of what a thread holds
unfoldable pub held_bytes : Held → List ℕ
held_bytes h =
    word_bytes h.status
    ++ (all_bytes word_bytes h.words
    ++ (flag_byte h.sending ∷ flag_byte h.front ∷ (word_bytes h.request ++ (h.option ∷ []))))

-- the bytes of a flag and a word, which a semaphore is, and a group
unfoldable pub flagged_bytes : Bool → ℕ → List ℕ
flagged_bytes f x = flag_byte f ∷ word_bytes x

-- the bytes of a semaphore
abbrev pub semaphore_bytes : Semaphore → List ℕ
semaphore_bytes x = flagged_bytes x.created x.count

-- the bytes of a group
abbrev pub group_bytes : Group → List ℕ
group_bytes g = flagged_bytes g.created g.flags

-- the bytes of a queue
unfoldable pub queue_bytes : Queue → List ℕ
queue_bytes q = flag_byte q.created ∷ q.words ∷ q.storage ∷ q.stored ∷ all_bytes word_bytes q.store

-- the bytes of a pool
unfoldable pub pool_bytes : Pool → List ℕ
pool_bytes p = flag_byte p.created ∷ (half_bytes p.block ++ (word_bytes p.total ++ (p.free ∷ p.list)))

-- ---- the tables
-- the bytes of the runner, the order and the threads
unfoldable pub scheduler_bytes : Scheduler → List ℕ
scheduler_bytes s = s.running.0 ∷ (s.order.ids ++ (s.order.len ∷ all_bytes thread_bytes s.threads))

-- rule 14.1: the bytes of the tables
unfoldable pub bytes_of : Kernel → List ℕ
bytes_of k =
    scheduler_bytes k.scheduler
    ++ (all_bytes held_bytes k.held
    ++ (all_bytes semaphore_bytes k.semaphores
    ++ (all_bytes queue_bytes k.queues
    ++ (all_bytes group_bytes k.groups
    ++ (all_bytes pool_bytes k.pools
    ++ word_bytes k.clock)))))

-- the lent bytes after tables are written to them: bytes that are no block, for their number, stay as they are
unfoldable pub block_after : List ℕ → Kernel → List ℕ
block_after b k = if eqb (length b) state_bytes then bytes_of k else b
