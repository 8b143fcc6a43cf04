-- The kinds of objects. What is the same for all of them is said over the kind: its table, and who waits on an object.
use Rattle.std.specs.Prelude.{List, Bool, ℕ}
use Rattle.numbers.specs.Numbers.{semaphores, queues, groups, pools}
use Rattle.scheduler.specs.declared.thread.Place.{Place}
use Rattle.scheduler.specs.Threads.{on_queue, on_semaphore, on_flags, on_block, waiters_at}
use Rattle.objects.specs.declared.semaphore.Semaphore.{Semaphore}
use Rattle.objects.specs.declared.queue.Queue.{Queue}
use Rattle.objects.specs.declared.group.Group.{Group}
use Rattle.blocks.specs.declared.pool.Pool.{Pool}
use Rattle.objects.specs.Semaphores.{no_semaphore, semaphore_fitb}
use Rattle.objects.specs.Queues.{no_queue, queue_fitb}
use Rattle.objects.specs.Groups.{no_group, group_fitb}
use Rattle.blocks.specs.Pools.{no_pool, pool_fitb}
use Rattle.calls.specs.declared.held.Held.{Held}
use Rattle.waiting.specs.Fit.{semaphore_waitb, queue_waitb, group_waitb, pool_waitb}
use Rattle.kernel.specs.declared.Kernel.{Kernel}
use Rattle.kernel.specs.Tables.{semaphore_at, queue_at, group_at, pool_at, with_semaphore, with_queue, with_group, with_pool}

-- rule 1.1: an object is a semaphore, a queue, an event flags group or a block pool
pub data Kind : Type 0 where
  semaphore : Kind
  queue : Kind
  group : Kind
  pool : Kind

-- the record of an object
abbrev pub Object : Kind → Type 0
Object semaphore = Semaphore
Object queue = Queue
Object group = Group
Object pool = Pool

-- rule 1.1: how many there are of a kind
abbrev pub size_of : Kind → ℕ
size_of semaphore = semaphores
size_of queue = queues
size_of group = groups
size_of pool = pools

-- rule 1.3: the state of those who wait on one
abbrev pub state_on : Kind → ℕ
state_on semaphore = on_semaphore
state_on queue = on_queue
state_on group = on_flags
state_on pool = on_block

-- rule 4.8: the place where they stand
abbrev pub place_of : Kind → ℕ → Place
place_of d n = waiters_at (state_on d) n

-- ---- the table of a kind
abbrev pub table_of : (d : Kind) → Kernel → List (Object d)
table_of semaphore k = k.semaphores
table_of queue k = k.queues
table_of group k = k.groups
table_of pool k = k.pools

-- rule 1.5: object n, or past the table one that is not created
abbrev pub object_at : (d : Kind) → Kernel → ℕ → Object d
object_at semaphore k n = semaphore_at k n
object_at queue k n = queue_at k n
object_at group k n = group_at k n
object_at pool k n = pool_at k n

-- another record for object n
abbrev pub with_object : (d : Kind) → Kernel → ℕ → Object d → Kernel
with_object semaphore k n x = with_semaphore k n x
with_object queue k n x = with_queue k n x
with_object group k n x = with_group k n x
with_object pool k n x = with_pool k n x

-- ---- a record
-- rules 5.9, 12.7: the record of one that is not created
abbrev pub no_object : (d : Kind) → Object d
no_object semaphore = no_semaphore
no_object queue = no_queue
no_object group = no_group
no_object pool = no_pool

-- it is created
abbrev pub createdb : (d : Kind) → Object d → Bool
createdb semaphore x = x.created
createdb queue x = x.created
createdb group x = x.created
createdb pool x = x.created

-- rules 12.6, 12.7: it is fit in itself
abbrev pub record_fitb : (d : Kind) → Object d → Bool
record_fitb semaphore x = semaphore_fitb x
record_fitb queue x = queue_fitb x
record_fitb group x = group_fitb x
record_fitb pool x = pool_fitb x

-- rule 12.5: a thread that holds h may wait on it
abbrev pub waitb : (d : Kind) → Held → Object d → Bool
waitb semaphore h x = semaphore_waitb x
waitb queue h x = queue_waitb h x
waitb group h x = group_waitb h x
waitb pool h x = pool_waitb x
