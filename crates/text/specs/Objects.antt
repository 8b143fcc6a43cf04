-- Objects and the orders of their waiters as text: each created object has a line, with its number, its sizes, what it holds and who waits.
use Rattle.std.specs.Prelude.{if◌then◌else◌, List, [], ◌++◌, ◌&&◌, ℕ, ◌%◌, eqb, ltb}
use Prim.Native.Char.{code}
use Rattle.scheduler.specs.declared.Scheduler.{Scheduler}
use Rattle.scheduler.specs.Threads.{on_queue, on_semaphore, on_flags, on_block, waiters_at}
use Rattle.scheduler.specs.Orders.{line_at}
use Rattle.objects.specs.declared.semaphore.Semaphore.{Semaphore}
use Rattle.objects.specs.declared.queue.Queue.{Queue}
use Rattle.objects.specs.declared.group.Group.{Group}
use Rattle.objects.specs.Queues.{capacity_of, stored_words}
use Rattle.blocks.specs.declared.pool.Pool.{Pool}
use Rattle.blocks.specs.Pools.{blocks_of, free_blocks}
use Rattle.output.specs.Texts.{ascii, decimal_of}
use Rattle.text.specs.Texts.{field_text, each_text, separator_text, separated, line_text}

-- ---- semaphores
-- a semaphore: its count and its waiters
unfoldable pub semaphore_text : ℕ → Semaphore → List ℕ → List ℕ
semaphore_text n x waiters =
    if x.created then field_text (ascii "sem ") n ++ field_text (ascii " count=") x.count ++ line_text waiters else []

-- all semaphores by number
unfoldable pub semaphores_text : List Semaphore → Scheduler → List ℕ
semaphores_text all s = each_text (λ n x. semaphore_text n x (line_at s (waiters_at on_semaphore n))) 0 all

-- ---- queues
-- what stands before word i of a queue's store, i not being 0: `|` before the first word of a message, `,` before any other
unfoldable pub word_separator : ℕ → ℕ → ℕ
word_separator words i = if ltb 0 words && eqb (i % words) 0 then code "|" else code ","

-- the words of the stored messages, the oldest message first
unfoldable pub stored_text : Queue → List ℕ
stored_text q = each_text (λ i w. separator_text i (word_separator q.words i) ++ decimal_of w) 0 (stored_words q)

-- a queue's number, message size, storage and capacity
unfoldable pub queue_sizes_text : ℕ → Queue → List ℕ
queue_sizes_text n q =
    field_text (ascii "queue ") n
    ++ field_text (ascii " size=") q.words
    ++ field_text (ascii " storage=") q.storage
    ++ field_text (ascii " cap=") (capacity_of q)

-- a queue: its sizes, its messages and its waiters
unfoldable pub queue_text : ℕ → Queue → List ℕ → List ℕ
queue_text n q waiters =
    if q.created then queue_sizes_text n q ++ ascii " stored=[" ++ stored_text q ++ ascii "]" ++ line_text waiters else []

-- all queues by number
unfoldable pub queues_text : List Queue → Scheduler → List ℕ
queues_text all s = each_text (λ n q. queue_text n q (line_at s (waiters_at on_queue n))) 0 all

-- ---- groups
-- a group: its flags and its waiters
unfoldable pub group_text : ℕ → Group → List ℕ → List ℕ
group_text n g waiters =
    if g.created then field_text (ascii "group ") n ++ field_text (ascii " flags=") g.flags ++ line_text waiters else []

-- all groups by number
unfoldable pub groups_text : List Group → Scheduler → List ℕ
groups_text all s = each_text (λ n g. group_text n g (line_at s (waiters_at on_flags n))) 0 all

-- ---- pools
-- the free blocks in the order in which they are given
unfoldable pub free_text : Pool → List ℕ
free_text p = separated (code ",") (free_blocks p)

-- a pool's number, the bytes of a block and of the pool, and how many blocks there are
unfoldable pub pool_sizes_text : ℕ → Pool → List ℕ
pool_sizes_text n p =
    field_text (ascii "pool ") n
    ++ field_text (ascii " block=") p.block
    ++ field_text (ascii " total=") p.total
    ++ field_text (ascii " blocks=") (blocks_of p)

-- a pool: its sizes, its free blocks and its waiters
unfoldable pub pool_text : ℕ → Pool → List ℕ → List ℕ
pool_text n p waiters =
    if p.created
    then pool_sizes_text n p ++ ascii " free=[" ++ free_text p ++ ascii "] " ++ line_text waiters
    else []

-- all pools by number
unfoldable pub pools_text : List Pool → Scheduler → List ℕ
pools_text all s = each_text (λ n p. pool_text n p (line_at s (waiters_at on_block n))) 0 all
