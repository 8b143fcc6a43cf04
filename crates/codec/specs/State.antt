-- The tables that a block of bytes holds (rule 14.1), and the test of its flags (rule 14.3). The fields lie in the kernel's order with no
-- gaps.
use Rattle.std.specs.Prelude.{if◌then◌else◌, List, Bool, ◌&&◌, ℕ, ◌+◌, ◌*◌, eqb, leb, length}
use Rattle.lines.specs.Logic.{all_below}
use Rattle.scheduler.specs.declared.thread.Thread.{Thread}
use Rattle.scheduler.specs.declared.Scheduler.{Scheduler}
use Rattle.objects.specs.declared.semaphore.Semaphore.{Semaphore}
use Rattle.objects.specs.declared.queue.Queue.{Queue}
use Rattle.objects.specs.declared.group.Group.{Group}
use Rattle.blocks.specs.declared.pool.Pool.{Pool}
use Rattle.calls.specs.declared.held.Held.{Held}
use Rattle.kernel.specs.declared.Kernel.{Kernel}
use Rattle.kernel.specs.Tables.{started}
use Rattle.words.specs.Words.{word_size, half_size}
use Rattle.codec.specs.Blocks.{part, byte_at, flag_at, word_of, half_of, table_of, words_of}
use Rattle.codec.specs.Layout.{
  clock_at,
  flagged_created,
  flagged_size,
  flagged_word,
  group_count,
  groups_at,
  held_at,
  held_front,
  held_option,
  held_request,
  held_sending,
  held_size,
  held_status,
  held_words,
  list_count,
  pool_block,
  pool_count,
  pool_created,
  pool_free,
  pool_list,
  pool_size,
  pool_total,
  pools_at,
  queue_count,
  queue_created,
  queue_size,
  queue_storage,
  queue_store,
  queue_stored,
  queue_words,
  queues_at,
  scheduler_at,
  scheduler_ids,
  scheduler_len,
  scheduler_running,
  scheduler_size,
  scheduler_threads,
  semaphore_count,
  semaphores_at,
  state_bytes,
  store_count,
  store_size,
  thread_count,
  thread_created,
  thread_marked,
  thread_object,
  thread_priority,
  thread_size,
  thread_state,
  thread_suspending,
  thread_threshold,
  thread_ticks,
  threads_at,
  word_count,
  words_size,
}

-- ---- records
-- a thread, from its bytes
unfoldable pub thread_of : List ℕ → Thread
thread_of b =
    record {
      created = flag_at b thread_created;
      state = byte_at b thread_state;
      priority = byte_at b thread_priority;
      threshold = byte_at b thread_threshold;
      marked = flag_at b thread_marked;
      suspending = flag_at b thread_suspending;
      object = byte_at b thread_object;
      ticks = word_of (part thread_ticks word_size b);
    }

-- what a thread holds; of a waiting sender the words are its message
unfoldable pub held_of : List ℕ → Held
held_of b =
    record {
      status = word_of (part held_status word_size b);
      words = words_of word_count (part held_words words_size b);
      sending = flag_at b held_sending;
      front = flag_at b held_front;
      request = word_of (part held_request word_size b);
      option = byte_at b held_option;
    }

-- a semaphore
unfoldable pub semaphore_of : List ℕ → Semaphore
semaphore_of b = record { created = flag_at b flagged_created; count = word_of (part flagged_word word_size b) }

-- a queue
unfoldable pub queue_of : List ℕ → Queue
queue_of b =
    record {
      created = flag_at b queue_created;
      words = byte_at b queue_words;
      storage = byte_at b queue_storage;
      stored = byte_at b queue_stored;
      store = words_of store_count (part queue_store store_size b);
    }

-- a group
unfoldable pub group_of : List ℕ → Group
group_of b = record { created = flag_at b flagged_created; flags = word_of (part flagged_word word_size b) }

-- a pool
unfoldable pub pool_of : List ℕ → Pool
pool_of b =
    record {
      created = flag_at b pool_created;
      block = half_of (part pool_block half_size b);
      total = word_of (part pool_total word_size b);
      free = byte_at b pool_free;
      list = part pool_list list_count b;
    }

-- ---- the tables
-- the runner, the order and the threads
unfoldable pub scheduler_of : List ℕ → Scheduler
scheduler_of b =
    record {
      running = record { 0 = byte_at b scheduler_running };
      order = record { ids = part scheduler_ids thread_count b; len = byte_at b scheduler_len };
      threads = table_of thread_of thread_size thread_count (part scheduler_threads (thread_size * thread_count) b);
    }

-- rule 14.1: the tables of a block
unfoldable pub kernel_of : List ℕ → Kernel
kernel_of b =
    record {
      scheduler = scheduler_of (part scheduler_at scheduler_size b);
      held = table_of held_of held_size thread_count (part held_at (held_size * thread_count) b);
      semaphores = table_of semaphore_of flagged_size semaphore_count (part semaphores_at (flagged_size * semaphore_count) b);
      queues = table_of queue_of queue_size queue_count (part queues_at (queue_size * queue_count) b);
      groups = table_of group_of flagged_size group_count (part groups_at (flagged_size * group_count) b);
      pools = table_of pool_of pool_size pool_count (part pools_at (pool_size * pool_count) b);
      clock = word_of (part clock_at word_size b);
    }

-- the tables of lent bytes: bytes that are no block, for their number, are taken for the tables in which nothing is created
unfoldable pub tables_of : List ℕ → Kernel
tables_of b = if eqb (length b) state_bytes then kernel_of b else started

-- ---- flags
-- the flag at a byte is 0 or 1
abbrev pub flagb : List ℕ → ℕ → Bool
flagb b at = leb (byte_at b at) 1

-- those of threads and of what they hold
unfoldable pub thread_flagsb : List ℕ → Bool
thread_flagsb b =
    all_below thread_count (λ i. flagb b (threads_at + thread_created + thread_size * i)
    && flagb b (threads_at + thread_marked + thread_size * i)
    && flagb b (threads_at + thread_suspending + thread_size * i)
    && flagb b (held_at + held_sending + held_size * i)
    && flagb b (held_at + held_front + held_size * i))

-- those of semaphores
unfoldable pub semaphore_flagsb : List ℕ → Bool
semaphore_flagsb b = all_below semaphore_count (λ i. flagb b (semaphores_at + flagged_created + flagged_size * i))

-- those of queues and groups, of which there are as many
unfoldable pub queue_flagsb : List ℕ → Bool
queue_flagsb b =
    all_below queue_count (λ i. flagb b (queues_at + queue_created + queue_size * i)
    && flagb b (groups_at + flagged_created + flagged_size * i))

-- those of pools
unfoldable pub pool_flagsb : List ℕ → Bool
pool_flagsb b = all_below pool_count (λ i. flagb b (pools_at + pool_created + pool_size * i))

-- rule 14.3: every flag of the block is 0 or 1
unfoldable pub flags_fitb : List ℕ → Bool
flags_fitb b = thread_flagsb b && semaphore_flagsb b && queue_flagsb b && pool_flagsb b
