-- How tables lie in a block (rule 14.1): how many records each has, and where each field of a record and each table begins, from the one
-- before; the names that end in Size are numbers of bytes.
use Rattle.std.specs.Prelude.{ℕ, ◌+◌, ◌*◌}
use Rattle.numbers.specs.Numbers.{threads, semaphores, queues, groups, pools, message_words, slots}
use Rattle.words.specs.Words.{word_size, half_size}

-- ---- how many there are
abbrev pub thread_count : ℕ
thread_count = threads

abbrev pub semaphore_count : ℕ
semaphore_count = semaphores

abbrev pub queue_count : ℕ
queue_count = queues

abbrev pub group_count : ℕ
group_count = groups

abbrev pub pool_count : ℕ
pool_count = pools

-- the words that a thread holds
abbrev pub word_count : ℕ
word_count = message_words

-- the words of a queue's store
abbrev pub store_count : ℕ
store_count = slots

-- the numbers in a pool's list of free blocks
abbrev pub list_count : ℕ
list_count = slots

-- ---- a thread
abbrev pub thread_created : ℕ
thread_created = 0

abbrev pub thread_state : ℕ
thread_state = thread_created + 1

abbrev pub thread_priority : ℕ
thread_priority = thread_state + 1

abbrev pub thread_threshold : ℕ
thread_threshold = thread_priority + 1

abbrev pub thread_marked : ℕ
thread_marked = thread_threshold + 1

abbrev pub thread_suspending : ℕ
thread_suspending = thread_marked + 1

abbrev pub thread_object : ℕ
thread_object = thread_suspending + 1

abbrev pub thread_ticks : ℕ
thread_ticks = thread_object + 1

abbrev pub thread_size : ℕ
thread_size = thread_ticks + word_size

-- ---- what a thread holds
abbrev pub words_size : ℕ
words_size = word_size * word_count

abbrev pub held_status : ℕ
held_status = 0

abbrev pub held_words : ℕ
held_words = held_status + word_size

abbrev pub held_sending : ℕ
held_sending = held_words + words_size

abbrev pub held_front : ℕ
held_front = held_sending + 1

abbrev pub held_request : ℕ
held_request = held_front + 1

abbrev pub held_option : ℕ
held_option = held_request + word_size

abbrev pub held_size : ℕ
held_size = held_option + 1

-- ---- a semaphore, or a group: a flag and a word
abbrev pub flagged_created : ℕ
flagged_created = 0

abbrev pub flagged_word : ℕ
flagged_word = flagged_created + 1

abbrev pub flagged_size : ℕ
flagged_size = flagged_word + word_size

-- ---- a queue
abbrev pub store_size : ℕ
store_size = word_size * store_count

abbrev pub queue_created : ℕ
queue_created = 0

abbrev pub queue_words : ℕ
queue_words = queue_created + 1

abbrev pub queue_storage : ℕ
queue_storage = queue_words + 1

abbrev pub queue_stored : ℕ
queue_stored = queue_storage + 1

abbrev pub queue_store : ℕ
queue_store = queue_stored + 1

abbrev pub queue_size : ℕ
queue_size = queue_store + store_size

-- ---- a pool
abbrev pub pool_created : ℕ
pool_created = 0

abbrev pub pool_block : ℕ
pool_block = pool_created + 1

abbrev pub pool_total : ℕ
pool_total = pool_block + half_size

abbrev pub pool_free : ℕ
pool_free = pool_total + word_size

abbrev pub pool_list : ℕ
pool_list = pool_free + 1

abbrev pub pool_size : ℕ
pool_size = pool_list + list_count

-- ---- the scheduler
abbrev pub scheduler_running : ℕ
scheduler_running = 0

abbrev pub scheduler_ids : ℕ
scheduler_ids = scheduler_running + 1

abbrev pub scheduler_len : ℕ
scheduler_len = scheduler_ids + thread_count

abbrev pub scheduler_threads : ℕ
scheduler_threads = scheduler_len + 1

abbrev pub scheduler_size : ℕ
scheduler_size = scheduler_threads + thread_size * thread_count

-- ---- the tables
abbrev pub scheduler_at : ℕ
scheduler_at = 0

abbrev pub threads_at : ℕ
threads_at = scheduler_at + scheduler_threads

abbrev pub held_at : ℕ
held_at = scheduler_at + scheduler_size

abbrev pub semaphores_at : ℕ
semaphores_at = held_at + held_size * thread_count

abbrev pub queues_at : ℕ
queues_at = semaphores_at + flagged_size * semaphore_count

abbrev pub groups_at : ℕ
groups_at = queues_at + queue_size * queue_count

abbrev pub pools_at : ℕ
pools_at = groups_at + flagged_size * group_count

abbrev pub clock_at : ℕ
clock_at = pools_at + pool_size * pool_count

-- rule 14.1: a block of tables has so many bytes
abbrev pub state_bytes : ℕ
state_bytes = clock_at + word_size
