-- How many of each thing there are, and their numbers: from 0 up, and one past the last for none (rules 1.1, 1.4, 1.5, 3.15).
use Rattle.std.specs.Prelude.{ℕ, min}
use Rattle.numbers.specs.declared.ThreadId.{ThreadId}
use Rattle.numbers.specs.declared.SemaphoreId.{SemaphoreId}
use Rattle.numbers.specs.declared.QueueId.{QueueId}
use Rattle.numbers.specs.declared.GroupId.{GroupId}
use Rattle.numbers.specs.declared.PoolId.{PoolId}

-- rule 1.1: how many threads there are
abbrev pub threads : ℕ
threads = 32

-- rule 1.1: the number that stands for nobody
abbrev pub nobody : ℕ
nobody = threads

-- rule 1.1: how many priorities there are: 0 to 31, of which 0 is the best
abbrev pub priorities : ℕ
priorities = 32

-- rule 1.1: how many semaphores there are
abbrev pub semaphores : ℕ
semaphores = 16

-- rule 1.1: how many queues there are
abbrev pub queues : ℕ
queues = 8

-- rule 1.1: how many event flags groups there are
abbrev pub groups : ℕ
groups = 8

-- rule 1.1: how many block pools there are
abbrev pub pools : ℕ
pools = 4

-- rules 1.4, 2.2: the most words that a message has, and the words of an answer
abbrev pub message_words : ℕ
message_words = 16

-- rule 1.4: the most words of a queue's store, and the most blocks of a pool
abbrev pub slots : ℕ
slots = 64

-- ---- the numbers in a call's arguments
-- rules 1.5, 3.15: a thread's number; every number past the last stands for nobody
abbrev pub thread_number : ℕ → ThreadId
thread_number a = record { 0 = min a threads }

-- rules 1.5, 3.15: a semaphore's number; every number past the last stands for none
abbrev pub semaphore_number : ℕ → SemaphoreId
semaphore_number a = record { 0 = min a semaphores }

-- rules 1.5, 3.15: a queue's number; every number past the last stands for none
abbrev pub queue_number : ℕ → QueueId
queue_number a = record { 0 = min a queues }

-- rules 1.5, 3.15: a group's number; every number past the last stands for none
abbrev pub group_number : ℕ → GroupId
group_number a = record { 0 = min a groups }

-- rules 1.5, 3.15: a pool's number; every number past the last stands for none
abbrev pub pool_number : ℕ → PoolId
pool_number a = record { 0 = min a pools }
