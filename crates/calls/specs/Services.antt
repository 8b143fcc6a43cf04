-- The calls by name: each has a number (rule 2.1).
use Rattle.std.specs.Prelude.{ℕ}

-- ---- threads
abbrev pub thread_create : ℕ
thread_create = 1

abbrev pub thread_delete : ℕ
thread_delete = 2

abbrev pub thread_resume : ℕ
thread_resume = 3

abbrev pub thread_suspend : ℕ
thread_suspend = 4

abbrev pub thread_terminate : ℕ
thread_terminate = 5

abbrev pub thread_reset : ℕ
thread_reset = 6

abbrev pub thread_finish : ℕ
thread_finish = 7

abbrev pub thread_relinquish : ℕ
thread_relinquish = 8

abbrev pub thread_sleep : ℕ
thread_sleep = 9

abbrev pub thread_wait_abort : ℕ
thread_wait_abort = 10

abbrev pub thread_priority_change : ℕ
thread_priority_change = 11

abbrev pub thread_preemption_change : ℕ
thread_preemption_change = 12

-- ---- the clock
abbrev pub time_get : ℕ
time_get = 13

abbrev pub time_set : ℕ
time_set = 14

abbrev pub tick : ℕ
tick = 15

-- ---- semaphores
abbrev pub semaphore_create : ℕ
semaphore_create = 16

abbrev pub semaphore_delete : ℕ
semaphore_delete = 17

abbrev pub semaphore_get : ℕ
semaphore_get = 18

abbrev pub semaphore_put : ℕ
semaphore_put = 19

abbrev pub semaphore_ceiling_put : ℕ
semaphore_ceiling_put = 20

abbrev pub semaphore_prioritize : ℕ
semaphore_prioritize = 21

-- ---- queues
abbrev pub queue_create : ℕ
queue_create = 22

abbrev pub queue_delete : ℕ
queue_delete = 23

abbrev pub queue_send : ℕ
queue_send = 24

abbrev pub queue_front_send : ℕ
queue_front_send = 25

abbrev pub queue_receive : ℕ
queue_receive = 26

abbrev pub queue_flush : ℕ
queue_flush = 27

abbrev pub queue_prioritize : ℕ
queue_prioritize = 28

-- ---- event flags groups
abbrev pub event_flags_create : ℕ
event_flags_create = 29

abbrev pub event_flags_delete : ℕ
event_flags_delete = 30

abbrev pub event_flags_set : ℕ
event_flags_set = 31

abbrev pub event_flags_get : ℕ
event_flags_get = 32

-- ---- block pools
abbrev pub block_pool_create : ℕ
block_pool_create = 33

abbrev pub block_pool_delete : ℕ
block_pool_delete = 34

abbrev pub block_allocate : ℕ
block_allocate = 35

abbrev pub block_release : ℕ
block_release = 36

abbrev pub block_pool_prioritize : ℕ
block_pool_prioritize = 37

-- ---- reading a thread
abbrev pub thread_state_read : ℕ
thread_state_read = 38

abbrev pub thread_words_read : ℕ
thread_words_read = 39
