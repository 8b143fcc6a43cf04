-- Worked cases (rules 15.1 to 15.12, 15.14, 15.15, 15.17, 15.18), P1 to P10 as one list, each made of general calls from nothing created, as equations that
-- the definitions compute. Proved as `cases` of proofs/Laws/Cases.antt.
use Rattle.std.specs.Prelude.{◌≡◌, List, [], ◌∷◌, true, false, ℕ, zero, suc}
use Rattle.lines.specs.Lists.{numbers_from}
use Rattle.scheduler.specs.Threads.{ready, suspended}
use Rattle.scheduler.specs.Orders.{line_at}
use Rattle.calls.specs.Callers.{startup, interrupt, thread}
use Rattle.blocks.specs.Pools.{blocks_of}
use Rattle.calls.specs.Held.{one_word, held_words}
use Rattle.calls.specs.Statuses as Statuses
use Rattle.waiting.specs.Ticks.{forever}
use Rattle.kernel.specs.declared.Kernel.{Kernel}
use Rattle.kernel.specs.declared.Answer.{Answer}
use Rattle.kernel.specs.Tables.{started, runner_of, thread_of, held_at, semaphore_at, group_at, pool_at}
use Rattle.kernel.specs.Kinds.{Kind, place_of}
use Rattle.kernel.specs.Views.{block_view}
use Rattle.claims.specs.Lists.{Made, answer}

-- the lent message words: of messages of one word the first three are A, B and C; all together they are one message of four words
abbrev pub messages : List ℕ
messages = 10 ∷ 11 ∷ 12 ∷ 13 ∷ []

-- a call with four arguments, those that it does not use being 0
unfoldable pub called : ℕ → ℕ → ℕ → ℕ → ℕ → ℕ → Made
called number caller a b c d = record { request = record { number = number; caller = caller; a = a; b = b; c = c; d = d }; messages = messages }

-- its answer
unfoldable pub said : Kernel → ℕ → ℕ → ℕ → ℕ → ℕ → ℕ → Answer
said k number caller a b c d = answer k (called number caller a b c d)

-- the tables after it
unfoldable pub made : Kernel → ℕ → ℕ → ℕ → ℕ → ℕ → ℕ → Kernel
made k number caller a b c d = (said k number caller a b c d).kernel

-- rules 15.2, 15.10 to 15.12: one thread of priority 10 runs, and semaphore 0 has a count
unfoldable pub with_count : ℕ → Kernel
with_count count = made (made started 1 startup 0 10 10 1) 16 startup 0 count 0 0

-- rule 15.3, P3: runner 0 of priority 10 and threshold 5; 1 of priority 7 is resumed
unfoldable pub p3a : Kernel
p3a = made (made (made (made started 1 startup 0 10 5 1) 1 startup 1 7 7 0) 1 startup 2 4 4 0) 3 startup 1 0 0 0

-- rule 15.3, P3: 2 of priority 4 is resumed too
unfoldable pub p3b : Kernel
p3b = made p3a 3 startup 2 0 0 0

-- a thread of a priority starts and waits for semaphore 0
unfoldable pub waits : Kernel → ℕ → ℕ → Kernel
waits k t priority = made (made k 1 startup t priority priority 1) 18 thread 0 forever 0 0

-- rule 15.9, P9: waiters of priority 20, 5, 5
unfoldable pub p9 : Kernel
p9 = waits (waits (waits (made started 16 startup 0 0 0 0) 0 20) 1 5) 2 5

-- a thread starts and waits for flags of group 0 by an option
unfoldable pub asks : Kernel → ℕ → ℕ → ℕ → Kernel
asks k t request option = made (made k 1 startup t 10 10 1) 32 thread 0 request option forever

-- rule 15.4, P4: no flag set; waiters with options 1, 0 and 2 for flags 1, 1 and 3
unfoldable pub p4 : Kernel
p4 = asks (asks (asks (made started 29 startup 0 0 0 0) 0 1 1) 1 1 0) 2 3 2

-- rule 15.4, P4: and then a set of flag 1 with option 0
unfoldable pub p4set : Answer
p4set = said p4 31 interrupt 0 1 0 0

-- rule 15.5, P5: a group with all flags set
unfoldable pub p5 : Kernel
p5 = made (made started 29 startup 0 0 0 0) 31 startup 0 0xFFFFFFFF 0 0

-- rule 15.6, P6: a queue for messages of four words in ten, to which a message is sent so many times
unfoldable pub p6 : ℕ → Kernel
p6 zero = made started 22 startup 0 4 10 0
p6 (suc n) = made (p6 n) 24 startup 0 0 0 0

-- rule 15.7, P7: capacity 1 holding A; thread 0 waits to send B, then thread 1 waits to front send C
unfoldable pub p7 : Kernel
p7 =
    made
    (made (made (made (made (made started 22 startup 0 1 1 0) 1 startup 0 10 10 1) 24 thread 0 0 0 0) 24 thread 0 forever 1 0)
    1 startup 1 10 10 1)
    25 thread 0 forever 2 0

-- rule 15.7: what a receive without waiting gives, and the tables that it leaves
unfoldable pub receive : Kernel → Answer
receive k = said k 26 startup 0 0 0 0

-- rule 15.8, P8: a pool of 100 bytes with blocks of 16, and a thread that has got blocks 0, 1 and 2
unfoldable pub p8 : Kernel
p8 =
    made (made (made (made (made started 33 startup 0 16 100 0) 1 startup 0 10 10 1) 35 thread 0 0 0 0) 35 thread 0 0 0 0)
    35 thread 0 0 0 0

-- rule 15.11: a get with wait 1 at count 0, and one tick
unfoldable pub timed_out_get : Kernel
timed_out_get = made (made (with_count 0) 18 thread 0 1 0 0) 15 interrupt 0 0 0 0

-- rule 15.14: thread 0 starts on tables, makes a call with wait 1, and a tick passes; what it then holds
unfoldable pub timed_out : Kernel → ℕ → ℕ → ℕ → ℕ → ℕ → ℕ
timed_out k number a b c d =
    (held_at (made (made (made k 1 startup 0 10 10 1) number thread a b c d) 15 interrupt 0 0 0 0) 0).status

-- rule 15.15: a get without end at count 0, the waiting thread suspended, and a put
unfoldable pub suspended_get : Kernel
suspended_get = made (made (made (with_count 0) 18 thread 0 forever 0 0) 4 interrupt 0 0 0 0) 19 interrupt 0 0 0 0

-- rules 15.17, 15.18: runner 0 of a priority and a threshold changes its own priority while 1 of another priority is ready
unfoldable pub changes_own_priority : ℕ → ℕ → ℕ → ℕ → Answer
changes_own_priority priority threshold other new =
    said (made (made started 1 startup 0 priority threshold 1) 1 startup 1 other other 1) 11 thread 0 new 0 0

-- rules 15.1 to 15.12, 15.14, 15.15, 15.17, 15.18: the cases
pub record Cases : Type 0 where
  -- rule 15.1: clock 4,294,967,295, after a tick 0
  pub p1 : (made (made started 14 startup 4294967295 0 0 0) 15 interrupt 0 0 0 0).clock ≡ 0
  -- rule 15.2: count 0xFFFFFFFF: a put is refused with 0x21, and the count stays; at 0xFFFFFFFE it is done
  pub p2 : ((said (with_count 0xFFFFFFFF) 19 interrupt 0 0 0 0).status ≡ Statuses.ceiling_exceeded)
      × ((semaphore_at (made (with_count 0xFFFFFFFF) 19 interrupt 0 0 0 0) 0).count ≡ 0xFFFFFFFF)
  pub p2done : ((said (with_count 0xFFFFFFFE) 19 interrupt 0 0 0 0).status ≡ Statuses.success)
      × ((semaphore_at (made (with_count 0xFFFFFFFE) 19 interrupt 0 0 0 0) 0).count ≡ 0xFFFFFFFF)
  -- rule 15.3: 7 changes nothing, 4 runs and the runner is marked, it finishes, and the runner returns, not 7, its mark ended
  pub p3 : (runner_of p3a ≡ 0) × (runner_of p3b ≡ 2) × (runner_of (made p3b 7 thread 0 0 0 0) ≡ 0)
  pub p3mark : ((thread_of p3a 0).marked ≡ false) × ((thread_of p3b 0).marked ≡ true) × ((thread_of (made p3b 7 thread 0 0 0 0) 0).marked ≡ false)
  -- rule 15.4: the first two wake, are ready and hold 0x00 and 1, no flag is left, two waits ended, and the third still waits
  pub p4ended : p4set.ended ≡ 2
  pub p4ready : ((thread_of p4set.kernel 0).state ≡ ready) × ((thread_of p4set.kernel 1).state ≡ ready)
  pub p4status : ((held_at p4set.kernel 0).status ≡ Statuses.success) × ((held_at p4set.kernel 1).status ≡ Statuses.success)
  pub p4held : (held_words (held_at p4set.kernel 0) ≡ one_word 1) × (held_words (held_at p4set.kernel 1) ≡ one_word 1)
  pub p4flags : (group_at p4set.kernel 0).flags ≡ 0
  pub p4line : line_at p4set.kernel.scheduler (place_of Kind.group 0) ≡ 2 ∷ []
  -- rule 15.5: a request of 0 with wait 0: 0x07
  pub p5 : (said p5 32 startup 0 0 0 0).status ≡ Statuses.no_events
  -- rule 15.6: storage 10 for messages of 4 words takes two, the third is refused with 0x0B; storage 3: 0x05
  pub p6 : ((said (p6 0) 24 startup 0 0 0 0).status ≡ Statuses.success) × ((said (p6 1) 24 startup 0 0 0 0).status ≡ Statuses.success)
      × ((said (p6 2) 24 startup 0 0 0 0).status ≡ Statuses.queue_full) × ((said started 22 startup 0 4 3 0).status ≡ Statuses.size_error)
  -- rule 15.7: receives give C, A, B
  pub p7 : ((receive p7).words ≡ one_word 12) × ((receive (receive p7).kernel).words ≡ one_word 10)
      × ((receive (receive (receive p7).kernel).kernel).words ≡ one_word 11)
  -- rule 15.8: 5 blocks; block 2 is bytes 44 to 59, each byte of the lent area being its own number; its second release: 0x03
  pub p8blocks : blocks_of (pool_at p8 0) ≡ 5
  pub p8view : block_view p8 0 2 (numbers_from 0 100) ≡ numbers_from 44 16
  pub p8released : ((said p8 36 thread 0 2 0 0).status ≡ Statuses.success)
      × ((said (made p8 36 thread 0 2 0 0) 36 thread 0 2 0 0).status ≡ Statuses.ptr_error)
  -- rule 15.9: prioritise moves the middle one to the front
  pub p9line : line_at (made p9 21 startup 0 0 0 0).scheduler (place_of Kind.semaphore 0) ≡ 1 ∷ 0 ∷ 2 ∷ []
  -- rule 15.10: at count 3 a ceiling of 3 is 0x21, a ceiling of 4 done
  pub p10 : ((said (with_count 3) 20 interrupt 0 3 0 0).status ≡ Statuses.ceiling_exceeded)
      × ((said (with_count 3) 20 interrupt 0 4 0 0).status ≡ Statuses.success)
  -- rule 15.11: held 0x0D
  pub timeout : (held_at timed_out_get 0).status ≡ Statuses.no_instance
  -- rule 15.12: an interrupt with wait 1: 0x04 even at count 5
  pub interrupt_wait : (said (with_count 5) 18 interrupt 0 1 0 0).status ≡ Statuses.wait_error
  -- rule 15.14: what a wait that times out leaves: get, receive, send, flags get, allocate, and a sleep
  pub timeouts : (timed_out (made started 16 startup 0 0 0 0) 18 0 1 0 0 ≡ Statuses.no_instance)
      × (timed_out (made started 22 startup 0 1 1 0) 26 0 1 0 0 ≡ Statuses.queue_empty)
      × (timed_out (made (made started 22 startup 0 1 1 0) 24 startup 0 0 0 0) 24 0 1 0 0 ≡ Statuses.queue_full)
      × (timed_out (made started 29 startup 0 0 0 0) 32 0 1 0 1 ≡ Statuses.no_events)
      × (timed_out (made (made started 33 startup 0 4 8 0) 35 startup 0 0 0 0) 35 0 1 0 0 ≡ Statuses.no_memory)
      × (timed_out started 9 1 0 0 0 ≡ Statuses.success)
  -- rule 15.15: the thread is served, and is then suspended
  pub suspended_served : ((thread_of suspended_get 0).state ≡ suspended) × ((held_at suspended_get 0).status ≡ Statuses.success)
  -- rule 15.17: priority 5 and threshold 5, changed to 10 while a 7 is ready: 7 runs, the old runner is not marked, and word 0 is 5
  pub lowered : ((changes_own_priority 5 5 7 10).next.0 ≡ 1) × ((thread_of (changes_own_priority 5 5 7 10).kernel 0).marked ≡ false)
      × ((changes_own_priority 5 5 7 10).words ≡ one_word 5)
  -- rule 15.18: a runner of priority 10 and threshold 3 raised to 8 while a 5 is ready: 5 runs
  pub raised : ((changes_own_priority 10 3 5 8).next.0 ≡ 1) × ((thread_of (changes_own_priority 10 3 5 8).kernel 0).threshold ≡ 8)
