-- The statuses (rules 3.17, 3.18). Those from 0x100 on are this library's own; the others have ThreadX's names and numbers.
use Rattle.std.specs.Prelude.{ℕ}

-- rule 2.3: the call is done; whoever is served, or has slept to the end, holds it too
abbrev pub success : ℕ
success = 0x00

-- rule 5.4: held by whoever waited on an object that was deleted
abbrev pub deleted : ℕ
deleted = 0x01

-- rule 3.1: no such pool; at a create, one that is there already
abbrev pub pool_error : ℕ
pool_error = 0x02

-- rule 3.6: a message outside the lent words; a block that is not in use
abbrev pub ptr_error : ℕ
ptr_error = 0x03

-- rule 3.7: a wait by start-up or an interrupt
abbrev pub wait_error : ℕ
wait_error = 0x04

-- rules 3.3, 14.3, 14.7: sizes of a queue or a pool; length of a block of tables, room for replies
abbrev pub size_error : ℕ
size_error = 0x05

-- rule 3.1: no such group; at a create, one that is there already
abbrev pub group_error : ℕ
group_error = 0x06

-- rules 3.12, 5.5: flags that do not meet the request
abbrev pub no_events : ℕ
no_events = 0x07

-- rule 3.4: an option of a set or a get of flags
abbrev pub option_error : ℕ
option_error = 0x08

-- rule 3.1: no such queue; at a create, one that is there already
abbrev pub queue_error : ℕ
queue_error = 0x09

-- rules 3.12, 5.5: no message
abbrev pub queue_empty : ℕ
queue_empty = 0x0A

-- rules 3.12, 5.5: no room for a message
abbrev pub queue_full : ℕ
queue_full = 0x0B

-- rule 3.1: no such semaphore; at a create, one that is there already
abbrev pub semaphore_error : ℕ
semaphore_error = 0x0C

-- rules 3.12, 5.5: a count of 0
abbrev pub no_instance : ℕ
no_instance = 0x0D

-- rule 3.1: no such thread; at a create, one that is there already
abbrev pub thread_error : ℕ
thread_error = 0x0E

-- rule 3.2: a priority over 31
abbrev pub priority_error : ℕ
priority_error = 0x0F

-- rule 3.2: a start other than 0 and 1
abbrev pub start_error : ℕ
start_error = 0x10

-- rules 3.12, 5.5: no free block; the same number as the one before
abbrev pub no_memory : ℕ
no_memory = 0x10

-- rule 3.9: delete of a thread that is not finished
abbrev pub delete_error : ℕ
delete_error = 0x11

-- rule 3.10: resume of a thread that is not suspended and holds no suspension
abbrev pub resume_error : ℕ
resume_error = 0x12

-- rule 3.8: a caller that the call does not allow
abbrev pub caller_error : ℕ
caller_error = 0x13

-- rule 3.10: suspend of a finished thread
abbrev pub suspend_error : ℕ
suspend_error = 0x14

-- rule 3.2: a threshold over the priority
abbrev pub thresh_error : ℕ
thresh_error = 0x18

-- rule 2.3: resume lifted a held suspension; the call is carried out
abbrev pub suspend_lifted : ℕ
suspend_lifted = 0x19

-- rule 5.4: held by whoever had its wait or sleep aborted
abbrev pub wait_aborted : ℕ
wait_aborted = 0x1A

-- rule 3.10: abort of a thread that neither sleeps nor waits
abbrev pub wait_abort_error : ℕ
wait_abort_error = 0x1B

-- rule 3.9: reset of a thread that is not finished
abbrev pub not_done : ℕ
not_done = 0x20

-- rule 3.11: a count that has reached the ceiling
abbrev pub ceiling_exceeded : ℕ
ceiling_exceeded = 0x21

-- rule 3.5: a ceiling of 0
abbrev pub invalid_ceiling : ℕ
invalid_ceiling = 0x22

-- rules 2.5, 3.18: the tables are unsound
abbrev pub tables_unsound : ℕ
tables_unsound = 0x100

-- rules 2.3, 3.18, 5.3: the caller now waits or sleeps; every waiter and sleeper holds it
abbrev pub waiting : ℕ
waiting = 0x101

-- rules 2.6, 3.18: a thread's call while nobody runs
abbrev pub nobody_runs : ℕ
nobody_runs = 0x102

-- rules 3.18, 11.2: the bytes are no tape
abbrev pub tape_refused : ℕ
tape_refused = 0x103

-- rules 2.6, 3.18: an unknown call number or caller
abbrev pub unknown_call : ℕ
unknown_call = 0x104
