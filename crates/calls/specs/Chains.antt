-- What the functions of refusal.rt return, as numbers (`reason_of` in Refusals.antt): for each call its own part of the table of refusals as
-- a chain, 0 where no reason holds. Nothing here needs to be believed: that each chain is what the table says is proved, in the kernel's laws.
use Rattle.std.specs.Prelude.{if◌then◌else◌, Bool, ◌&&◌, ◌||◌, not, ℕ, ◌+◌, eqb, ltb, leb}
use Rattle.numbers.specs.Numbers.{nobody, priorities, semaphores, queues, groups, pools}
use Rattle.scheduler.specs.declared.thread.Thread.{Thread}
use Rattle.scheduler.specs.Threads.{suspended, pausedb, finishedb}
use Rattle.objects.specs.declared.semaphore.Semaphore.{Semaphore}
use Rattle.objects.specs.declared.queue.Queue.{Queue}
use Rattle.objects.specs.declared.group.Group.{Group}
use Rattle.objects.specs.Semaphores.{largest_count}
use Rattle.objects.specs.Queues.{emptyb, roomb, sizes_fitb}
use Rattle.objects.specs.Groups.{metb}
use Rattle.blocks.specs.declared.pool.Pool.{Pool}
use Rattle.blocks.specs.Pools.{block_sizesb, usedb}
use Rattle.calls.specs.Callers.{thread, startup_or_thread, thread_only, interrupt_only}
use Rattle.calls.specs.Statuses

-- no reason where the test holds, else the status
unfoldable pub unless : Bool → ℕ → ℕ
unless b status = if b then 0 else status

-- the first reason of two
unfoldable pub first_of : ℕ → ℕ → ℕ
first_of a b = if eqb a 0 then b else a

-- a wait that is not 0 is for threads only
abbrev pub may_waitb : ℕ → ℕ → Bool
may_waitb wait caller = eqb wait 0 || eqb caller thread

-- a thread calls and nobody runs; every call asks this before its own chain
abbrev pub nobody_runsb : ℕ → ℕ → Bool
nobody_runsb caller running = eqb caller thread && not (ltb running nobody)

-- ---- threads: t is the number, th its record
-- 1 create: 0E 0F 18 10 13
unfoldable pub create_refusal : ℕ → Thread → ℕ → ℕ → ℕ → ℕ → ℕ
create_refusal t th p h start caller =
    first_of (unless (ltb t nobody && not th.created) Statuses.thread_error)
    (first_of (unless (ltb p priorities) Statuses.priority_error)
    (first_of (unless (leb h p) Statuses.thresh_error)
    (first_of (unless (ltb start 2) Statuses.start_error)
    (unless (startup_or_thread caller) Statuses.caller_error))))

-- 2 delete: 0E 13 11
unfoldable pub delete_refusal : Thread → ℕ → ℕ
delete_refusal th caller =
    first_of (unless th.created Statuses.thread_error)
    (first_of (unless (thread_only caller) Statuses.caller_error)
    (unless (finishedb th) Statuses.delete_error))

-- 3 resume: 0E 12
unfoldable pub resume_refusal : Thread → ℕ
resume_refusal th =
    first_of (unless th.created Statuses.thread_error)
    (unless (eqb th.state suspended || th.suspending) Statuses.resume_error)

-- 4 suspend: 0E 14
unfoldable pub suspend_refusal : Thread → ℕ
suspend_refusal th =
    first_of (unless th.created Statuses.thread_error)
    (unless (not (finishedb th)) Statuses.suspend_error)

-- 5 terminate: 0E 13
unfoldable pub terminate_refusal : Thread → ℕ → ℕ
terminate_refusal th caller =
    first_of (unless th.created Statuses.thread_error)
    (unless (thread_only caller) Statuses.caller_error)

-- 6 reset: 0E 13 20
unfoldable pub reset_refusal : Thread → ℕ → ℕ
reset_refusal th caller =
    first_of (unless th.created Statuses.thread_error)
    (first_of (unless (thread_only caller) Statuses.caller_error)
    (unless (finishedb th) Statuses.not_done))

-- 7 finish, 8 relinquish, 9 sleep: 13
unfoldable pub thread_only_refusal : ℕ → ℕ
thread_only_refusal caller = unless (thread_only caller) Statuses.caller_error

-- 10 wait abort: 0E 1B
unfoldable pub abort_refusal : Thread → ℕ
abort_refusal th =
    first_of (unless th.created Statuses.thread_error)
    (unless (pausedb th) Statuses.wait_abort_error)

-- 11 priority change: 0E 0F 13
unfoldable pub priority_refusal : Thread → ℕ → ℕ → ℕ
priority_refusal th p caller =
    first_of (unless th.created Statuses.thread_error)
    (first_of (unless (ltb p priorities) Statuses.priority_error)
    (unless (thread_only caller) Statuses.caller_error))

-- 12 preemption change: 0E 18 13, the threshold against the thread's present priority
unfoldable pub preemption_refusal : Thread → ℕ → ℕ → ℕ
preemption_refusal th h caller =
    first_of (unless th.created Statuses.thread_error)
    (first_of (unless (leb h th.priority) Statuses.thresh_error)
    (unless (thread_only caller) Statuses.caller_error))

-- 15 tick: 13
unfoldable pub tick_refusal : ℕ → ℕ
tick_refusal caller = unless (interrupt_only caller) Statuses.caller_error

-- 38, 39 reads: 0E
unfoldable pub read_refusal : Thread → ℕ
read_refusal th = unless th.created Statuses.thread_error

-- ---- semaphores: n is the number, x its record
-- 16 create: 0C 13
unfoldable pub semaphore_create_refusal : ℕ → Semaphore → ℕ → ℕ
semaphore_create_refusal n x caller =
    first_of (unless (ltb n semaphores && not x.created) Statuses.semaphore_error)
    (unless (startup_or_thread caller) Statuses.caller_error)

-- 17 delete: 0C 13
unfoldable pub semaphore_delete_refusal : Semaphore → ℕ → ℕ
semaphore_delete_refusal x caller =
    first_of (unless x.created Statuses.semaphore_error)
    (unless (thread_only caller) Statuses.caller_error)

-- 18 get: 0C 04 0D
unfoldable pub semaphore_get_refusal : Semaphore → ℕ → ℕ → ℕ
semaphore_get_refusal x wait caller =
    first_of (unless x.created Statuses.semaphore_error)
    (first_of (unless (may_waitb wait caller) Statuses.wait_error)
    (unless (ltb 0 wait || ltb 0 x.count) Statuses.no_instance))

-- 19 put: 0C 21
unfoldable pub put_refusal : Semaphore → ℕ
put_refusal x =
    first_of (unless x.created Statuses.semaphore_error)
    (unless (ltb x.count largest_count) Statuses.ceiling_exceeded)

-- 20 ceiling put: 0C 22 21
unfoldable pub ceiling_refusal : Semaphore → ℕ → ℕ
ceiling_refusal x ceiling =
    first_of (unless x.created Statuses.semaphore_error)
    (first_of (unless (ltb 0 ceiling) Statuses.invalid_ceiling)
    (unless (ltb x.count ceiling) Statuses.ceiling_exceeded))

-- 21 prioritise: 0C
unfoldable pub semaphore_refusal : Semaphore → ℕ
semaphore_refusal x = unless x.created Statuses.semaphore_error

-- ---- queues: n is the number, q its record
-- 22 create: 09 05 13
unfoldable pub queue_create_refusal : ℕ → Queue → ℕ → ℕ → ℕ → ℕ
queue_create_refusal n q words storage caller =
    first_of (unless (ltb n queues && not q.created) Statuses.queue_error)
    (first_of (unless (sizes_fitb words storage) Statuses.size_error)
    (unless (startup_or_thread caller) Statuses.caller_error))

-- 23 delete: 09 13
unfoldable pub queue_delete_refusal : Queue → ℕ → ℕ
queue_delete_refusal q caller =
    first_of (unless q.created Statuses.queue_error)
    (unless (thread_only caller) Statuses.caller_error)

-- 24 send, 25 front send: 09 03 04 0B; the message at an index of an area of m words lies wholly inside
unfoldable pub send_refusal : Queue → ℕ → ℕ → ℕ → ℕ → ℕ
send_refusal q index m wait caller =
    first_of (unless q.created Statuses.queue_error)
    (first_of (unless (leb (index + q.words) m) Statuses.ptr_error)
    (first_of (unless (may_waitb wait caller) Statuses.wait_error)
    (unless (ltb 0 wait || roomb q) Statuses.queue_full)))

-- 26 receive: 09 04 0A
unfoldable pub receive_refusal : Queue → ℕ → ℕ → ℕ
receive_refusal q wait caller =
    first_of (unless q.created Statuses.queue_error)
    (first_of (unless (may_waitb wait caller) Statuses.wait_error)
    (unless (ltb 0 wait || not (emptyb q)) Statuses.queue_empty))

-- 27 flush, 28 prioritise: 09
unfoldable pub queue_refusal : Queue → ℕ
queue_refusal q = unless q.created Statuses.queue_error

-- ---- groups: n is the number, g its record
-- 29 create: 06 13
unfoldable pub group_create_refusal : ℕ → Group → ℕ → ℕ
group_create_refusal n g caller =
    first_of (unless (ltb n groups && not g.created) Statuses.group_error)
    (unless (startup_or_thread caller) Statuses.caller_error)

-- 30 delete: 06 13
unfoldable pub group_delete_refusal : Group → ℕ → ℕ
group_delete_refusal g caller =
    first_of (unless g.created Statuses.group_error)
    (unless (thread_only caller) Statuses.caller_error)

-- 31 set: 06 08
unfoldable pub set_refusal : Group → ℕ → ℕ
set_refusal g option =
    first_of (unless g.created Statuses.group_error)
    (unless (eqb option 0 || eqb option 2) Statuses.option_error)

-- 32 get: 06 08 04 07
unfoldable pub get_refusal : Group → ℕ → ℕ → ℕ → ℕ → ℕ
get_refusal g request option wait caller =
    first_of (unless g.created Statuses.group_error)
    (first_of (unless (leb option 3) Statuses.option_error)
    (first_of (unless (may_waitb wait caller) Statuses.wait_error)
    (unless (ltb 0 wait || metb g.flags request option) Statuses.no_events)))

-- ---- pools: n is the number, p its record
-- 33 create: 02 05 13
unfoldable pub pool_create_refusal : ℕ → Pool → ℕ → ℕ → ℕ → ℕ
pool_create_refusal n p block total caller =
    first_of (unless (ltb n pools && not p.created) Statuses.pool_error)
    (first_of (unless (block_sizesb block total) Statuses.size_error)
    (unless (startup_or_thread caller) Statuses.caller_error))

-- 34 delete: 02 13
unfoldable pub pool_delete_refusal : Pool → ℕ → ℕ
pool_delete_refusal p caller =
    first_of (unless p.created Statuses.pool_error)
    (unless (thread_only caller) Statuses.caller_error)

-- 35 allocate: 02 04 10
unfoldable pub allocate_refusal : Pool → ℕ → ℕ → ℕ
allocate_refusal p wait caller =
    first_of (unless p.created Statuses.pool_error)
    (first_of (unless (may_waitb wait caller) Statuses.wait_error)
    (unless (ltb 0 wait || ltb 0 p.free) Statuses.no_memory))

-- 36 release: 02 03
unfoldable pub release_refusal : Pool → ℕ → ℕ
release_refusal p block =
    first_of (unless p.created Statuses.pool_error)
    (unless (usedb p block) Statuses.ptr_error)

-- 37 prioritise: 02
unfoldable pub pool_refusal : Pool → ℕ
pool_refusal p = unless p.created Statuses.pool_error
