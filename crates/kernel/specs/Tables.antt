-- The tables of everything, and reading and storing in them.
use Rattle.std.specs.Prelude.{ℕ, get_or, set, replicate}
use Rattle.numbers.specs.Numbers.{threads, semaphores, queues, groups, pools}
use Rattle.scheduler.specs.declared.Scheduler.{Scheduler}
use Rattle.scheduler.specs.declared.thread.Thread.{Thread}
use Rattle.scheduler.specs.Orders as Orders
use Rattle.objects.specs.declared.semaphore.Semaphore.{Semaphore}
use Rattle.objects.specs.declared.queue.Queue.{Queue}
use Rattle.objects.specs.declared.group.Group.{Group}
use Rattle.blocks.specs.declared.pool.Pool.{Pool}
use Rattle.objects.specs.Semaphores.{no_semaphore}
use Rattle.objects.specs.Queues.{no_queue}
use Rattle.objects.specs.Groups.{no_group}
use Rattle.blocks.specs.Pools.{no_pool}
use Rattle.calls.specs.declared.held.Held.{Held}
use Rattle.calls.specs.Held.{no_held}
use Rattle.kernel.specs.declared.Kernel.{Kernel}

-- rule 1.2: nothing created, nobody runs, the clock at 0
unfoldable pub started : Kernel
started =
    record {
      scheduler = Orders.idle;
      held = replicate threads no_held;
      semaphores = replicate semaphores no_semaphore;
      queues = replicate queues no_queue;
      groups = replicate groups no_group;
      pools = replicate pools no_pool;
      clock = 0;
    }

-- ---- reads
-- rule 1.5: thread t; past the table one that is not created
abbrev pub thread_of : Kernel → ℕ → Thread
thread_of k t = Orders.thread_at k.scheduler t

-- who runs
abbrev pub runner_of : Kernel → ℕ
runner_of k = k.scheduler.running.0

-- rule 1.5: what thread t holds; past the table nothing
unfoldable pub held_at : Kernel → ℕ → Held
held_at k t = get_or k.held t no_held

-- rule 1.5: a semaphore; past the table one that is not created
unfoldable pub semaphore_at : Kernel → ℕ → Semaphore
semaphore_at k n = get_or k.semaphores n no_semaphore

-- rule 1.5: a queue; past the table one that is not created
unfoldable pub queue_at : Kernel → ℕ → Queue
queue_at k n = get_or k.queues n no_queue

-- rule 1.5: a group; past the table one that is not created
unfoldable pub group_at : Kernel → ℕ → Group
group_at k n = get_or k.groups n no_group

-- rule 1.5: a pool; past the table one that is not created
unfoldable pub pool_at : Kernel → ℕ → Pool
pool_at k n = get_or k.pools n no_pool

-- ---- stores: one part of the tables is another
-- another scheduler
unfoldable pub with_scheduler : Kernel → Scheduler → Kernel
with_scheduler k s =
    record {
      scheduler = s;
      held = k.held;
      semaphores = k.semaphores;
      queues = k.queues;
      groups = k.groups;
      pools = k.pools;
      clock = k.clock;
    }

-- rule 1.5: thread t holds something else; past the table nothing changes
unfoldable pub with_held : Kernel → ℕ → Held → Kernel
with_held k t h =
    record {
      scheduler = k.scheduler;
      held = set k.held t h;
      semaphores = k.semaphores;
      queues = k.queues;
      groups = k.groups;
      pools = k.pools;
      clock = k.clock;
    }

-- rule 1.5: another semaphore; past the table nothing changes
unfoldable pub with_semaphore : Kernel → ℕ → Semaphore → Kernel
with_semaphore k n x =
    record {
      scheduler = k.scheduler;
      held = k.held;
      semaphores = set k.semaphores n x;
      queues = k.queues;
      groups = k.groups;
      pools = k.pools;
      clock = k.clock;
    }

-- rule 1.5: another queue; past the table nothing changes
unfoldable pub with_queue : Kernel → ℕ → Queue → Kernel
with_queue k n q =
    record {
      scheduler = k.scheduler;
      held = k.held;
      semaphores = k.semaphores;
      queues = set k.queues n q;
      groups = k.groups;
      pools = k.pools;
      clock = k.clock;
    }

-- rule 1.5: another group; past the table nothing changes
unfoldable pub with_group : Kernel → ℕ → Group → Kernel
with_group k n g =
    record {
      scheduler = k.scheduler;
      held = k.held;
      semaphores = k.semaphores;
      queues = k.queues;
      groups = set k.groups n g;
      pools = k.pools;
      clock = k.clock;
    }

-- rule 1.5: another pool; past the table nothing changes
unfoldable pub with_pool : Kernel → ℕ → Pool → Kernel
with_pool k n p =
    record {
      scheduler = k.scheduler;
      held = k.held;
      semaphores = k.semaphores;
      queues = k.queues;
      groups = k.groups;
      pools = set k.pools n p;
      clock = k.clock;
    }

-- another clock
unfoldable pub with_clock : Kernel → ℕ → Kernel
with_clock k c =
    record {
      scheduler = k.scheduler;
      held = k.held;
      semaphores = k.semaphores;
      queues = k.queues;
      groups = k.groups;
      pools = k.pools;
      clock = c;
    }
