-- What a thread holds while it waits, what it waits for, and the records of the objects: the parts of sound tables that speak of one
-- record, or of one record and what it waits for (rules 12.4 to 12.7).
use Rattle.std.specs.Prelude.{if◌then◌else◌, ℕ, Bool, not, ◌&&◌, ◌||◌, List, ◌==◌, nat_le, nat_lt, slice_index, slice_index_or}
use Rattle.numbers.specs.Numbers.{message_words, semaphores, queues, groups, pools}
use Rattle.lines.specs.Logic.{implies, all_below}
use Rattle.scheduler.specs.declared.thread.Thread.{Thread}
use Rattle.scheduler.specs.Threads.{on_queue, on_flags, pausedb}
use Rattle.objects.specs.declared.semaphore.Semaphore.{Semaphore}
use Rattle.objects.specs.declared.queue.Queue.{Queue}
use Rattle.objects.specs.declared.group.Group.{Group}
use Rattle.blocks.specs.declared.pool.Pool.{Pool}
use Rattle.objects.specs.Semaphores.{no_semaphore, semaphore_fitb}
use Rattle.objects.specs.Queues.{no_queue, emptyb, fullb, queue_fitb}
use Rattle.objects.specs.Groups.{no_group, metb, group_fitb}
use Rattle.blocks.specs.Pools.{no_pool, pool_fitb}
use Rattle.calls.specs.declared.held.Held.{Held}
use Rattle.calls.specs.Held.{held_words, message_of}
use Rattle.calls.specs.Statuses as Statuses

-- rule 12.7: of sixteen words those from n on are zero
unfoldable pub blank_from : ℕ → List ℕ → Bool
blank_from n words = all_below message_words (λ i. nat_lt i n || slice_index words i == 0)

-- ---- who waits for what
-- rule 12.5: a created thread in a state of waiting, which says on what kind of object it waits
unfoldable pub waits_onb : ℕ → Thread → Bool
waits_onb state th = th.created && th.state == state

-- rule 12.7: a thread that waits on a queue to send
unfoldable pub sendsb : Thread → Held → Bool
sendsb th h = waits_onb on_queue th && h.sending

-- ---- what one thread holds
-- rule 12.4: each waiter or sleeper holds 0x101, and no other thread does
unfoldable pub status_fitb : Thread → Held → Bool
status_fitb th h = implies (pausedb th) (h.status == Statuses.waiting) && (pausedb th || not (h.status == Statuses.waiting))

-- rule 12.4: the held words of a waiter or sleeper are zero
unfoldable pub words_fitb : Thread → Held → Bool
words_fitb th h = implies (pausedb th) (blank_from 0 (held_words h))

-- rule 12.7: only who waits on a queue is a sender, and only a waiting sender has the front mark or a message
unfoldable pub sender_fitb : Thread → Held → Bool
sender_fitb th h =
    implies h.sending (waits_onb on_queue th) && implies h.front (sendsb th h) && (sendsb th h || blank_from 0 (message_of h))

-- rules 3.4, 12.7: only who waits for flags has a request and an option, which is not over 3
unfoldable pub request_fitb : Thread → Held → Bool
request_fitb th h = nat_le h.option 3 && (waits_onb on_flags th || (h.request == 0 && h.option == 0))

-- rule 12.7: a thread that is not created holds no status and no words; nor has it the rest, by the tests above
unfoldable pub unheld_fitb : Thread → Held → Bool
unheld_fitb th h = th.created || (h.status == 0 && blank_from 0 (held_words h))

-- rules 12.4, 12.7: what a thread holds fits its record
unfoldable pub held_fitb : Thread → Held → Bool
held_fitb th h = status_fitb th h && words_fitb th h && sender_fitb th h && request_fitb th h && unheld_fitb th h

-- ---- the same, asked by what the thread does
-- rules 12.4, 12.7: what a created thread may hold that neither waits nor sleeps: a status other than 0x101 and any words; it is no sender
-- and asks for no flags
unfoldable pub resting_fitb : Held → Bool
resting_fitb h = not (h.status == Statuses.waiting) && not h.sending && not h.front && (h.request == 0 && h.option == 0)

-- rule 12.7: what a thread may hold that is not created: all of it is zero
unfoldable pub held_zerob : Held → Bool
held_zerob h = h.status == 0 && blank_from 0 h.words && not h.sending && not h.front && (h.request == 0 && h.option == 0)

-- rules 12.4, 12.7: a thread that waits or sleeps holds 0x101 and zero words, and what it sends or asks for fits its state
unfoldable pub paused_fitb : Thread → Held → Bool
paused_fitb th h =
    pausedb th && h.status == Statuses.waiting && blank_from 0 (held_words h) && sender_fitb th h && request_fitb th h

-- ---- what one thread waits for: the object is created, so its number is in range
-- rule 12.5: a thread may wait on a semaphore of count 0
unfoldable pub semaphore_waitb : Semaphore → Bool
semaphore_waitb x = x.created && x.count == 0

-- rules 12.5, 12.7: a sender may wait on a full queue, its message zero past the queue's message size, a receiver on an empty one
unfoldable pub queue_waitb : Held → Queue → Bool
queue_waitb h q = q.created && (if h.sending then (fullb q && blank_from q.words (message_of h)) else emptyb q)

-- rule 12.5: a thread may wait for flags that do not meet its request
unfoldable pub group_waitb : Held → Group → Bool
group_waitb h g = g.created && not (metb g.flags h.request h.option)

-- rule 12.5: a thread may wait on a pool with no free block
unfoldable pub pool_waitb : Pool → Bool
pool_waitb p = p.created && p.free == 0

-- ---- the tables of objects
-- rule 12.7: every semaphore's record is fit in itself
unfoldable pub semaphores_fitb : List Semaphore → Bool
semaphores_fitb xs = all_below semaphores (λ n. semaphore_fitb (slice_index_or xs n no_semaphore))

-- rules 12.6, 12.7: every queue's record is fit in itself
unfoldable pub queues_fitb : List Queue → Bool
queues_fitb xs = all_below queues (λ n. queue_fitb (slice_index_or xs n no_queue))

-- rule 12.7: every group's record is fit in itself
unfoldable pub groups_fitb : List Group → Bool
groups_fitb xs = all_below groups (λ n. group_fitb (slice_index_or xs n no_group))

-- rules 12.6, 12.7: every pool's record is fit in itself
unfoldable pub pools_fitb : List Pool → Bool
pools_fitb xs = all_below pools (λ n. pool_fitb (slice_index_or xs n no_pool))
