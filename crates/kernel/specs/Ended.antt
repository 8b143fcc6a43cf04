-- The waits that a call ends, told from the tables before and after it. What is claimed of them is the record `EndedClaims`, whose proof is
-- `ended` of proofs/Laws/Ended.antt.
use Rattle.std.specs.Prelude.{if◌then◌else◌, ◌≡◌, List, [], ◌∷◌, Bool, true, ◌&&◌, ◌||◌, not, ℕ, ◌-◌, length, eqb}
use Rattle.numbers.specs.Numbers.{threads}
use Rattle.lines.specs.Logic.{one_if}
use Rattle.lines.specs.Lists.{numbers_from, filter, count}
use Rattle.scheduler.specs.declared.thread.Thread.{Thread}
use Rattle.scheduler.specs.Threads.{ready, terminated, suspended, asleep, on_queue, on_semaphore, on_flags, pausedb}
use Rattle.calls.specs.declared.call.Request.{Request}
use Rattle.calls.specs.declared.held.Held.{Held}
use Rattle.calls.specs.Held.{no_words, held_words}
use Rattle.calls.specs.Callers.{one_of}
use Rattle.calls.specs.Services.{
  thread_terminate,
  thread_wait_abort,
  tick,
  semaphore_delete,
  semaphore_get,
  queue_delete,
  queue_send,
  queue_receive,
  event_flags_delete,
  event_flags_get,
  block_pool_delete,
  block_allocate,
}
use Rattle.calls.specs.Statuses as Statuses
use Rattle.waiting.specs.Ticks.{timedb}
use Rattle.kernel.specs.declared.Kernel.{Kernel}
use Rattle.kernel.specs.Tables.{thread_of, held_at}
use Rattle.kernel.specs.Refusals.{Reason, refusals}
use Rattle.kernel.specs.Sound.{Sized, Sound}
use Rattle.kernel.specs.General.{step, call}

-- rule 2.8: from tables k to tables x the wait or sleep of thread t has ended with a status: it waited or slept, does so no more, and is not
-- terminated
unfoldable pub endedb : Kernel → Kernel → ℕ → Bool
endedb k x t = pausedb (thread_of k t) && not (pausedb (thread_of x t)) && not (eqb (thread_of x t).state terminated)

-- ---- the status that is left
-- rule 5.5: the call that a waiter with this record made, by what it waits for
unfoldable pub wait_call : Thread → Held → ℕ
wait_call th h =
    if eqb th.state on_queue then (if h.sending then queue_send else queue_receive)
    else if eqb th.state on_semaphore then semaphore_get
    else if eqb th.state on_flags then event_flags_get
    else block_allocate

-- rule 5.5: the status of the last of the rows that are for a call
unfoldable pub last_reason : List Reason → ℕ → ℕ
last_reason [] n = 0
last_reason (r ∷ rs) n = if r.calls n && eqb (last_reason rs n) 0 then r.status else last_reason rs n

-- rules 5.4, 5.9: the calls that delete an object
abbrev pub deletesb : ℕ → Bool
deletesb n = one_of n (semaphore_delete ∷ queue_delete ∷ event_flags_delete ∷ block_pool_delete ∷ [])

-- rule 5.4: calls that serve nobody whose wait they end: tick, wait abort, deletes
abbrev pub unservedb : ℕ → Bool
unservedb n = eqb n tick || eqb n thread_wait_abort || deletesb n

-- rules 5.4, 5.5: the status that the call of number n leaves a waiter or sleeper whose wait it ends: at a tick that of the last row of the
-- table of refusals for what was waited for, and 0x00 for a sleeper; 0x1A at an abort, 0x01 at a delete, 0x00 at every other call
unfoldable pub end_status : ℕ → Thread → Held → ℕ
end_status n th h =
    if eqb n tick then (if eqb th.state asleep then Statuses.success else last_reason refusals (wait_call th h))
    else if eqb n thread_wait_abort then Statuses.wait_aborted
    else if deletesb n then Statuses.deleted
    else Statuses.success

-- ---- the threads after a call
-- rules 5.4 to 5.6: thread t, whose wait a call of number n has ended
pub record Wakes (n : ℕ) (k x : Kernel) (t : ℕ) : Type 0 where
  -- rule 5.6: it is ready, or suspended where a suspension was held for it
  pub state : (thread_of x t).state ≡ (if (thread_of k t).suspending then suspended else ready)
  pub created : (thread_of x t).created ≡ true
  pub priority : (thread_of x t).priority ≡ (thread_of k t).priority
  pub threshold : (thread_of x t).threshold ≡ (thread_of k t).threshold
  -- rules 5.4, 5.5: it holds a status by the call, and zero words unless it is served
  pub status : (held_at x t).status ≡ end_status n (thread_of k t) (held_at k t)
  pub words : unservedb n ≡ true → held_words (held_at x t) ≡ no_words

-- rules 5.3, 6.10: thread t, which waits or sleeps on after a call of number n with a status: in its state, on its object, and holding what
-- it held; a tick that is done takes one from its ticks where it is timed, and no other call does
pub record Stays (n status : ℕ) (k x : Kernel) (t : ℕ) : Type 0 where
  pub state : (thread_of x t).state ≡ (thread_of k t).state
  pub object : (thread_of x t).object ≡ (thread_of k t).object
  pub held : held_at x t ≡ held_at k t
  pub ticks : (thread_of x t).ticks ≡ (thread_of k t).ticks - one_if (eqb n tick && eqb status Statuses.success && timedb (thread_of k t))

-- rules 2.8, 5.3 to 5.6, 6.10: what is claimed
pub record EndedClaims : Type 0 where
  -- rule 2.8: a thread is in the list of ended waits once where its wait has ended with a status, and else not
  pub listed : (k : Kernel) → Sound k → (q : Request) (messages : List ℕ) (t : ℕ)
      → count t (step k q messages).ended ≡ one_if (endedb k (step k q messages).kernel t)
  -- rule 2.8: so the answer's count is the number of threads whose waits have ended with a status
  pub counted : (k : Kernel) → Sized k → (q : Request) (messages : List ℕ)
      → (call k q messages).ended ≡ length (filter (endedb k (call k q messages).kernel) (numbers_from 0 threads))
  -- rules 5.4 to 5.6: what each of them is and holds then
  pub wakes : (k : Kernel) → Sound k → (q : Request) (messages : List ℕ) (t : ℕ)
      → endedb k (call k q messages).kernel t ≡ true → Wakes q.number k (call k q messages).kernel t
  -- rules 5.3, 6.10: whoever waited or slept before the call, and does so after it, waits or sleeps on
  pub stays : (k : Kernel) → Sound k → (q : Request) (messages : List ℕ) (t : ℕ)
      → pausedb (thread_of k t) ≡ true → pausedb (thread_of (call k q messages).kernel t) ≡ true
      → Stays q.number (call k q messages).status k (call k q messages).kernel t
  -- rules 2.8, 6.4: whoever waited or slept before the call, and is terminated after it, is the thread that a terminate names
  pub stops : (k : Kernel) → Sound k → (q : Request) (messages : List ℕ) (t : ℕ)
      → pausedb (thread_of k t) ≡ true → (thread_of (call k q messages).kernel t).state ≡ terminated → (q.number ≡ thread_terminate) × (q.a ≡ t)
