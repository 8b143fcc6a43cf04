-- The hypotheses of first come, first served can be met (rule 13.7): for each kind of object whose takers are served one by one, tables made of
-- general calls from nothing created, in which thread 2 waits behind threads 0 and 1, and a list of calls, three of which give, with one
-- that is refused and a tick between. Proved as `witnesses` of proofs/Laws/Cases.antt.
use Rattle.std.specs.Prelude.{◌≡◌, List, [], ◌∷◌, ◌++◌, true, ℕ}
use Rattle.calls.specs.Callers.{startup, interrupt, thread}
use Rattle.calls.specs.Services.{
  thread_create,
  thread_resume,
  tick,
  semaphore_create,
  semaphore_get,
  semaphore_put,
  queue_create,
  queue_send,
  queue_receive,
  event_flags_create,
  event_flags_set,
  event_flags_get,
  block_pool_create,
  block_allocate,
  block_release,
}
use Rattle.calls.specs.Statuses as Statuses
use Rattle.waiting.specs.Ticks.{forever}
use Rattle.kernel.specs.declared.Kernel.{Kernel}
use Rattle.kernel.specs.Tables.{started}
use Rattle.kernel.specs.Sound.{Sound}
use Rattle.kernel.specs.Kinds.{Kind}
use Rattle.kernel.specs.Kinds.Kind.{semaphore, queue, group, pool}
use Rattle.kernel.specs.Uses.{given_words}
use Rattle.claims.specs.Lists.{Made, answer, next, after}
use Rattle.claims.specs.Rolls.{succeedsb, Waits, start_roll, NoPrioritiseOrDelete, Undisturbed, gave, Ends}
use Rattle.claims.specs.Cases.{called}

-- rule 13.7: object 0 of a kind is created, and there is nothing to take: of a pool its three blocks are taken
unfoldable pub emptied : Kind → List Made
emptied semaphore = called semaphore_create startup 0 0 0 0 ∷ []
emptied queue = called queue_create startup 0 1 3 0 ∷ []
emptied group = called event_flags_create startup 0 0 0 0 ∷ []
emptied pool =
    called block_pool_create startup 0 4 24 0 ∷ called block_allocate startup 0 0 0 0 ∷ called block_allocate startup 0 0 0 0
    ∷ called block_allocate startup 0 0 0 0 ∷ []

-- rule 13.7: the running thread asks for something from it, with a wait
unfoldable pub take_call : Kind → ℕ → Made
take_call semaphore wait = called semaphore_get thread 0 wait 0 0
take_call queue wait = called queue_receive thread 0 wait 0 0
take_call group wait = called event_flags_get thread 0 1 0 wait
take_call pool wait = called block_allocate thread 0 wait 0 0

-- rule 13.7: an interrupt gives it something: message i, or block i
unfoldable pub give_call : Kind → ℕ → Made
give_call semaphore i = called semaphore_put interrupt 0 0 0 0
give_call queue i = called queue_send interrupt 0 0 i 0
give_call group i = called event_flags_set interrupt 0 1 0 0
give_call pool i = called block_release interrupt 0 i 0 0

-- rule 13.7: threads 0, 1 and 2 start and wait there, thread 1 for five ticks
unfoldable pub queued : Kind → List Made
queued d =
    called thread_create startup 0 10 10 1 ∷ take_call d forever ∷ called thread_create startup 1 10 10 1 ∷ take_call d 5
    ∷ called thread_create startup 2 10 10 1 ∷ take_call d forever ∷ []

-- rule 13.7: the tables in which they wait
unfoldable pub waiting_on : Kind → Kernel
waiting_on d = after started (emptied d ++ queued d)

-- rule 13.7: a call that is refused, since thread 31 is not created
unfoldable pub refused_call : Made
refused_call = called thread_resume startup 31 0 0 0

-- rule 13.7: the calls before the last giving one: two that give, one that is refused, a tick
unfoldable pub before_last : Kind → List Made
before_last d = give_call d 0 ∷ refused_call ∷ called tick interrupt 0 0 0 0 ∷ give_call d 1 ∷ []

-- rule 13.7: every hypothesis of the claim is met, and so the last call serves thread 2
pub record Met (d : Kind) : Type 0 where
  pub sound : Sound (waiting_on d)
  pub waits : Waits (waiting_on d) d 0 (0 ∷ 1 ∷ []) 2
  pub calm : NoPrioritiseOrDelete d 0 (waiting_on d) (before_last d ++ (give_call d 2 ∷ []))
  pub refused : (answer (next (waiting_on d) (give_call d 0)) refused_call).status ≡ Statuses.thread_error
  pub undisturbed : Undisturbed d 0 (waiting_on d) (start_roll (waiting_on d) (0 ∷ 1 ∷ []) 2) (before_last d)
  pub gave : gave d 0 (waiting_on d) (before_last d) ≡ 2
  pub done : succeedsb (answer (after (waiting_on d) (before_last d)) (give_call d 2)) ≡ true
  pub serves : Ends d 0 2 (after (waiting_on d) (before_last d)) (next (after (waiting_on d) (before_last d)) (give_call d 2)) Statuses.success
      (given_words d (after (waiting_on d) (before_last d)) 0 (give_call d 2).request.b (give_call d 2).request.c (give_call d 2).messages)

-- rule 13.7: for a semaphore, a queue and a pool
pub record Witnesses : Type 0 where
  pub of_semaphore : Met semaphore
  pub of_queue : Met queue
  pub of_pool : Met pool
