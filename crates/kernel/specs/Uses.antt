-- What the calls of an object do to it, as far as the roll and the accounts (rules 13.1 to 13.6) need it.
use Rattle.std.specs.Prelude.{◌≡◌, List, [], ◌∷◌, Bool, true, false, ◌&&◌, not, ℕ, ◌+◌, ◌<◌, eqb}
use Prim.{Unit}
use Rattle.numbers.specs.Numbers.{threads}
use Rattle.lines.specs.Logic.{one_if}
use Rattle.lines.specs.Lists.{count}
use Rattle.scheduler.specs.Threads.{placedb}
use Rattle.scheduler.specs.Orders.{first_at}
use Rattle.objects.specs.Queues.{empty_queue}
use Rattle.objects.specs.Groups.{group_with}
use Rattle.blocks.specs.Pools.{fresh_pool, usedb, with_free}
use Rattle.calls.specs.Services.{thread_terminate, thread_wait_abort, tick}
use Rattle.calls.specs.Held.{no_words, one_word}
use Rattle.calls.specs.Messages.{message_in}
use Rattle.waiting.specs.Ticks.{timedb, last_tickb}
use Rattle.kernel.specs.declared.Kernel.{Kernel}
use Rattle.kernel.specs.Tables.{thread_of, held_at, queue_at}
use Rattle.kernel.specs.Kinds.{Kind, Object, size_of, place_of, object_at, createdb}
use Rattle.kernel.specs.Kinds.Kind.{semaphore, queue, group, pool}
use Rattle.kernel.specs.Edits.{Move, movers, counted, Success, Effect}
use Rattle.kernel.specs.Edits.Cause.{served, timed_out}
use Rattle.kernel.specs.Edits.Move.{ends}
use Rattle.kernel.specs.Edits.Edit.{moves, stores}
use Rattle.calls.specs.Callers.{one_of}
use Rattle.kernel.specs.Roles.{row_of, kind_of}
use Rattle.kernel.specs.Effects.{does, waitedb, counting, amount_of, one_less}
use Rattle.kernel.specs.Threads.{terminate_effect, abort_effect}

-- thread t waits to take from object n
abbrev pub Taker : Kind → Kernel → ℕ → ℕ → Type 0
Taker d k n t = (placedb (place_of d n) (thread_of k t) ≡ true) × ((held_at k t).sending ≡ false)

-- rule 13.1: the kinds whose takers are served one by one, so that a roll can be kept
abbrev pub rolledb : Kind → Bool
rolledb semaphore = true
rolledb queue = true
rolledb group = false
rolledb pool = true

-- rule 13.5: the kinds that have an account
abbrev pub accountedb : Kind → Bool
accountedb semaphore = true
accountedb queue = false
accountedb group = false
accountedb pool = true

-- rules 7.3, 8.6, 9.5, 10.2: a new object, from the arguments of its creation
abbrev pub new_of : (d : Kind) → ℕ → ℕ → Object d
new_of semaphore b c = counting b
new_of queue b c = empty_queue b c
new_of group b c = group_with 0
new_of pool b c = fresh_pool b c

-- rules 7.2, 10.4: one more to take, given with argument b; of the kinds without an account as it was
abbrev pub one_given : (d : Kind) → Object d → ℕ → Object d
one_given semaphore x b = counting (x.count + 1)
one_given queue x b = x
one_given group x b = x
one_given pool x b = with_free x b

-- rule 3.16: what may be given: of a pool only a block in use
abbrev pub may_giveb : (d : Kind) → Object d → ℕ → Bool
may_giveb semaphore x b = true
may_giveb queue x b = true
may_giveb group x b = true
may_giveb pool x b = usedb x b

-- rule 13.4: what a giving call gives: a message, a block, or nothing but the instance
abbrev pub given_words : Kind → Kernel → ℕ → ℕ → ℕ → List ℕ → List ℕ
given_words semaphore k n b c messages = no_words
given_words queue k n b c messages = message_in messages c (queue_at k n).words
given_words group k n b c messages = no_words
given_words pool k n b c messages = one_word b

-- rule 2.11: a call that creates object n: its number is free, and it is new
pub record Creates (d : Kind) (k : Kernel) (n b c : ℕ) (e : Effect) : Type 0 where
  pub free : createdb d (object_at d k n) ≡ false
  pub small : n < size_of d
  pub stored : e ≡ does (stores d n (new_of d b c) ∷ [])

-- rule 13.4: a call that takes from it: it is served where there is something, and waits where somebody waits already
pub record Takes (d : Kind) (k : Kernel) (n : ℕ) (e : Effect) : Type 0 where
  pub served : accountedb d ≡ true → e.success ≡ Success.done
      → (0 < amount_of d (object_at d k n)) × (e.edits ≡ stores d n (one_less d (object_at d k n)) ∷ [])
  pub waits : rolledb d ≡ true → (t : ℕ) → Taker d k n t → e.success ≡ Success.waits

-- rules 5.10, 13.2: a call that gives to it: the first taker is served, or there is one more
pub record Gives (d : Kind) (k : Kernel) (n b c : ℕ) (messages : List ℕ) (e : Effect) : Type 0 where
  pub first : rolledb d ≡ true → (t : ℕ) → Taker d k n t
      → e ≡ does (moves (first_at k.scheduler (place_of d n)) (ends (served d n) (given_words d k n b c messages)) ∷ [])
  pub stored : accountedb d ≡ true → waitedb k d n ≡ false → e ≡ does (stores d n (one_given d (object_at d k n) b) ∷ [])
  pub may : may_giveb d (object_at d k n) b ≡ true

-- rule 8.5: nothing is emptied where somebody waits to take
abbrev pub Empties : Kind → Kernel → ℕ → Effect → Type 0
Empties d k n e = (t : ℕ) → Taker d k n t → e.edits ≡ []

-- rules 6.10, 13.2: a tick: whoever has no tick left then times out, and every other timed wait or sleep has one tick less
pub record Ticks (k : Kernel) (e : Effect) : Type 0 where
  pub done : e.success ≡ Success.done
  pub over : (c : Move → Bool) → c (ends timed_out no_words) ≡ true → (t : ℕ) → t < threads
      → count t (movers c e.edits) ≡ one_if (last_tickb (thread_of k t))
  pub less : (t : ℕ) → t < threads → count t (counted e.edits) ≡ one_if (timedb (thread_of k t) && not (last_tickb (thread_of k t)))

-- asked of a call only where it has the role
abbrev pub When : Bool → Type 0 → Type 0
When true A = A
When false A = Unit {0}

-- rule 2.11: what is asked of the call of a number with first argument n, by its roles; terminate and abort are for the thread named, and a
-- tick counts every timed wait
abbrev pub Role : Kernel → ℕ → ℕ → ℕ → ℕ → List ℕ → Effect → Type 0
Role k number n b c messages e =
    When (one_of number (row_of (kind_of number)).creates) (Creates (kind_of number) k n b c e)
    × When (one_of number (row_of (kind_of number)).takes) (Takes (kind_of number) k n e)
    × When (one_of number (row_of (kind_of number)).gives) (Gives (kind_of number) k n b c messages e)
    × When (one_of number (row_of (kind_of number)).empties) (Empties (kind_of number) k n e)
    × When (eqb number thread_terminate) (e ≡ terminate_effect k n)
    × When (eqb number thread_wait_abort) (e ≡ abort_effect n)
    × When (eqb number tick) (Ticks k e)
