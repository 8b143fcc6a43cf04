-- Effects that many calls share.
use Rattle.std.specs.Prelude.{if◌then◌else◌, List, [], ◌∷◌, ◌++◌, Bool, true, false, ℕ, ◌-◌, ltb}
use Rattle.numbers.specs.Numbers.{nobody}
use Rattle.scheduler.specs.Orders.{line_at, first_at}
use Rattle.objects.specs.declared.semaphore.Semaphore.{Semaphore}
use Rattle.blocks.specs.Pools.{without_next}
use Rattle.calls.specs.declared.held.Held.{Held}
use Rattle.calls.specs.Held.{no_words, held_waiting}
use Rattle.kernel.specs.declared.Kernel.{Kernel}
use Rattle.kernel.specs.Tables.{runner_of}
use Rattle.kernel.specs.Kinds.{Kind, Object, state_on, place_of, object_at, no_object}
use Rattle.kernel.specs.Kinds.Kind.{semaphore, queue, group, pool}
use Rattle.kernel.specs.Edits.{Cause, Edit, Success, Effect}
use Rattle.kernel.specs.Edits.Cause.{served, deleted}
use Rattle.kernel.specs.Edits.Move.{ends, starts}
use Rattle.kernel.specs.Edits.Edit.{moves, ranks, stores}

-- rule 2.2: edits with 0x00 and words
abbrev pub gives : List ℕ → List Edit → Effect
gives words es = record { success = Success.done; words = words; relinquishes = false; edits = es }

-- rule 2.2: edits with 0x00; the words are zero
abbrev pub does : List Edit → Effect
does es = gives no_words es

-- rules 2.3, 5.3: the running thread begins to wait or sleep: 0x101, and zero words
abbrev pub begins : Kernel → Bool → ℕ → ℕ → ℕ → Held → Effect
begins k front state object ticks h =
    record {
      success = Success.waits;
      words = no_words;
      relinquishes = false;
      edits = moves (runner_of k) (starts front state object ticks h) ∷ [];
    }

-- rules 4.1, 5.9: the waits of all in a list end for one cause, in the list's order
unfoldable pub ends_each : Cause → List ℕ → List ℕ → List Edit
ends_each c words [] = []
ends_each c words (t ∷ ts) = moves t (ends c words) ∷ ends_each c words ts

-- ---- objects of any kind
-- rules 7.3, 8.6, 9.5, 10.2: an object gets another record, as at its create
unfoldable pub store_effect : (d : Kind) → ℕ → Object d → Effect
store_effect d n x = does (stores d n x ∷ [])

-- rule 5.9: all waits on it end for one cause, in the order of the line, and it gets another record
unfoldable pub close_effect : Kernel → Cause → (d : Kind) → ℕ → Object d → Effect
close_effect k c d n x = does (ends_each c no_words (line_at k.scheduler (place_of d n)) ++ (stores d n x ∷ []))

-- rules 5.4, 5.9: delete: the waiters hold 0x01, and the record is zero
abbrev pub remove_effect : Kernel → Kind → ℕ → Effect
remove_effect k d n = close_effect k (deleted d n) d n (no_object d)

-- rule 5.8: prioritise
unfoldable pub rank_effect : Kind → ℕ → Effect
rank_effect d n = does (ranks d n ∷ [])

-- rule 5.10: somebody waits there
abbrev pub waitedb : Kernel → Kind → ℕ → Bool
waitedb k d n = ltb (first_at k.scheduler (place_of d n)) nobody

-- rule 5.10: the first waiter is served with words
unfoldable pub serve_effect : Kernel → Kind → ℕ → List ℕ → Effect
serve_effect k d n words = does (moves (first_at k.scheduler (place_of d n)) (ends (served d n) words) ∷ [])

-- rules 5.10, 7.2, 10.4: something is given: the first waiter is served with it, and with nobody there the object gets another record
unfoldable pub give_effect : Kernel → (d : Kind) → ℕ → List ℕ → Object d → Effect
give_effect k d n words x = if waitedb k d n then serve_effect k d n words else store_effect d n x

-- ---- objects from which one is taken at a time
-- rule 7.3: a created semaphore with a count
unfoldable pub counting : ℕ → Semaphore
counting n = record { created = true; count = n }

-- rules 7.1, 10.3: how much there is to take: a semaphore's count, a pool's free blocks
abbrev pub amount_of : (d : Kind) → Object d → ℕ
amount_of semaphore x = x.count
amount_of queue x = 0
amount_of group x = 0
amount_of pool x = x.free

-- rules 7.1, 10.3: the object after one is taken
abbrev pub one_less : (d : Kind) → Object d → Object d
one_less semaphore x = counting (x.count - 1)
one_less queue x = x
one_less group x = x
one_less pool x = without_next x

-- rules 5.7, 7.1, 10.3: one is taken at once, with words, where there is one; else the caller waits
unfoldable pub take_effect : Kernel → (d : Kind) → ℕ → List ℕ → ℕ → Effect
take_effect k d n words wait =
    if ltb 0 (amount_of d (object_at d k n))
    then gives words (stores d n (one_less d (object_at d k n)) ∷ [])
    else begins k false (state_on d) n wait held_waiting
