-- What calls 24 to 27 do; 22 creates an empty queue, 23 removes it, 28 prioritises its line.
use Rattle.std.specs.Prelude.{if◌then◌else◌, List, [], ◌∷◌, ◌++◌, Bool, false, ℕ}
use Rattle.scheduler.specs.Orders.{first_at}
use Rattle.objects.specs.Queues.{emptyb, roomb, oldest, without_oldest, with_sent, given_past, left_past, flushed}
use Rattle.calls.specs.Held.{no_words, held_waiting, sending, message_of}
use Rattle.kernel.specs.declared.Kernel.{Kernel}
use Rattle.kernel.specs.Tables.{held_at, queue_at}
use Rattle.kernel.specs.Kinds.{state_on, place_of}
use Rattle.kernel.specs.Kinds.Kind.{queue}
use Rattle.kernel.specs.Edits.{Effect}
use Rattle.kernel.specs.Edits.Cause.{served}
use Rattle.kernel.specs.Edits.Edit.{stores}
use Rattle.kernel.specs.Effects.{gives, does, begins, ends_each, close_effect, waitedb, give_effect}

-- rule 8.2: calls 24 and 25, send and front send. With room in the queue the message goes to the first in line, who on sound tables is a
-- receiver, and with nobody there into the store. Without room the sender waits with its message, a front sender at the front.
unfoldable pub send_effect : Kernel → ℕ → ℕ → Bool → List ℕ → Effect
send_effect k n wait front message =
    if roomb (queue_at k n)
    then give_effect k queue n message (with_sent (queue_at k n) front message)
    else begins k front (state_on queue) n wait (sending front message)

-- rule 8.4: a receive with the sender t first in line: by t's kind its message or the first of the store is given, and t is served
unfoldable pub past_effect : Kernel → ℕ → ℕ → Effect
past_effect k n t =
    gives (given_past (queue_at k n) (held_at k t).front (message_of (held_at k t)))
    (ends_each (served queue n) no_words (t ∷ [])
    ++ (stores queue n (left_past (queue_at k n) (held_at k t).front (message_of (held_at k t))) ∷ []))

-- rule 8.3: call 26, receive: with no message stored the receiver waits. Else the first in line, if anybody, is on sound tables a sender;
-- with nobody there the first message of the store is given.
unfoldable pub receive_effect : Kernel → ℕ → ℕ → Effect
receive_effect k n wait =
    if emptyb (queue_at k n)
    then begins k false (state_on queue) n wait held_waiting
    else if waitedb k queue n
    then past_effect k n (first_at k.scheduler (place_of queue n))
    else gives (oldest (queue_at k n)) (stores queue n (without_oldest (queue_at k n)) ∷ [])

-- rule 8.5: call 27, flush: an empty queue stays as it is; else the store is emptied and all who wait, on sound tables senders, are served
unfoldable pub flush_effect : Kernel → ℕ → Effect
flush_effect k n = if emptyb (queue_at k n) then does [] else close_effect k (served queue n) queue n (flushed (queue_at k n))
