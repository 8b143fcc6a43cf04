-- A queue's record: its sizes, its store, and how messages enter and leave it.
use Rattle.std.specs.Prelude.{if◌then◌else◌, List, [], ◌++◌, Bool, true, false, ◌&&◌, ℕ, ◌+◌, ◌-◌, ◌*◌, ◌/◌, take, drop, replicate, eqb, ltb, leb}
use Rattle.numbers.specs.Numbers.{message_words, slots}
use Rattle.lines.specs.Lines.{pad}
use Rattle.lines.specs.Slots.{zero_from}
use Rattle.objects.specs.declared.queue.Queue.{Queue}

-- rule 12.7: the record of a queue that is not created is zero
unfoldable pub no_queue : Queue
no_queue = record { created = false; words = 0; storage = 0; stored = 0; store = replicate slots 0 }

-- rule 8.1: storage divided by message size, rounded down; for a message size of 0 the division gives 0
unfoldable pub capacity_of : Queue → ℕ
capacity_of q = q.storage / q.words

-- rule 8.3: no message is stored
unfoldable pub emptyb : Queue → Bool
emptyb q = eqb q.stored 0

-- rule 12.5: as many messages are stored as there is room for
unfoldable pub fullb : Queue → Bool
fullb q = eqb q.stored (capacity_of q)

-- rule 8.2: there is room for a further message
unfoldable pub roomb : Queue → Bool
roomb q = ltb q.stored (capacity_of q)

-- rule 8.7: how many words of the store the messages take
unfoldable pub used_words : Queue → ℕ
used_words q = q.stored * q.words

-- rules 1.4, 3.3: a message has 1 to 16 words and the store 1 to 64, and at least one message fits
unfoldable pub sizes_fitb : ℕ → ℕ → Bool
sizes_fitb words storage = leb 1 words && leb words message_words && leb 1 storage && leb storage slots && leb 1 (storage / words)

-- rule 12.6: the queue has sizes that are allowed
unfoldable pub queue_limitsb : Queue → Bool
queue_limitsb q = sizes_fitb q.words q.storage

-- rules 12.6, 12.7: no more messages are stored than there is room for, and the store past them is zero
unfoldable pub store_fitb : Queue → Bool
store_fitb q = leb q.stored (capacity_of q) && zero_from (used_words q) q.store

-- rule 12.7: a record that is not created is zero
unfoldable pub queue_zerob : Queue → Bool
queue_zerob q = eqb q.words 0 && eqb q.storage 0 && eqb q.stored 0 && zero_from 0 q.store

-- rules 12.6, 12.7: the record is fit in itself, whoever waits
unfoldable pub queue_fitb : Queue → Bool
queue_fitb q = if q.created then (queue_limitsb q && store_fitb q) else queue_zerob q

-- ---- messages
-- rule 8.6: a created queue with no message
unfoldable pub empty_queue : ℕ → ℕ → Queue
empty_queue words storage = record { created = true; words = words; storage = storage; stored = 0; store = replicate slots 0 }

-- rule 8.7: the words of the stored messages, those of the first message first
unfoldable pub stored_words : Queue → List ℕ
stored_words q = take (used_words q) q.store

-- rule 8.7: the queue with so many messages, whose words these are; the store past them is zero
unfoldable pub storing : Queue → ℕ → List ℕ → Queue
storing q n ws = record { created = q.created; words = q.words; storage = q.storage; stored = n; store = pad slots ws }

-- rule 8.3: the first message of the store, as sixteen words
unfoldable pub oldest : Queue → List ℕ
oldest q = pad message_words (take q.words (stored_words q))

-- rule 8.3: the first message leaves the store
unfoldable pub without_oldest : Queue → Queue
without_oldest q = storing q (q.stored - 1) (drop q.words (stored_words q))

-- rule 8.2: a message of sixteen words is stored behind the others, where there is room
unfoldable pub with_last : Queue → List ℕ → Queue
with_last q message = if roomb q then storing q (q.stored + 1) (stored_words q ++ take q.words message) else q

-- rule 8.2: a message of sixteen words is stored before the others, where there is room
unfoldable pub with_first : Queue → List ℕ → Queue
with_first q message = if roomb q then storing q (q.stored + 1) (take q.words message ++ stored_words q) else q

-- rule 8.2: where there is room, a front send's message is stored before the others, that of an ordinary send behind them
unfoldable pub with_sent : Queue → Bool → List ℕ → Queue
with_sent q front message = if front then with_first q message else with_last q message

-- rule 8.4: what a receive gives with a sender first in line: a front sender's message, else the first message of the store
unfoldable pub given_past : Queue → Bool → List ℕ → List ℕ
given_past q front message = if front then message else oldest q

-- rule 8.4: the queue that this leaves: as it was past a front sender, else without its first message and with the sender's stored last
unfoldable pub left_past : Queue → Bool → List ℕ → Queue
left_past q front message = if front then q else with_last (without_oldest q) message

-- rule 8.5: no message is left
unfoldable pub flushed : Queue → Queue
flushed q = storing q 0 []
