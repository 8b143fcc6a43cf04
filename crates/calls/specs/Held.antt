-- What a thread holds: the status and words that its last wait left it, and what it waits for.
use Rattle.std.specs.Prelude.{if◌then◌else◌, List, ◌∷◌, Bool, true, false, ℕ, ◌-◌, replicate}
use Rattle.numbers.specs.Numbers.{message_words}
use Rattle.calls.specs.declared.held.Held.{Held}
use Rattle.calls.specs.Statuses as Statuses

-- sixteen zero words
abbrev pub no_words : List ℕ
no_words = replicate message_words 0

-- sixteen words of which word 0 is given, the others zero
abbrev pub one_word : ℕ → List ℕ
one_word w = w ∷ replicate (message_words - 1) 0

-- sixteen words of which words 0 and 1 are given, the others zero
abbrev pub two_words : ℕ → ℕ → List ℕ
two_words v w = v ∷ w ∷ replicate (message_words - 2) 0

-- rule 5.4: a status and words, and nothing waited for
unfoldable pub holding : ℕ → List ℕ → Held
holding status words = record { status = status; words = words; sending = false; front = false; request = 0; option = 0 }

-- rules 5.3, 6.8: the held words: while a thread waits as a sender they are zero, since the record's words are then its message
unfoldable pub held_words : Held → List ℕ
held_words h = if h.sending then no_words else h.words

-- rules 5.3, 8.4: the message of a waiting sender, zero words of any other thread
unfoldable pub message_of : Held → List ℕ
message_of h = if h.sending then h.words else no_words

-- rules 6.1, 6.4: nothing is held after create, finish, terminate and reset
abbrev pub no_held : Held
no_held = holding 0 no_words

-- ---- what a waiter or sleeper holds: 0x101, and zero held words
-- rule 5.3: a sleeper, or a waiter that sends nothing and asks for no flags
abbrev pub held_waiting : Held
held_waiting = holding Statuses.waiting no_words

-- rule 5.3: a waiting sender, whose message of sixteen words stays with it
unfoldable pub sending : Bool → List ℕ → Held
sending front message = record { status = Statuses.waiting; words = message; sending = true; front = front; request = 0; option = 0 }

-- rule 5.3: one that waits for flags, with its request and option
unfoldable pub requesting : ℕ → ℕ → Held
requesting request option =
    record { status = Statuses.waiting; words = no_words; sending = false; front = false; request = request; option = option }
