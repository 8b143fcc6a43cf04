-- The call tape: its words, when it is refused, its records and its message words (rules 11.1, 11.2).
use Rattle.std.specs.Prelude.{if◌then◌else◌, List, map, Bool, ◌||◌, not, ℕ, ◌+◌, ◌*◌, length, get_or, eqb, ltb}
use Rattle.lines.specs.Lists.{numbers_from}
use Rattle.words.specs.Words.{word_size, word}
use Rattle.calls.specs.declared.call.Request.{Request}

-- ---- the format's numbers
-- rule 11.1: the header has four words
abbrev pub header_bytes : ℕ
header_bytes = 4 * word_size

-- rule 11.1: a record has six words: call, caller and four arguments
abbrev pub record_bytes : ℕ
record_bytes = 6 * word_size

-- rule 11.1: a tape has at most so many records
abbrev pub most_records : ℕ
most_records = 2048

-- rule 11.1: a tape has at most so many message words
abbrev pub most_message_words : ℕ
most_message_words = 4000

-- ---- words
-- rule 11.1: the word that starts at a byte, the least byte first; bytes past the end read as 0
unfoldable pub word_at : List ℕ → ℕ → ℕ
word_at bytes at = word (get_or bytes at 0) (get_or bytes (at + 1) 0) (get_or bytes (at + 2) 0) (get_or bytes (at + 3) 0)

-- ---- the header: n records, their offset, m message words, their offset
-- rule 11.1: how many records the header says
abbrev pub records_said : List ℕ → ℕ
records_said bytes = word_at bytes 0

-- rule 11.1: where the header says that the records start
abbrev pub records_offset : List ℕ → ℕ
records_offset bytes = word_at bytes 4

-- rule 11.1: how many message words the header says
abbrev pub messages_said : List ℕ → ℕ
messages_said bytes = word_at bytes 8

-- rule 11.1: where the header says that the message words start
abbrev pub messages_offset : List ℕ → ℕ
messages_offset bytes = word_at bytes 12

-- rule 11.1: where the bytes behind n records start: 16 + 24n
unfoldable pub records_end : ℕ → ℕ
records_end n = header_bytes + record_bytes * n

-- rule 11.1: where the bytes behind n records and m message words start, which is the length of the tape: 16 + 24n + 4m
unfoldable pub tape_end : ℕ → ℕ → ℕ
tape_end n m = records_end n + word_size * m

-- rule 11.2: a tape is refused that has no whole header, another offset, too many records or message words, or another length
unfoldable pub refusedb : List ℕ → Bool
refusedb bytes =
    ltb (length bytes) header_bytes
    || not (eqb (records_offset bytes) header_bytes)
    || ltb most_records (records_said bytes)
    || not (eqb (messages_offset bytes) (records_end (records_said bytes)))
    || ltb most_message_words (messages_said bytes)
    || not (eqb (length bytes) (tape_end (records_said bytes) (messages_said bytes)))

-- rule 11.2: how many records there are to carry out: none of a refused tape
unfoldable pub count_of : List ℕ → ℕ
count_of bytes = if refusedb bytes then 0 else records_said bytes

-- rule 11.2: how many message words there are: none in a refused tape
unfoldable pub message_count_of : List ℕ → ℕ
message_count_of bytes = if refusedb bytes then 0 else messages_said bytes

-- ---- records and message words
-- a request of zeros
unfoldable pub no_request : Request
no_request = record { number = 0; caller = 0; a = 0; b = 0; c = 0; d = 0 }

-- rule 11.1: the request of the record whose first word starts at a byte
unfoldable pub record_from : List ℕ → ℕ → Request
record_from bytes at =
    record {
      number = word_at bytes at;
      caller = word_at bytes (at + 4);
      a = word_at bytes (at + 8);
      b = word_at bytes (at + 12);
      c = word_at bytes (at + 16);
      d = word_at bytes (at + 20);
    }

-- rule 11.1: the request of record i, from 0, as the bytes at its place spell it, also past the records that a tape says it has; no tape
-- has a record 2048 or later, and a request of zeros stands for it
unfoldable pub record_at : List ℕ → ℕ → Request
record_at bytes i = if ltb i most_records then record_from bytes (records_end i) else no_request

-- rule 11.1: message word i, from 0
unfoldable pub message_at : List ℕ → ℕ → ℕ
message_at bytes i = word_at bytes (tape_end (count_of bytes) i)

-- rule 11.1: the requests of all records in order
unfoldable pub records_of : List ℕ → List Request
records_of bytes = map (record_at bytes) (numbers_from 0 (count_of bytes))

-- rule 11.1: all message words in order
unfoldable pub messages_of : List ℕ → List ℕ
messages_of bytes = map (message_at bytes) (numbers_from 0 (message_count_of bytes))
