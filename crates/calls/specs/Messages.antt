-- Messages in the lent words.
use Rattle.std.specs.Prelude.{List, ℕ, take, drop}
use Rattle.numbers.specs.Numbers.{message_words}
use Rattle.lines.specs.Lines.{pad}

-- rules 3.14, 5.3: the message of so many words at an index of the lent words, as sixteen words; those past its size are zero
unfoldable pub message_in : List ℕ → ℕ → ℕ → List ℕ
message_in area index words = pad message_words (take words (drop index area))
