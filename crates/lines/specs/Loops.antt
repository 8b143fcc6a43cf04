-- Steps of loops only. Contracts of helper functions cite them, no rule and no claim does: a reader need not believe them, since the laws
-- say what they come to.
use Rattle.std.specs.Prelude.{if◌then◌else◌, List, [], ◌∷◌, ℕ, ◌+◌, get_or, set, replicate, ltb}
use Rattle.numbers.specs.Numbers.{threads, nobody}
use Rattle.lines.specs.declared.Best.{Best}

-- ---- how often each number stands in a list
-- the slot in which a number is counted: all from 32 on in slot 32
unfoldable pub slot_of : ℕ → ℕ
slot_of x = if ltb x nobody then x else nobody

-- one count for each slot
unfoldable pub tally : List ℕ → List ℕ
tally [] = replicate (threads + 1) 0
tally (x ∷ xs) = set (tally xs) (slot_of x) (get_or (tally xs) (slot_of x) 0 + 1)

-- ---- the step of the loop that looks for the best, from the end of a line
-- the better of x with key k and the best of those behind it; x where the keys are equal
unfoldable pub better_of : ℕ → ℕ → Best → Best
better_of x k b = if ltb b.key k then b else record { id = record { 0 = x }; key = k }
