-- A line in its slots: who stands in it, and the line that a list makes.
use Rattle.std.specs.Prelude.{if◌then◌else◌, List, [], ◌∷◌, Bool, ◌&&◌, ◌||◌, ℕ, zero, suc, ◌+◌, length, take, get_or, set, eqb, ltb, leb}
use Rattle.numbers.specs.Numbers.{threads}
use Rattle.lines.specs.Logic.{all_below}
use Rattle.lines.specs.declared.Line.{Line}

-- a line has 32 slots
abbrev pub capacity : ℕ
capacity = threads

-- who stands in a line, in order
unfoldable pub members : Line → List ℕ
members l = take l.len l.ids

-- rule 8.7: n slots that begin with xs, as far as they go, and zeros behind
unfoldable pub pad : ℕ → List ℕ → List ℕ
pad zero xs = []
pad (suc n) [] = 0 ∷ pad n []
pad (suc n) (x ∷ xs) = x ∷ pad n xs

-- the line in which the first 32 of xs stand, the slots behind them zero
unfoldable pub line_of : List ℕ → Line
line_of xs = record { ids = pad capacity xs; len = length (take capacity xs) }

-- one more behind the last, where there is room
unfoldable pub pushed : Line → ℕ → Line
pushed l t = if ltb l.len capacity then record { ids = set l.ids l.len t; len = l.len + 1 } else l

-- rules 12.1, 12.7: at most 32 stand in the line, and the slots behind them are zero
unfoldable pub cleanb : Line → Bool
cleanb l = leb l.len capacity && all_below capacity (λ i. ltb i l.len || eqb (get_or l.ids i 0) 0)
