-- Slots: stores and lists in 64 of them, and slots that are filled from the front.
use Rattle.std.specs.Prelude.{List, ◌++◌, Bool, ◌||◌, ℕ, take, get_or, replicate, eqb, ltb}
use Rattle.numbers.specs.Numbers.{slots}
use Rattle.lines.specs.Logic.{all_below}

-- rule 12.7: the slots from n on are zero
unfoldable pub zero_from : ℕ → List ℕ → Bool
zero_from n xs = all_below slots (λ i. ltb i n || eqb (get_or xs i 0) 0)

-- rule 8.7: n slots that begin with xs, as far as they go, and blank ones behind. Of numbers, blank at 0, it is `pad`: `filled_pad` of proofs/Laws/Slots.antt.
unfoldable pub filled : {A : Type 0} → ℕ → A → List A → List A
filled n blank xs = take n (xs ++ replicate n blank)
