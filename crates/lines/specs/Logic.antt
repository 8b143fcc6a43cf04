-- Choices by a test, and tests of a range.
use Rattle.std.specs.Prelude.{if◌then◌else◌, Bool, true, ◌&&◌, ◌||◌, not, ℕ, zero, suc}

-- 1 where the test holds, else 0
unfoldable pub one_if : Bool → ℕ
one_if b = if b then 1 else 0

-- where a holds, b holds
unfoldable pub implies : Bool → Bool → Bool
implies a b = not a || b

-- f holds of every number below n
unfoldable pub all_below : ℕ → (ℕ → Bool) → Bool
all_below zero f = true
all_below (suc n) f = all_below n f && f n
