-- What calls 31 and 32 do; 29 creates a group with no flag set, 30 removes it.
use Rattle.std.specs.Prelude.{if◌then◌else◌, List, [], ◌∷◌, ◌++◌, false, ℕ, eqb}
use Rattle.std.specs.Int.Bits.{bit_and, bit_or}
use Rattle.lines.specs.Lists.{filter, union_of}
use Rattle.scheduler.specs.Orders.{line_at}
use Rattle.objects.specs.Groups.{group_with, metb, clear_of, less_flags}
use Rattle.calls.specs.Held.{one_word, requesting}
use Rattle.kernel.specs.declared.Kernel.{Kernel}
use Rattle.kernel.specs.Tables.{held_at, group_at}
use Rattle.kernel.specs.Kinds.{state_on, place_of}
use Rattle.kernel.specs.Kinds.Kind.{group}
use Rattle.kernel.specs.Edits.{Effect}
use Rattle.kernel.specs.Edits.Cause.{served}
use Rattle.kernel.specs.Edits.Edit.{stores}
use Rattle.kernel.specs.Effects.{gives, does, begins, ends_each, store_effect}

-- rule 9.3: those in line whose requests the flags meet, each tested against the same flags
unfoldable pub woken_by : Kernel → ℕ → ℕ → List ℕ
woken_by k n flags = filter (λ t. metb flags (held_at k t).request (held_at k t).option) (line_at k.scheduler (place_of group n))

-- rule 9.3: what the woken ones ask to clear, as a union
unfoldable pub clears_by : Kernel → ℕ → ℕ → ℕ
clears_by k n flags = union_of (λ t. clear_of (held_at k t).request (held_at k t).option) (woken_by k n flags)

-- rule 9.3: call 31, set with option 0, of which these are the joined flags: whom they meet is served and holds them, and what the served
-- ones clear is taken off afterwards
unfoldable pub set_or_effect : Kernel → ℕ → ℕ → Effect
set_or_effect k n flags =
    does
    (ends_each (served group n) (one_word flags) (woken_by k n flags)
    ++ (stores group n (group_with (less_flags flags (clears_by k n flags))) ∷ []))

-- rules 9.3, 9.4: call 31, set: with option 0 the flags are joined, with option 2 those in both are kept and nobody is woken
unfoldable pub set_effect : Kernel → ℕ → ℕ → ℕ → Effect
set_effect k n flags option =
    if eqb option 0
    then set_or_effect k n (bit_or (group_at k n).flags flags)
    else store_effect group n (group_with (bit_and (group_at k n).flags flags))

-- rule 9.2: call 32, get: word 0 is the flags before any clear; with a request that is not met the caller waits
unfoldable pub flags_get_effect : Kernel → ℕ → ℕ → ℕ → ℕ → Effect
flags_get_effect k n request option wait =
    if metb (group_at k n).flags request option
    then gives (one_word (group_at k n).flags) (stores group n (group_with (less_flags (group_at k n).flags (clear_of request option))) ∷ [])
    else begins k false (state_on group) n wait (requesting request option)
