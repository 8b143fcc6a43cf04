-- What calls 18 to 20 do; 16 creates a semaphore with a count, 17 removes it, 21 prioritises its line.
use Rattle.std.specs.Prelude.{ℕ, ◌+◌}
use Rattle.calls.specs.Held.{no_words}
use Rattle.kernel.specs.declared.Kernel.{Kernel}
use Rattle.kernel.specs.Tables.{semaphore_at}
use Rattle.kernel.specs.Kinds.Kind.{semaphore}
use Rattle.kernel.specs.Edits.{Effect}
use Rattle.kernel.specs.Effects.{counting, give_effect, take_effect}

-- rule 7.1: call 18, get: an instance at once, else the caller waits
unfoldable pub semaphore_get_effect : Kernel → ℕ → ℕ → Effect
semaphore_get_effect k n wait = take_effect k semaphore n no_words wait

-- rule 7.2: calls 19 and 20, put and ceiling put: the first waiter is served, else the count goes up by one
unfoldable pub put_effect : Kernel → ℕ → Effect
put_effect k n = give_effect k semaphore n no_words (counting ((semaphore_at k n).count + 1))
