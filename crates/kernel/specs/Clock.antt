-- What calls 13 to 15 do.
use Rattle.std.specs.Prelude.{List, [], ◌∷◌, ◌++◌, Bool, ℕ}
use Rattle.numbers.specs.Numbers.{threads}
use Rattle.lines.specs.Lists.{numbers_from, filter}
use Rattle.scheduler.specs.declared.thread.Thread.{Thread}
use Rattle.calls.specs.Held.{no_words, one_word}
use Rattle.waiting.specs.Ticks.{next_time, timedb, at_zerob}
use Rattle.kernel.specs.declared.Kernel.{Kernel}
use Rattle.kernel.specs.Tables.{thread_of}
use Rattle.kernel.specs.Edits.{Edit, applied, Effect}
use Rattle.kernel.specs.Edits.Cause.{timed_out}
use Rattle.kernel.specs.Edits.Edit.{counts, sets}
use Rattle.kernel.specs.Effects.{gives, does, ends_each}

-- rule 6.9: call 13, clock get: word 0 is the clock
unfoldable pub clock_effect : Kernel → Effect
clock_effect k = gives (one_word k.clock) []

-- rule 6.9: call 14, clock set: no wait moves
unfoldable pub clock_set_effect : ℕ → Effect
clock_set_effect time = does (sets time ∷ [])

-- ---- the tick
-- rule 6.10: the threads of whose records a test holds, in the order of their numbers
abbrev pub threads_with : (Thread → Bool) → Kernel → List ℕ
threads_with f k = filter (λ t. f (thread_of k t)) (numbers_from 0 threads)

-- rule 6.10: each in a list has one tick less
unfoldable pub counts_each : List ℕ → List Edit
counts_each [] = []
counts_each (t ∷ ts) = counts t ∷ counts_each ts

-- rule 6.10: one tick is taken from every timed wait and sleep
unfoldable pub ticks_taken : Kernel → List Edit
ticks_taken k = counts_each (threads_with timedb k)

-- rule 6.10: the waits and sleeps that are at zero end as timed out
unfoldable pub timeouts : Kernel → List Edit
timeouts k = ends_each timed_out no_words (threads_with at_zerob k)

-- rule 6.10: call 15, tick: ticks are taken, then the waits at zero end, and the clock goes on by one
unfoldable pub tick_effect : Kernel → Effect
tick_effect k = does (ticks_taken k ++ (timeouts (applied k (ticks_taken k)) ++ (sets (next_time k.clock) ∷ [])))
