-- What the loop of a set finds in tables of requests and options. No rule stands on it: the kernel says whom a set wakes over the tables of
-- threads, and that both are the same is proved.
use Rattle.std.specs.Prelude.{List, Bool, ℕ, get_or}
use Rattle.lines.specs.Lists.{filter, union_of}
use Rattle.objects.specs.Groups.{metb, clear_of}

-- the flags meet the request of thread t; requests and options are tables over the threads
unfoldable pub met_atb : ℕ → List ℕ → List ℕ → ℕ → Bool
met_atb flags requests options t = metb flags (get_or requests t 0) (get_or options t 0)

-- those of a line whose requests the flags meet, in order
unfoldable pub woken_of : ℕ → List ℕ → List ℕ → List ℕ → List ℕ
woken_of flags requests options line = filter (met_atb flags requests options) line

-- the union of what the woken ones take off
unfoldable pub clears_of : ℕ → List ℕ → List ℕ → List ℕ → ℕ
clears_of flags requests options line = union_of (λ t. clear_of (get_or requests t 0) (get_or options t 0)) (woken_of flags requests options line)
