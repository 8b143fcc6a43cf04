-- Steps of loops only. Contracts of helper functions cite them, no rule and no claim does: a reader need not believe them, since the laws
-- say what they come to.
use Rattle.std.specs.Prelude.{if◌then◌else◌, Bool}
use Rattle.lines.specs.Loops.{better_of}
use Rattle.lines.specs.declared.Best.{Best}

-- ---- the loop that looks for the best
-- its step: the better of a thread, if it is wanted, and the best of those behind it
unfoldable pub considered_of : Bool → Best → Best → Best
considered_of wanted x b = if wanted then better_of x.id.0 x.key b else b
