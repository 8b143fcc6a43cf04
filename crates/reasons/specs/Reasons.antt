-- Why waits end, and the counts of the waits that have ended for each reason.
use Rattle.std.specs.Prelude.{if◌then◌else◌, List, [], ◌∷◌, Bool, ℕ, ◌+◌, eqb}
use Rattle.reasons.specs.declared.Reason.{Reason}
use Rattle.reasons.specs.declared.Reason.TheVariants.{Served, TimedOut, Aborted, Deleted}
use Rattle.reasons.specs.declared.Counts.{Counts}

-- the order of the reasons, in a result and in print
abbrev pub number_of : Reason → ℕ
number_of Served = 0
number_of TimedOut = 1
number_of Aborted = 2
number_of Deleted = 3

-- two reasons are the same
abbrev pub same_reasonb : Reason → Reason → Bool
same_reasonb r q = eqb (number_of r) (number_of q)

-- the count of each reason
abbrev pub count_for : Reason → Counts → ℕ
count_for Served c = c.served
count_for TimedOut c = c.timeouts
count_for Aborted c = c.aborted
count_for Deleted c = c.deleted

-- the four counts, in their order
abbrev pub count_list : Counts → List ℕ
count_list c = c.served ∷ c.timeouts ∷ c.aborted ∷ c.deleted ∷ []

-- the waits that have ended, for whatever reason
abbrev pub total_of : Counts → ℕ
total_of c = c.served + c.timeouts + c.aborted + c.deleted

-- the counts, where so many waits have ended for each reason
abbrev pub counts_by : (Reason → ℕ) → Counts
counts_by f = record { served = f Served; timeouts = f TimedOut; aborted = f Aborted; deleted = f Deleted }

-- no wait has ended
abbrev pub no_waits : Counts
no_waits = counts_by (λ r. 0)

-- n waits have ended, all for one reason
abbrev pub counts_of : Reason → ℕ → Counts
counts_of r n = counts_by (λ q. if same_reasonb r q then n else 0)
