-- The end of one wait, by what ends it.
use Rattle.std.specs.Prelude.{ℕ, List}
use Rattle.reasons.specs.declared.Reason.{Reason}
use Rattle.reasons.specs.declared.Reason.TheVariants.{Served, TimedOut, Aborted, Deleted}
use Rattle.calls.specs.Held.{holding}
use Rattle.calls.specs.Statuses as Statuses
use Rattle.waiting.specs.declared.ends.By.{By}
use Rattle.waiting.specs.declared.ends.By.TheVariants.{Give, Take, Empty, Delete, Tick, Abort}
use Rattle.waiting.specs.declared.ends.End.{End}

-- rule 5.4: why the wait has ended: a sender whose message is taken, or whose queue is emptied, is served, and whatever a tick ends has timed out
abbrev pub reason_by : By → Reason
reason_by Give = Served
reason_by Take = Served
reason_by Empty = Served
reason_by Delete = Deleted
reason_by (Tick status) = TimedOut
reason_by Abort = Aborted

-- rules 5.4, 5.5: the status that the thread then holds; that of a time-out goes by what was waited for
abbrev pub status_left : By → ℕ
status_left Give = Statuses.success
status_left Take = Statuses.success
status_left Empty = Statuses.success
status_left Delete = Statuses.deleted
status_left (Tick status) = status
status_left Abort = Statuses.wait_aborted

-- rule 5.4: what the thread then holds, and why
abbrev pub end_by : By → List ℕ → End
end_by by words = record { held = holding (status_left by) words; reason = reason_by by }
