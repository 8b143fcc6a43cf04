-- What a refusal is answered with.
use Rattle.std.specs.Prelude.{Result, Ok, Err, ℕ}
use Rattle.calls.specs.Statuses as Statuses
use Rattle.apachimo.specs.declared.Refused.{Refused}
use Rattle.apachimo.specs.declared.Refused.TheVariants.{Size, Tape, Unsound}

-- the status of a refusal
abbrev pub refusal_status : Refused → ℕ
refusal_status Size = Statuses.size_error
refusal_status Tape = Statuses.tape_refused
refusal_status Unsound = Statuses.tables_unsound

-- the same of a test that refuses or does not: 0 where it does not
abbrev pub result_status : Result (Unit {0}) Refused → ℕ
result_status (Ok _) = 0
result_status (Err e) = refusal_status e
