-- A semaphore's record.
use Rattle.std.specs.Prelude.{Bool, false, ◌||◌, ℕ, eqb}
use Rattle.objects.specs.declared.semaphore.Semaphore.{Semaphore}

-- rules 3.11, 7.2: the largest count, at which a put is refused
abbrev pub largest_count : ℕ
largest_count = 0xFFFFFFFF

-- rule 12.7: the record of a semaphore that is not created is zero
unfoldable pub no_semaphore : Semaphore
no_semaphore = record { created = false; count = 0 }

-- rule 12.7: a record that is not created is zero
abbrev pub semaphore_fitb : Semaphore → Bool
semaphore_fitb s = s.created || eqb s.count 0
