-- An event flags group's record, and the flags that a request asks for.
use Rattle.std.specs.Prelude.{if◌then◌else◌, Bool, true, false, ◌&&◌, ◌||◌, not, ℕ, eqb, ltb}
use Rattle.std.specs.Int.Bits.{bit_and, bit_xor}
use Rattle.objects.specs.declared.group.Group.{Group}

-- rule 12.7: the record of a group that is not created is zero
unfoldable pub no_group : Group
no_group = record { created = false; flags = 0 }

-- rule 9.5: a created group with these flags; a new one has none
unfoldable pub group_with : ℕ → Group
group_with flags = record { created = true; flags = flags }

-- rule 12.7: a record that is not created is zero
abbrev pub group_fitb : Group → Bool
group_fitb g = g.created || eqb g.flags 0

-- rule 9.1: with options 0 and 1 some of the flags are enough, options 2 and 3 ask for all
unfoldable pub or_optionb : ℕ → Bool
or_optionb option = ltb option 2

-- rule 9.1: some requested flag is set
unfoldable pub some_setb : ℕ → ℕ → Bool
some_setb flags request = not (eqb (bit_and flags request) 0)

-- rule 9.1: every requested flag is set
unfoldable pub all_setb : ℕ → ℕ → Bool
all_setb flags request = eqb (bit_and flags request) request

-- rule 9.1: the flags meet a request under an option; a request for no flag is never met
unfoldable pub metb : ℕ → ℕ → ℕ → Bool
metb flags request option = not (eqb request 0) && (if or_optionb option then some_setb flags request else all_setb flags request)

-- rule 9.1: options 1 and 3 clear
unfoldable pub clearsb : ℕ → Bool
clearsb option = eqb option 1 || eqb option 3

-- rule 9.2: the flags that a request takes off once it is met: its own where its option clears, else none
unfoldable pub clear_of : ℕ → ℕ → ℕ
clear_of request option = if clearsb option then request else 0

-- rule 9.2: flags without some others
unfoldable pub less_flags : ℕ → ℕ → ℕ
less_flags flags others = bit_and flags (bit_xor 0xFFFFFFFF others)
