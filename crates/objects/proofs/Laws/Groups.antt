-- Laws of an event flags group's record and of requests.
use mathlib.Core.Path.{◌≡◌, refl, sym, ap, ◌∙◌}
use mathlib.Core.Bool.{Bool, true, false, not}
use Prim.Native.Nat.{ℕ}
use lib.Bits.{bit_and, bit_xor, and_comm, and_self}
use lib.Dec.{eqb}
use borrow.Author.Tests.{eqb-true, eqb-false, eq-eqb, not-true}
use Rattle.std.specs.Prelude.{if◌then◌else◌}
use Rattle.lines.proofs.Laws.Bits.{and_assoc}
use Rattle.lines.proofs.Laws.Logic.{by_test, and_left, and_right, and_in}
use Rattle.objects.specs.Groups.{no_group, group_fitb, or_optionb, some_setb, all_setb, metb, less_flags}

pub none_fit : group_fitb no_group ≡ true
unfolding no_group
none_fit = refl

-- ---- requests
pub met-zero : (flags option : ℕ) → metb flags 0 option ≡ false
unfolding metb
met-zero flags option = refl

-- what part of the flags meets, the flags meet
module _ (flags other request : ℕ) where
  abbrev part : ℕ
  part = bit_and (bit_and flags other) request

  part_in : bit_and flags part ≡ part
  part_in =
      ap (bit_and flags) (and_assoc flags other request)
      ∙ sym (and_assoc flags flags (bit_and other request))
      ∙ ap (λ (x : ℕ). bit_and x (bit_and other request)) (and_self flags)
      ∙ sym (and_assoc flags other request)

  part_of : bit_and (bit_and flags request) other ≡ part
  part_of = and_assoc flags request other ∙ ap (bit_and flags) (and_comm request other) ∙ sym (and_assoc flags other request)

  some-part : some_setb (bit_and flags other) request ≡ true → some_setb flags request ≡ true
  unfolding some_setb
  some-part e =
      by_test (eqb (bit_and flags request) 0)
      (λ q. absurd (eqb-false part 0 (not-true (eqb part 0) e) (sym part_of ∙ ap (λ (x : ℕ). bit_and x other) (eqb-true (bit_and flags request) 0 q))))
      (λ q. ap not q)

  all-part : all_setb (bit_and flags other) request ≡ true → all_setb flags request ≡ true
  unfolding all_setb
  all-part e =
      let p = eqb-true part request e in
      eq-eqb (bit_and flags request) request (ap (bit_and flags) (sym p) ∙ part_in ∙ p)

  pub met-part : (option : ℕ) → metb (bit_and flags other) request option ≡ true → metb flags request option ≡ true
  unfolding metb
  met-part option e =
      let some = not (eqb request 0) in
      let before = if or_optionb option then some_setb (bit_and flags other) request else all_setb (bit_and flags other) request in
      let after = if or_optionb option then some_setb flags request else all_setb flags request in
      and_in some after (and_left some before e) (go (or_optionb option) (and_right some before e))
    where
      go : (b : Bool) → (if b then some_setb (bit_and flags other) request else all_setb (bit_and flags other) request) ≡ true
          → (if b then some_setb flags request else all_setb flags request) ≡ true
      go true h = some-part h
      go false h = all-part h

pub met_less : (flags others request option : ℕ) → metb (less_flags flags others) request option ≡ true → metb flags request option ≡ true
unfolding less_flags
met_less flags others request option e = met-part flags (bit_xor 0xFFFFFFFF others) request option e
