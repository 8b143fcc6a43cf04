-- Laws of refusals: a block that is not refused has its size, and is read and written whole.
use mathlib.Core.Path.{◌≡◌, refl, ap, ◌∙◌}
use mathlib.Core.List.{List}
use mathlib.Core.Bool.{Bool, true, false, ◌&&◌}
use Prim.Native.Nat.{ℕ, ◌≤◌}
use native.Mathlib.Nat.{not-suc-le-zero}
use native.Mathlib.Omega.{arith}
use lib.ListN.{length}
use lib.Dec.{eqb}
use borrow.Author.Tests.{eqb-true, eq-eqb}
use Rattle.std.specs.Prelude.{if◌then◌else◌}
use Rattle.codec.specs.Layout.{state_bytes}
use Rattle.codec.specs.State.{flags_fitb}
use Rattle.apachimo.specs.declared.Refused.{Refused}
use Rattle.apachimo.specs.declared.Refused.TheVariants.{Size, Tape, Unsound}
use Rattle.apachimo.specs.Library.{block_refusal, run_refusal}
use Rattle.apachimo.specs.Refusals.{refusal_status}

-- where a test fails, a reason other than 0 is given
sized : (b : Bool) (r : ℕ) → (if b then r else 5) ≡ 0 → b ≡ true
sized true r e = λ j. true
sized false r e = absurd (five e)
  where
    five : ◌≡◌ {A = ℕ} 5 0 → ⊥
    five e = not-suc-le-zero (let y : 1 ≤ 0 = omega (arith, e) in y)

pub block_sized : (b : List ℕ) → block_refusal b ≡ 0 → length b ≡ state_bytes
unfolding block_refusal
block_sized b e = eqb-true (length b) state_bytes (sized (eqb (length b) state_bytes) _ e)

pub run_sized : (b tape : List ℕ) (most room : ℕ) → run_refusal b tape most room ≡ 0 → length b ≡ state_bytes
unfolding run_refusal
run_sized b tape most room e = eqb-true (length b) state_bytes (sized (eqb (length b) state_bytes) _ e)

pub sized-flags : (b : List ℕ) (r : Bool) → r ≡ (eqb (length b) state_bytes && flags_fitb b) → length b ≡ state_bytes → r ≡ flags_fitb b
sized-flags b r e h = e ∙ ap (λ (x : Bool). x && flags_fitb b) (eq-eqb (length b) state_bytes h)

-- a refusal has a status other than 0
pub status_given : (e : Refused) → eqb (refusal_status e) 0 ≡ false
status_given Size = refl
status_given Tape = refl
status_given Unsound = refl
