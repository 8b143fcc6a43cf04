-- Laws of tables of any records: a read, and a test of one.
use mathlib.Core.Path.{◌≡◌, sym, ap, ◌∙◌}
use mathlib.Core.List.{List}
use mathlib.Core.Bool.{Bool, false}
use Prim.Native.Nat.{ℕ, ◌<◌}
use native.Mathlib.Omega.{arith}
use lib.ListN.{length, get_or}
use Rattle.std.specs.Prelude.{Option, MatchOption}
use Rattle.std.specs.Borrow.{Bor}
use Rattle.std.specs.Slice.{IsItemAt}
use Rattle.std.specs.declared.option.Option.TheVariants.{None, Some}
use Rattle.lines.proofs.Laws.Lists.{get_d_any}

module _ {A : Type 0} (table : List A) (i : ℕ) {size : ℕ} where
  -- inside the table a read is the same whatever stands for a record past it
  pub read_inside : (other none : A) → i < size → length table ≡ size → get_or table i other ≡ get_or table i none
  read_inside other none h e = get_d_any table i other none (omega arith)

-- a test of the record that a `get` gives, which fails where there is none, is that of a read whose record past the table fails it
pub get_tested : {A : Type 0} (table : List A) (i : ℕ) (none : A) (test : A → Bool) (r : Option (Bor A)) {b : Bool} (P : Bor A → Type 0)
    → IsItemAt table i r → test none ≡ false → ((x : Bor A) → P x → b ≡ test x.now) → MatchOption r (b ≡ false) P → b ≡ test (get_or table i none)
get_tested table i none test None P l n f m = m ∙ sym n ∙ ap test (l.4 (omega arith) none)
get_tested table i none test (Some x) P l n f m = f x m ∙ ap test (l.4 (omega arith) none)
