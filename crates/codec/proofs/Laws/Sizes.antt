-- Bytes of a block's number, and bytes of another.
use mathlib.Core.Path.{◌≡◌, ap}
use mathlib.Core.List.{List}
use mathlib.Core.Bool.{Bool}
use mathlib.Core.Logic.{◌≢◌}
use Prim.Native.Nat.{ℕ}
use lib.ListN.{length}
use borrow.Author.Tests.{eq-eqb, ne_eqb}
use Rattle.std.specs.Prelude.{if◌then◌else◌}
use Rattle.kernel.specs.declared.Kernel.{Kernel}
use Rattle.kernel.specs.Tables.{started}
use Rattle.codec.specs.Layout.{state_bytes}
use Rattle.codec.specs.State.{kernel_of, tables_of}
use Rattle.codec.specs.Bytes.{bytes_of, block_after}

-- what is read from them
pub sized_tables : (b : List ℕ) → length b ≡ state_bytes → tables_of b ≡ kernel_of b
unfolding tables_of
sized_tables b h = ap (λ (x : Bool). if x then kernel_of b else started) (eq-eqb (length b) state_bytes h)

pub other_tables : (b : List ℕ) → length b ≢ state_bytes → tables_of b ≡ started
unfolding tables_of
other_tables b h = ap (λ (x : Bool). if x then kernel_of b else started) (ne_eqb (length b) state_bytes h)

-- what they are once tables are written to them
pub sized_after : (b : List ℕ) (k : Kernel) → length b ≡ state_bytes → block_after b k ≡ bytes_of k
unfolding block_after
sized_after b k h = ap (λ (x : Bool). if x then bytes_of k else b) (eq-eqb (length b) state_bytes h)

pub other_after : (b : List ℕ) (k : Kernel) → length b ≢ state_bytes → block_after b k ≡ b
unfolding block_after
other_after b k h = ap (λ (x : Bool). if x then bytes_of k else b) (ne_eqb (length b) state_bytes h)
