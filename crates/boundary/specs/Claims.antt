-- What is claimed of calls through a lent block, in one record. Its proof is `boundary_claims` of proofs/Laws/Claims.antt.
use Rattle.std.specs.Prelude.{◌≡◌, List, true, ℕ, length}
use Rattle.words.specs.Words.{Byte}
use Rattle.kernel.specs.declared.Kernel.{Kernel}
use Rattle.kernel.specs.Tables.{started}
use Rattle.kernel.specs.Kinds.{Kind}
use Rattle.kernel.specs.Sound.{soundb}
use Rattle.codec.specs.Layout.{state_bytes}
use Rattle.codec.specs.State.{kernel_of}
use Rattle.codec.specs.Bytes.{bytes_of}
use Rattle.codec.specs.Restored.{All, Fits}
use Rattle.apachimo.specs.Library.{start_block, run_refusal, run_block, run_replies}
use Rattle.claims.specs.Lists.{Made, next, after}
use Rattle.claims.specs.Rolls.{Waits, NoPrioritiseOrDelete, Claim}
use Rattle.boundary.specs.Calls.{Lent, Passed, block_after_calls, block_replies, replies_to, made_of, replied_list}

-- rules 1.2, 14.4: a start leaves a block that is taken, with sound tables in which nothing is created
pub record Starts (b : List ℕ) : Type 0 where
  pub lent : Lent (start_block b)
  pub tables : kernel_of (start_block b) ≡ started
  pub sound : soundb (kernel_of (start_block b)) ≡ true

-- rule 14.8: a list of calls through a lent block is that list of calls on the tables of the block
pub record Calls (b : List ℕ) (ms : List Made) : Type 0 where
  -- the block afterwards is taken again
  pub lent : Lent (block_after_calls b ms)
  -- its tables are those after the list of calls
  pub tables : kernel_of (block_after_calls b ms) ≡ after (kernel_of b) ms
  -- and its bytes are theirs
  pub written : block_after_calls b ms ≡ bytes_of (after (kernel_of b) ms)
  -- the replies are those of the general call, each on the tables that the last one handed back
  pub replies : block_replies b ms ≡ replies_to (kernel_of b) ms

-- rule 14.9: a run through a lent block is the list of its records, as calls on the tables of the block
pub record Runs (b tape : List ℕ) (most : ℕ) (out : List ℕ) : Type 0 where
  pub lent : Lent (run_block b tape most (length out))
  pub tables : kernel_of (run_block b tape most (length out)) ≡ after (kernel_of b) (made_of tape most)
  pub written : run_block b tape most (length out) ≡ bytes_of (after (kernel_of b) (made_of tape most))
  pub replies : run_replies b tape most out ≡ replied_list out 0 (replies_to (kernel_of b) (made_of tape most))

-- rules 13.3, 13.4, 14.8, 14.9: first come, first served, for a user of the library: the claim holds of every list of calls through the block, and of
-- every run, in which no prioritise or delete of the object is done, and the tables, block and replies are those of which it speaks
pub record LibraryClaim (b : List ℕ) (d : Kind) (n : ℕ) (ahead : List ℕ) (t : ℕ) : Type 0 where
  pub calls : (ms : List Made) → All Passed ms → NoPrioritiseOrDelete d n (kernel_of b) ms → Claim (kernel_of b) d n ahead t ms × Calls b ms
  pub runs : (tape : List ℕ) → All Byte tape → (most : ℕ) (out : List ℕ) → run_refusal b tape most (length out) ≡ 0
      → NoPrioritiseOrDelete d n (kernel_of b) (made_of tape most)
      → Claim (kernel_of b) d n ahead t (made_of tape most) × Runs b tape most out

-- ---- the claims
pub record BoundaryClaims : Type 0 where
  -- rule 14.4: any bytes, of the right number
  pub starts : (b : List ℕ) → length b ≡ state_bytes → Starts b
  -- rule 14.8: a call on tables that fit a block leaves tables that fit one
  pub fits : (k : Kernel) → Fits k → (m : Made) → Passed m → Fits (next k m)
  -- rule 14.8: every list of calls, on sound tables or not, refused or carried out
  pub calls : (b : List ℕ) → Lent b → (ms : List Made) → All Passed ms → Calls b ms
  -- rule 14.9: every run that is not refused
  pub runs : (b : List ℕ) → Lent b → (tape : List ℕ) → All Byte tape → (most : ℕ) (out : List ℕ)
      → run_refusal b tape most (length out) ≡ 0 → Runs b tape most out
  -- rules 13.3, 13.4: from any block with sound tables in which a thread waits
  pub for_library : (b : List ℕ) → Lent b → soundb (kernel_of b) ≡ true
      → (d : Kind) (n : ℕ) (ahead : List ℕ) (t : ℕ) → Waits (kernel_of b) d n ahead t → LibraryClaim b d n ahead t
