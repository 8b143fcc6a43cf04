-- A run keeps the tables sound: they are those after the records so far, whose replies are written.
use mathlib.Core.Path.{◌≡◌}
use mathlib.Core.List.{List}
use mathlib.Core.Bool.{Bool, true, false}
use Prim.Native.Nat.{ℕ, ◌≤◌}
use lib.ListN.{take}
use Rattle.numbers.specs.declared.ThreadId.{ThreadId}
use Rattle.tape.specs.Tapes.{count_of, records_of, messages_of}
use Rattle.kernel.specs.declared.Kernel.{Kernel}
use Rattle.kernel.specs.declared.Answer.{Answer}
use Rattle.kernel.specs.Sound.{Sound}
use Rattle.kernel.specs.Runs.{after_records, replied_all}
use Rattle.kernel.proofs.Kernel.run.Given as goal

-- the answer whose tables the next step goes from
abbrev pub current : Bool → Answer → Answer → Answer
current true a b = b
current false a b = a

-- i records of the tape are carried out from the tables first, at most end of them: where that leads, and who runs next
pub record Carried (first : Kernel) (bytes out : List ℕ) (end i : ℕ) (now : Kernel) (replies : List ℕ) (next : ThreadId) : Type 0 where
  pub within : i ≤ end
  pub counted : end ≤ count_of bytes
  pub few : end ≤ 2048
  pub sound : Sound now
  pub tables : now ≡ after_records first (messages_of bytes) (take i (records_of bytes))
  pub written : replies ≡ replied_all first (messages_of bytes) (take i (records_of bytes)) 0 out
  pub runner : next ≡ now.scheduler.running

abbrev pub invariant-loop-i : goal.invariant-loop-i
invariant-loop-i l = Carried l.fn.self l.bytes l.fn.replies l.end l.i (current l.in_b l.a l.b).kernel l.replies l.next
