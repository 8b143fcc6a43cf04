-- Lists of calls, each on the tables that the last handed back.
use Rattle.std.specs.Prelude.{List, [], ◌∷◌, ℕ}
use Rattle.calls.specs.declared.call.Request.{Request}
use Rattle.kernel.specs.declared.Kernel.{Kernel}
use Rattle.kernel.specs.declared.Answer.{Answer}
use Rattle.kernel.specs.General as General

-- rule 2.9: a call as it is made: number, caller, four arguments and the lent message words
pub record Made : Type 0 where
  pub request : Request
  pub messages : List ℕ

-- rule 2.9: what the general call answers
unfoldable pub answer : Kernel → Made → Answer
answer k m = General.call k m.request m.messages

-- rule 2.9: the tables after a call
unfoldable pub next : Kernel → Made → Kernel
next k m = (answer k m).kernel

-- rule 2.9: the tables after a list of calls
unfoldable pub after : Kernel → List Made → Kernel
after k [] = k
after k (m ∷ ms) = after (next k m) ms
