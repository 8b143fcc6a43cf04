-- What a call answers.
use Rattle.std.specs.Prelude.{List, [], ℕ, length}
use Rattle.calls.specs.Held.{no_words}
use Rattle.kernel.specs.declared.Kernel.{Kernel}
use Rattle.kernel.specs.declared.Answer.{Answer}

-- rule 2.2: what a call comes to: a status, sixteen words, the threads whose waits it ended with a status, in order, and the tables
pub record Outcome : Type 0 where
  pub status : ℕ
  pub words : List ℕ
  pub ended : List ℕ
  pub kernel : Kernel

-- rule 2.2: the answer: of the ended waits their number, and the runner of the tables as next thread
unfoldable pub answer_of : Outcome → Answer
answer_of o =
    record {
      status = o.status;
      words = o.words;
      next = o.kernel.scheduler.running;
      ended = length o.ended;
      kernel = o.kernel;
    }

-- rule 2.4: tables unchanged, words zero, no wait ended; who runs stays
unfoldable pub refused : Kernel → ℕ → Outcome
refused k status = record { status = status; words = no_words; ended = []; kernel = k }
