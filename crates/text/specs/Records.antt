-- The records of a tape as text, each with its answer.
use Rattle.std.specs.Prelude.{List, [], ◌∷◌, ◌++◌, ℕ, suc}
use Rattle.calls.specs.declared.call.Request.{Request}
use Rattle.kernel.specs.declared.Kernel.{Kernel}
use Rattle.kernel.specs.declared.Answer.{Answer}
use Rattle.kernel.specs.General.{call}
use Rattle.kernel.specs.Runs.{after_record}

-- rule 11.6: the texts of a list of records, the first of them record i, each carried out by the general call on the tables that the last
-- one handed back; what is printed of a record depends on its number, the request and the answer
unfoldable pub records_text : (ℕ → Request → Answer → List ℕ) → ℕ → Kernel → List ℕ → List Request → List ℕ
records_text f i k messages [] = []
records_text f i k messages (r ∷ rs) = f i r (call k r messages) ++ records_text f (suc i) (after_record k messages r) messages rs
