use Rattle.std.proofs.Common.{ℕ, ◌++◌, take}
use Rattle.output.specs.Texts.{Puts, decimal_of}
use Rattle.text.specs.Texts.{each_text, separator_text}
use Rattle.text.specs.Objects.{word_separator}
use Rattle.text.proofs.object_tables.put_stored.Given as goal

abbrev pub invariant-loop-i : goal.invariant-loop-i
invariant-loop-i g l =
    Puts l.fn.w (each_text (λ (m w : ℕ). separator_text m (word_separator l.q.words m) ++ decimal_of w) 0 (take l.i l.word-items)) l.w
