use Rattle.std.proofs.Common.{ℕ, ◌++◌, take}
use Rattle.output.specs.Texts.{Puts, decimal_of}
use Rattle.text.specs.Texts.{each_text, separator_text}
use Rattle.text.proofs.put_numbers.Given as goal

abbrev pub invariant-loop-i : goal.invariant-loop-i
invariant-loop-i g l =
    Puts l.fn.w (each_text (λ (i : ℕ) (x : _). separator_text i l.separator ++ decimal_of (g.T.Number.number x)) 0 (take l.i l.numbers)) l.w
