-- The pieces of text that the programs print: fields, threads, lists and lines, as ASCII bytes.
use Rattle.std.specs.Prelude.{if◌then◌else◌, List, [], ◌∷◌, ◌++◌, ℕ, suc, eqb, ltb}
use Prim.Native.Char.{code}
use Rattle.numbers.specs.Numbers.{nobody}
use Rattle.calls.specs.Statuses as Statuses
use Rattle.output.specs.Texts.{ascii, decimal_of}

-- a label and a number in decimal
unfoldable pub field_text : List ℕ → ℕ → List ℕ
field_text label n = label ++ decimal_of n

-- rule 11.6: a thread's number, `-` for nobody
unfoldable pub thread_text : ℕ → List ℕ
thread_text t = if ltb t nobody then decimal_of t else ascii "-"

-- ---- lists
-- the texts of all items of a list, each with its number, that of the first being i
unfoldable pub each_text : {A : Type 0} → (ℕ → A → List ℕ) → ℕ → List A → List ℕ
each_text f i [] = []
each_text f i (x ∷ xs) = f i x ++ each_text f (suc i) xs

-- what stands before item i of a list: a separator, but nothing before the first
unfoldable pub separator_text : ℕ → ℕ → List ℕ
separator_text i separator = if eqb i 0 then [] else separator ∷ []

-- numbers in decimal with a separator between them
unfoldable pub separated : ℕ → List ℕ → List ℕ
separated separator ns = each_text (λ i n. separator_text i separator ++ decimal_of n) 0 ns

-- ---- lines
-- those who stand in a line, and the end of the text line
unfoldable pub line_text : List ℕ → List ℕ
line_text ts = ascii ": " ++ separated (code " ") ts ++ ascii "\n"

-- rule 11.6: what is printed of a refused tape
unfoldable pub refused_text : List ℕ
refused_text = field_text (ascii "tape refused ") Statuses.tape_refused ++ ascii "\n"
