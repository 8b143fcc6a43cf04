use mathlib.Core.Path.{◌≡◌, ap, ◌∙◌}
use mathlib.Core.List.{List}
use mathlib.Core.Bool.{Bool, ◌||◌}
use native.Mathlib.Omega.{arith}
use borrow.Author.Rules.{rules}
use Prim.Native.Nat.{ℕ, ◌-◌, ◌≤◌, ◌<◌, min}
use lib.Dec.{eqb, ltb}
use lib.ListN.{length, take, drop, get_or}
use Rattle.std.specs.List.{list_all}
use Rattle.std.proofs.lemmas.List.{take_rest, places}
use Rattle.lines.specs.Logic.{all_below}
use Rattle.lines.specs.Lines.{cleanb}
use Rattle.lines.proofs.Laws.Lines.{length-members}
use Rattle.lines.proofs.Laws.Slots.{all_same, zero_behind}
use Rattle.lines.proofs.Line.is_clean.Goals as goal

pub slice_bounds-are_blank-count : goal.slice_bounds-are_blank-count
slice_bounds-are_blank-count c =
    let a = c.args.self in
    let e : length a.ids ≡ 32 = search rules in
    omega (arith, c.size-n.ensures, length-members a e)

pub slice_bounds-are_blank-start : goal.slice_bounds-are_blank-start
slice_bounds-are_blank-start c =
    let a = c.args.self in
    let e : length a.ids ≡ 32 = search rules in
    let n : c.size-n.result ≤ 32 = omega (arith, c.size-n.ensures, length-members a e) in
    search rules

-- of slots that are those of a list, place by place, a part behind the first m is blank where that list's is
as_slots : {r : Bool} (ys xs : List ℕ) (n m k : ℕ) → length ys ≡ k → m ≡ min n k → r ≡ list_all (λ x. eqb x 0) (take (length ys - m) (drop m ys))
    → ((i : ℕ) → i < k → get_or ys i 0 ≡ get_or xs i 0) → r ≡ all_below k (λ i. ltb i n || eqb (get_or xs i 0) 0)
as_slots ys xs n m k e g p s =
    p
    ∙ ap (list_all (λ x. eqb x 0)) (take_rest ys m)
    ∙ zero_behind n m k ys e g
    ∙ all_same k (λ i. ltb i n || eqb (get_or ys i 0) 0) (λ i. ltb i n || eqb (get_or xs i 0) 0) (λ i l. ap (λ (x : ℕ). ltb i n || eqb x 0) (s i l))

pub returns : goal.returns
unfolding cleanb
returns c =
    let a = c.args.self in
    let e : length a.ids ≡ 32 = search rules in
    let n : c.size-n.result ≡ min a.len 32 = omega (arith, c.size-n.ensures, length-members a e, e) in
    let b = as_slots _ a.ids a.len c.size-n.result 32 (search rules) n c.are_blank.ensures (λ i l. search (rules, places)) in
    rw b
