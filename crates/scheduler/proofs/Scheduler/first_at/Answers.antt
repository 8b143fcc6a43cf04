use mathlib.Core.Path.{◌≡◌, refl, sym, ap, ◌∙◌}
use mathlib.Core.Bool.{Bool}
use mathlib.Core.List.{List, [], ◌∷◌}
use Prim.Native.Nat.{ℕ}
use borrow.Author.Rules.{rules}
use Rattle.std.proofs.Common.{tests, Option, Some, None}
use Rattle.std.proofs.lemmas.Iterator.{YieldsList-from_slice}
use Rattle.std.proofs.lemmas.Iterator.Search.{find_from_yields_List}
use Rattle.std.proofs.lemmas.Iterator.Consumers.{YieldsList-from_copied}
use Rattle.std.specs.List.{find}
use Rattle.std.specs.Option.{unwrap_or, option_map}
use Rattle.lines.specs.Lists.{first, first_with, filter}
use Rattle.lines.specs.Lines.{members}
use Rattle.lines.proofs.Laws.Logic.{by_test}
use Rattle.scheduler.specs.Threads.{placedb}
use Rattle.scheduler.specs.Orders.{thread_at, line_at, first_at}
use Rattle.scheduler.proofs.Scheduler.first_at.Goals as goal

first_found : (f : ℕ → Bool) (xs : List ℕ) → unwrap_or (find f xs) 32 ≡ first_with f xs
unfolding first_with first filter
first_found f [] = refl
first_found f (x ∷ xs) = by_test (f x) (λ e. rw e refl) (λ e. rw e (first_found f xs))

as_found : (r : Option ℕ) → option_map (λ (x : ℕ). x) r ≡ r
as_found None = refl
as_found (Some x) = refl

pub returns : goal.returns
unfolding thread_at first_at line_at first_with
returns c =
    let a = c.args in
    let f : ℕ → Bool = λ t. placedb a.p (thread_at a.self t) in
    let i = c.iter.ensures.rest in
    let g = find_from_yields_List f _ _ c.find-found.result c.find-found.ensures.ran (YieldsList-from_copied (YieldsList-from_slice (members a.self.order) (cc i))) (λ x b q k. search (rules, tests)) in
    c.unwrap_or.ensures ∙ ap (λ (r : Option ℕ). unwrap_or r 32) (sym (as_found c.find-found.result) ∙ g) ∙ first_found f (members a.self.order)
