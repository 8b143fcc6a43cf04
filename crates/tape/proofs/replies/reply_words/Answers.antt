use mathlib.Core.Path.{◌≡◌, sym, ap}
use mathlib.Core.List.{List, [], ◌∷◌, ◌++◌}
use Prim.Native.Nat.{ℕ}
use borrow.Author.Rules.{rules}
use lib.ListN.{length}
use Rattle.tape.specs.Replies.{reply_words}
use Rattle.tape.proofs.Laws.Replies.{sixteen}
use Rattle.tape.proofs.replies.reply_words.Goals as goal

pub returns : goal.returns
unfolding reply_words
returns c =
    let r = c.args.r in
    let e : length r.words ≡ 16 = search rules in
    sym (ap (λ (ws : List ℕ). r.status ∷ (ws ++ (r.next ∷ r.ended ∷ []))) (sixteen r.words e))
