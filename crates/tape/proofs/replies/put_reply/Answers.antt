use mathlib.Core.Path.{◌≡◌, ap, ◌∙◌}
use Prim.Native.Nat.{◌+◌, ◌*◌}
use native.Mathlib.Omega.{arith}
use borrow.Author.Rules.{rules}
use borrow.Author.Tests.{le-leb, lt-leb}
use lib.ListN.{length}
use Rattle.std.proofs.lemmas.Slice.{put_mid-paste}
use Rattle.tape.specs.Replies.{reply_words, replied}
use Rattle.tape.proofs.replies.put_reply.Goals as goal

pub returns-then-at-replies : goal.returns-then-at-replies
unfolding replied
returns-then-at-replies c =
    let a = c.args in
    let n : length c.reply_words.result ≡ 19 = search rules in
    let e = ap length c.reply_words.ensures in
    rw (le-leb (19 * a.i + 19) (length a.replies.now) c.if-at-replies.true)
    (put_mid-paste _ _ _ _ (reply_words a.r) 19 (c.copy_from_slice.ensures.after ∙ c.reply_words.ensures) (omega arith) (omega (arith, n, e)))

pub returns-else-at-replies : goal.returns-else-at-replies
unfolding replied
returns-else-at-replies c = rw (lt-leb (19 * c.args.i + 19) (length c.args.replies.now) c.if-at-replies.false)
