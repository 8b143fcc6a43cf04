use Rattle.std.proofs.Common.{◌≡◌, ℕ, ◌*◌, ◌++◌, length, take, ap, ◌∙◌, rules}
use native.Mathlib.Nat.{mul_comm}
use lib.Seq.{take_all}
use Rattle.objects.specs.Queues.{used_words, stored_words}
use Rattle.output.specs.Texts.{decimal_of}
use Rattle.output.proofs.Laws.Texts.{puts-append}
use Rattle.text.specs.Texts.{each_text, separator_text}
use Rattle.text.specs.Objects.{word_separator, stored_text}
use Rattle.text.proofs.Laws.Texts.{puts_more, take_least}
use Rattle.text.proofs.object_tables.put_stored.Goals as goal

pub loop-i-init : goal.loop-i-init
unfolding each_text
loop-i-init g c = c.put_nothing.ensures

pub loop-i-preserved : goal.loop-i-preserved
loop-i-preserved g c =
    let q = c.args.q.now in
    puts_more (λ (m w : ℕ). separator_text m (word_separator q.words m) ++ decimal_of w) (take c.min-n.result q.store) 0 c.loop-i-test.true
    c.loop-i.invariant
    (puts-append (rw (c.separator.ensures, c.from-words.ensures) at c.put_separator.ensures) (rw c.from-in-loop-i.ensures at c.put_decimal.ensures))

pub returns : goal.returns
unfolding stored_text stored_words used_words
returns g c =
    let q = c.args.q.now in
    let l : length q.store ≡ 64 = search rules in
    let e : take c.min-n.result q.store ≡ stored_words q =
    rw (c.min-n.ensures, c.from-words.ensures, c.from.ensures) (take_least (q.words * q.stored) 64 q.store l)
    ∙ ap (λ (k : ℕ). take k q.store) (mul_comm q.words q.stored) in
    rw (take_all c.loop-i.i (take c.min-n.result q.store) c.loop-i-test.false, e) at c.loop-i.invariant
