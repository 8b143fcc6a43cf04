use mathlib.Core.Path.{◌≡◌, sym, ap, ◌∙◌}
use Prim.Native.Nat.{◌+◌, ◌*◌}
use native.Mathlib.Omega.{arith}
use lib.ListN.{get_or}
use lib.Seq.{take_all}
use Rattle.lines.specs.Lines.{pad}
use Rattle.lines.proofs.Laws.Lines.{pad_none, pad_on}
use Rattle.tape.specs.Tapes.{word_at, records_end, tape_end, count_of, message_at, messages_of}
use Rattle.tape.proofs.Laws.Tapes.{messages_most, length-messages, message_in_lem}
use Rattle.tape.proofs.messages.Goals as goal

pub loop-i-init : goal.loop-i-init
loop-i-init c = pad_none 4000

pub bounds-words-i : goal.bounds-words-i
bounds-words-i c = omega (arith, c.message_count-m.ensures, messages_most c.args.bytes.now)

pub loop-i-preserved : goal.loop-i-preserved
unfolding message_at tape_end records_end
loop-i-preserved c =
    let l = c.loop-i in
    let a = c.args in
    let s = messages_of a.bytes.now in
    let g = c.message_count-m.ensures in
    let at : c.records_end-start.result + 4 * l.i ≡ tape_end (count_of a.bytes.now) l.i = omega (arith, c.records_end-start.ensures, c.count-n.ensures) in
    let v : c.word.result ≡ get_or s l.i 0 =
    c.word.ensures ∙ ap (word_at a.bytes.now) at ∙ sym (message_in_lem a.bytes.now l.i (omega (arith, g))) in
    rw (v, l.invariant) (pad_on 4000 s l.i)

pub returns : goal.returns
returns c =
    let l = c.loop-i in
    let s = messages_of c.args.bytes.now in
    let k = length-messages c.args.bytes.now in
    l.invariant ∙ ap (pad 4000) (take_all l.i s (omega (arith, k, c.message_count-m.ensures)))
