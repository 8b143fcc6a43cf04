use Rattle.std.proofs.Common.{List, [], ◌∷◌, ℕ, ◌<◌, ◌≤◌, length, set, subst, sym}
use Rattle.output.specs.Texts.{Put}
use Rattle.output.proofs.Laws.Texts.{byte_room, byte_full, byte_none}
use Rattle.output.proofs.put_byte.Goals as goal

pub returns-then-at-buf : goal.returns-then-at-buf
returns-then-at-buf g c = byte_room c.args.buf.now c.args.at c.args.b c.if-at-buf.true

pub returns-then-buf-gt0 : goal.returns-then-buf-gt0
returns-then-buf-gt0 g c =
    let e = c.flush.ensures.1 in
    let l : 0 < length c.args.buf.now = subst (λ (u : List ℕ). 0 < length u) e c.if-buf-gt0.true in
    subst (λ (u : List ℕ). Put c.args.buf.now c.args.at (c.args.b ∷ []) (set u 0 c.args.b) 1) (sym e)
    (byte_full c.args.buf.now c.args.at c.args.b c.if-at-buf.false l)

pub returns-else-buf-gt0 : goal.returns-else-buf-gt0
returns-else-buf-gt0 g c =
    let e = c.flush.ensures.1 in
    let l : length c.args.buf.now ≤ 0 = subst (λ (u : List ℕ). length u ≤ 0) e c.if-buf-gt0.false in
    subst (λ (u : List ℕ). Put c.args.buf.now c.args.at (c.args.b ∷ []) u 0) (sym e) (byte_none c.args.buf.now c.args.at c.args.b l)
