use mathlib.Core.Path.{sym, ◌∙◌}
use Rattle.objects.proofs.Laws.Queues.{empty_stained, empty_limits, empty-zero}
use Rattle.objects.proofs.queue.Queue.is_fit_empty.Goals as goal

pub returns-then-not-is_empty : goal.returns-then-not-is_empty
returns-then-not-is_empty c =
    let m = c.is_empty in
    rw (sym m.ensures ∙ c.if-not-is_empty.true)

pub returns-then-not-is_blank : goal.returns-then-not-is_blank
returns-then-not-is_blank c =
    let q = c.args.self in
    let m = c.is_empty in
    let b = c.is_blank in
    let w = sym m.ensures ∙ c.if-not-is_empty.false in
    let z = sym b.ensures ∙ c.if-not-is_blank.true in
    rw w (sym (empty_stained q w z))

pub returns-then-self : goal.returns-then-self
returns-then-self c =
    let q = c.args.self in
    let m = c.is_empty in
    let b = c.is_blank in
    let w = sym m.ensures ∙ c.if-not-is_empty.false in
    let z = sym b.ensures ∙ c.if-not-is_blank.false in
    rw w (c.is_limited.ensures ∙ sym (empty_limits q w z c.if-self.true))

pub returns-else-self : goal.returns-else-self
returns-else-self c =
    let q = c.args.self in
    let m = c.is_empty in
    let b = c.is_blank in
    let w = sym m.ensures ∙ c.if-not-is_empty.false in
    let z = sym b.ensures ∙ c.if-not-is_blank.false in
    rw w (sym (empty-zero q w z c.if-self.false))
