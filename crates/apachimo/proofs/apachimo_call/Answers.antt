use mathlib.Core.Path.{refl, sym, ap, ◌∙◌}
use Prim.Native.Nat.{ℕ}
use Rattle.numbers.specs.Numbers.{nobody}
use Rattle.tape.specs.Replies.{refusal}
use Rattle.kernel.specs.declared.Kernel.{Kernel}
use Rattle.kernel.specs.declared.Answer.{Answer}
use Rattle.kernel.specs.Claims.{doneb}
use Rattle.kernel.specs.General.{call}
use Rattle.kernel.specs.Runs.{reply_of}
use Rattle.codec.specs.Bytes.{bytes_of}
use Rattle.codec.proofs.Laws.Sizes.{sized_tables, sized_after}
use Rattle.apachimo.specs.Library.{request_of, call_reply, call_block}
use Rattle.apachimo.proofs.Laws.Library.{block_sized, status_given}
use Rattle.apachimo.proofs.apachimo_call.Goals as goal

pub returns-in-Err : goal.returns-in-Err
unfolding call_reply call_block
returns-in-Err c =
    rw (← c.in-Err.ensures, status_given c.in-Err.refused)
    record { value = c.refusal.ensures ∙ ap (λ (x : ℕ). refusal x nobody) c.into.ensures; state_after = refl }

pub returns-then-is_done : goal.returns-then-is_done
unfolding request_of call_reply call_block reply_of
returns-then-is_done c =
    let a = c.args in
    let h = block_sized _ (sym c.in_default.ensures) in
    let e = c.call-answer.ensures ∙ ap (λ (k : Kernel). call k (request_of a.number a.caller a.a a.b a.c a.d) a.messages.now) (c.kernel_of-k.ensures ∙ sized_tables _ h) in
    let t = sym (ap (λ (x : Answer). doneb x.status) e) ∙ sym c.is_done.ensures ∙ c.if-is_done.true in
    rw (← c.in_default.ensures, t)
    record { value = c.from-reply.ensures ∙ ap reply_of e; state_after = c.put_answer.ensures ∙ sized_after _ _ h ∙ ap (λ (x : Answer). bytes_of x.kernel) e }

pub returns-else-is_done : goal.returns-else-is_done
unfolding request_of call_reply call_block reply_of
returns-else-is_done c =
    let a = c.args in
    let h = block_sized _ (sym c.in_default.ensures) in
    let e = c.call-answer.ensures ∙ ap (λ (k : Kernel). call k (request_of a.number a.caller a.a a.b a.c a.d) a.messages.now) (c.kernel_of-k.ensures ∙ sized_tables _ h) in
    let t = sym (ap (λ (x : Answer). doneb x.status) e) ∙ sym c.is_done.ensures ∙ c.if-is_done.false in
    rw (← c.in_default.ensures, t) record { value = c.from-reply.ensures ∙ ap reply_of e; state_after = refl }
