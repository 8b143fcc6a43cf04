use mathlib.Core.Path.{◌≡◌, refl, sym, ap, ◌∙◌}
use mathlib.Core.Bool.{Bool, false}
use mathlib.Core.Logic.{inl, inr}
use borrow.Author.Tests.{eq-eqb, ne_eqb}
use lib.Dec.{eqb}
use Rattle.tape.specs.Replies.{replied_each}
use Rattle.kernel.specs.declared.Kernel.{Kernel}
use Rattle.kernel.specs.declared.run.Ran.{Ran}
use Rattle.kernel.specs.Runs.{ran, ran_replies}
use Rattle.codec.specs.Bytes.{bytes_of}
use Rattle.codec.proofs.Laws.Sizes.{sized_tables, sized_after}
use Rattle.apachimo.specs.declared.Refused.{Refused}
use Rattle.apachimo.specs.Library.{run_result, run_block, run_replies}
use Rattle.apachimo.specs.Refusals.{refusal_status}
use Rattle.apachimo.proofs.Laws.Library.{run_sized, status_given}
use Rattle.apachimo.proofs.apachimo_run.Goals as goal

pub returns-in-Unsound : goal.returns-in-Unsound
unfolding run_result run_block run_replies
returns-in-Unsound c =
    let a = c.args in
    let w = c.wanted-n in
    let q = sym c.in-Err.ensures ∙ ap refusal_status c.in-Unsound.is in
    rw q record { value = (λ j. record { status = 256; carried = w.ensures j }); state_after = refl; replies_after = c.put_replies.ensures ∙ (λ j. replied_each a.replies.now (w.ensures j) (c.refusal.ensures j)) }

pub returns-in-Size : goal.returns-in-Size
unfolding run_result run_block run_replies
returns-in-Size c =
    let f : Refused → Bool = λ e. eqb (refusal_status e) 256 in
    let sound : f c.in-Err.refused ≡ false = elim c.in-Size.is [ inl e ↦ ap f e | inr e ↦ ap f e ] in
    rw (← c.in-Err.ensures, status_given c.in-Err.refused, sound)
    record { value = (λ j. record { status = c.into.ensures j; carried = 0 }); state_after = refl; replies_after = refl }

pub returns-then-ran-eq-SUCCESS : goal.returns-then-ran-eq-SUCCESS
unfolding run_result run_block run_replies
returns-then-ran-eq-SUCCESS c =
    let a = c.args in
    let z = sym c.in_default.ensures in
    let h = run_sized _ _ _ _ z in
    let e = c.run-ran.ensures.value ∙ ap (λ (k : Kernel). ran k a.tape.now a.most) (c.kernel_of-k.ensures ∙ sized_tables _ h) in
    let o = c.run-ran.ensures.replies_after ∙ ap (λ (k : Kernel). ran_replies k a.tape.now a.most a.replies.now) (c.kernel_of-k.ensures ∙ sized_tables _ h) in
    let t = sym (ap (λ (x : Ran). eqb x.status 0) e) ∙ eq-eqb c.run-ran.result.status 0 c.if-ran-eq-SUCCESS.true in
    rw (z, t) record { value = (λ j. record { status = (e j).status; carried = (e j).carried }); state_after = c.put_kernel.ensures ∙ sized_after _ _ h ∙ ap (λ (x : Ran). bytes_of x.kernel) e; replies_after = o }

pub returns-else-ran-eq-SUCCESS : goal.returns-else-ran-eq-SUCCESS
unfolding run_result run_block run_replies
returns-else-ran-eq-SUCCESS c =
    let a = c.args in
    let z = sym c.in_default.ensures in
    let h = run_sized _ _ _ _ z in
    let e = c.run-ran.ensures.value ∙ ap (λ (k : Kernel). ran k a.tape.now a.most) (c.kernel_of-k.ensures ∙ sized_tables _ h) in
    let o = c.run-ran.ensures.replies_after ∙ ap (λ (k : Kernel). ran_replies k a.tape.now a.most a.replies.now) (c.kernel_of-k.ensures ∙ sized_tables _ h) in
    let t = sym (ap (λ (x : Ran). eqb x.status 0) e) ∙ ne_eqb c.run-ran.result.status 0 c.if-ran-eq-SUCCESS.false in
    rw (z, t) record { value = (λ j. record { status = (e j).status; carried = (e j).carried }); state_after = refl; replies_after = o }
