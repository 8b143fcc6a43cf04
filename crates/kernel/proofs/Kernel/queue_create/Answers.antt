use mathlib.Core.Path.{◌≡◌, ◌∙◌}
use native.Mathlib.Omega.{arith}
use Rattle.objects.proofs.Laws.Queues.{storage_byte, words_byte}
use Rattle.objects.specs.Queues.{empty_queue, sizes_fitb}
use Rattle.calls.specs.Chains.{queue_create_refusal}
use Rattle.kernel.specs.Answers.{answer_of}
use Rattle.kernel.specs.Edits.{applied, carried_out, edited, gathered, status_of}
use Rattle.kernel.specs.Effects.{store_effect}
use Rattle.kernel.specs.Loops.{answered}
use Rattle.kernel.specs.Tables.{queue_at, with_queue, with_scheduler}
use Rattle.kernel.proofs.Laws.Answers.{first_none, is_carried, second_none, unless_none}
use Rattle.kernel.proofs.Laws.Arms.{refused_for}
use Rattle.kernel.proofs.Kernel.queue_create.Goals as goal

pub returns-in-Err : goal.returns-in-Err
unfolding queue_at
returns-in-Err c = refused_for _ _ _ c.refused.ensures c.from.ensures (cc c.in-Err.ensures)

pub returns : goal.returns
unfolding carried_out applied gathered status_of answer_of answered with_scheduler edited store_effect queue_create_refusal with_queue queue_at
returns c =
    let a = c.args in
    let z : queue_create_refusal a.n.0 (queue_at a.self a.n.0) a.words a.storage a.caller ≡ 0 = cc c.in_default.ensures in
    let f = unless_none (sizes_fitb a.words a.storage) 5 (omega arith) (first_none _ _ (second_none _ _ z)) in
    let x : c.of.result ≡ empty_queue a.words a.storage =
    c.of.ensures ∙ (λ j. empty_queue (words_byte a.words a.storage f j) (storage_byte a.words a.storage f j)) in
    rw is_carried (c.carried.ensures ∙ rw (c.store.ensures, x))
