-- What a priority change does, by the scheduler's claims.
use Rattle.std.specs.Prelude.{Option, Some, None}
use mathlib.Core.Path.{◌≡◌, refl, sym, ap, ◌∙◌, subst}
use mathlib.Core.List.{List}
use mathlib.Core.Bool.{true, false}
use Prim.Native.Nat.{ℕ, ◌<◌, min}
use native.Mathlib.Omega.{arith}
use lib.Dec.{eqb, ltb}
use lib.ListN.{length}
use lib.Seq.{set-get_or}
use borrow.Author.Tests.{eqb-true, eq-eqb, ltb-true}
use Rattle.lines.proofs.Laws.Logic.{by_test, by_choice, never}
use Rattle.scheduler.specs.Threads.{readyb}
use Rattle.scheduler.specs.Orders.{joined}
use Rattle.scheduler.specs.Choice.{rescheduled}
use Rattle.scheduler.specs.Changes.{priority_changed}
use Rattle.scheduler.proofs.Laws.Claims as Scheduler
use Rattle.scheduler.proofs.Laws.States.{created_small}
use Rattle.calls.specs.declared.call.Call.{Call}
use Rattle.calls.specs.Statuses as Statuses
use Rattle.calls.specs.Calls.{decoded, known_call}
use Rattle.calls.specs.Chains.{priority_refusal}
use Rattle.calls.specs.Held.{one_word}
use Rattle.calls.specs.declared.call.Request.{Request}
use Rattle.kernel.specs.declared.Kernel.{Kernel}
use Rattle.kernel.specs.declared.Answer.{Answer}
use Rattle.kernel.specs.Tables.{thread_of, held_at, with_scheduler, with_held}
use Rattle.kernel.specs.Sound.{Sound}
use Rattle.kernel.specs.Answers.{answer_of, refused}
use Rattle.kernel.specs.Edits.{record_by, held_by, frontb, edited, applied, gathered, endsb, carried_out, guarded}
use Rattle.kernel.specs.Threads.{priority_effect}
use Rattle.kernel.specs.Refusals.{reason_of}
use Rattle.kernel.specs.Chains.{chain_of, chained}
use Rattle.kernel.specs.General.{effect_of, step_of, step}
use Rattle.kernel.proofs.Laws.Answers.{second_none}
use Rattle.kernel.proofs.Laws.Effects.{is_true}
use Rattle.kernel.proofs.Laws.Refusals.{not-refused, Same, same_reason}
use Rattle.claims.specs.Lists.{Made, answer}
use Rattle.claims.specs.Rolls.{succeedsb}
use Rattle.claims.specs.Priorities.{PriorityAnswer, PriorityClaim}
use Rattle.claims.proofs.Laws.Steps.{answer_is}

-- ---- a call that is done
module _ (k : Kernel) (q : Request) (messages : List ℕ) where
  -- its chain finds no reason, and its effect is carried out
  abbrev Done : Option Call → Type 0
  Done (Some call) = (chained k q.caller call messages ≡ 0) × (step_of k q (Some call) messages ≡ carried_out k (effect_of k call messages))
  Done None = ⊥

  step_done : (x : Option Call) → Same k q.caller q.a q.b q.c q.d messages q.number x → (step_of k q x messages).status ≡ 0 → Done x
  unfolding step_of guarded refused
  step_done (Some call) same e =
      by_test (eqb (reason_of k q messages) 0)
      (λ z. (sym same ∙ eqb-true (reason_of k q messages) 0 z, rw z))
      (λ z. never (eq-eqb (reason_of k q messages) 0 (rw z at e)) z)
  step_done None same e = omega (arith, e)

-- ---- what a priority change makes of the threads and orders
module _ (k : Kernel) (t p : ℕ) where
  changes : (carried_out k (priority_effect k t p)).kernel.scheduler ≡ rescheduled (priority_changed k.scheduler t p) false
  unfolding carried_out applied edited record_by held_by frontb joined with_held with_scheduler priority_effect priority_changed
  changes = by_test (readyb (thread_of k t)) (λ r. rw r) (λ r. rw r)

  rest_kept : (carried_out k (priority_effect k t p)).kernel ≡ with_scheduler k (carried_out k (priority_effect k t p)).kernel.scheduler
  unfolding carried_out applied edited record_by held_by frontb joined with_held with_scheduler held_at priority_effect
  rest_kept = by_test (readyb (thread_of k t)) (λ r. rw (r, set-get_or) refl) (λ r. rw r refl)

  answered-words : (carried_out k (priority_effect k t p)).words ≡ one_word (thread_of k t).priority
  unfolding carried_out priority_effect
  answered-words = refl

  nobody-ended : length (carried_out k (priority_effect k t p)).ended ≡ 0
  unfolding carried_out gathered endsb priority_effect
  nobody-ended = by_test (readyb (thread_of k t)) (λ r. rw r) (λ r. rw r)

module _ (k : Kernel) (S : Sound k) (m : Made) (number : m.request.number ≡ 11) (done : succeedsb (answer k m) ≡ true) where
  abbrev q : Request
  q = m.request

  -- no reason is found, and the effect is carried out
  abbrev Found : Option Call → Type 0
  Found x = (priority_refusal (thread_of k (min q.a 32)) q.b q.caller ≡ 0) × (step_of k q x m.messages ≡ carried_out k (priority_effect k (min q.a 32) q.b))

  known_found : Done k q m.messages (known_call q.number q.a q.b q.c q.d) → Found (known_call q.number q.a q.b q.c q.d)
  unfolding known_call effect_of chained chain_of
  known_found =
      subst (λ (i : ℕ). Done k q m.messages (known_call i q.a q.b q.c q.d) → Found (known_call i q.a q.b q.c q.d)) (sym number)
      (λ d. (not-refused k q.caller _ d.0, d.1))

  found : Found (decoded q)
  unfolding succeedsb answer_of step decoded
  found =
      by_choice (λ (x : Option Call). Done k q m.messages x → Found x) (ltb 2 q.caller) None (known_call q.number q.a q.b q.c q.d) (λ u d. absurd d) (λ u. known_found)
      (step_done k q m.messages (decoded q) (same_reason k q m.messages) (sym (ap (λ (y : Answer). y.status) (answer_is k S m)) ∙ eqb-true (answer k m).status 0 done))

  created : (thread_of k (min q.a 32)).created ≡ true
  unfolding priority_refusal
  created = is_true _ Statuses.thread_error _ (omega arith) found.0

  low : q.b < 32
  unfolding priority_refusal
  low = ltb-true q.b 32 (is_true (ltb q.b 32) Statuses.priority_error _ (omega arith) (second_none _ _ found.0))

  small : min q.a 32 < 32
  small = created_small k.scheduler S.fit.steady (min q.a 32) created

  answered : answer k m ≡ answer_of (carried_out k (priority_effect k (min q.a 32) q.b))
  unfolding step
  answered = answer_is k S m ∙ ap answer_of found.1

  changed : PriorityAnswer k (min q.a 32) q.b (answer_of (carried_out k (priority_effect k (min q.a 32) q.b)))
  unfolding answer_of
  changed =
      record {
        words = answered-words k (min q.a 32) q.b;
        ended = nobody-ended k (min q.a 32) q.b;
        rest = rest_kept k (min q.a 32) q.b;
        thread = rw (changes k (min q.a 32) q.b) ((Scheduler.claims).after_priority_change k.scheduler (record { steady = S.fit.steady; runs = S.runs }) (min q.a 32) q.b small created low);
        next = refl;
      }

  pub priority_changed_lem : PriorityAnswer k q.a q.b (answer k m)
  priority_changed_lem =
      let e : min q.a 32 ≡ q.a = (let l = small in omega (arith, l)) in
      subst (λ (t : ℕ). PriorityAnswer k t q.b (answer k m)) e (rw answered changed)

pub priorities : PriorityClaim
priorities = priority_changed_lem
