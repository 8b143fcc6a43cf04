-- A put where somebody waits is not refused for the count.
use mathlib.Core.Path.{◌≡◌, refl, sym, ap, ◌∙◌, subst}
use mathlib.Core.List.{List, [], ◌∷◌}
use mathlib.Core.Bool.{true, false, ◌&&◌}
use Prim.Native.Nat.{ℕ, ◌<◌, min}
use Prim.{tt}
use native.Mathlib.Omega.{arith}
use lib.Dec.{eqb, ltb}
use borrow.Author.Tests.{eqb-true}
use Rattle.std.specs.Prelude.{if◌then◌else◌, Option, Some, None}
use Rattle.lines.specs.Logic.{one_if}
use Rattle.lines.specs.Lists.{count}
use Rattle.lines.proofs.Laws.Logic.{by_test, by_choice, never, and_left, and_right}
use Rattle.scheduler.specs.Threads.{placedb}
use Rattle.scheduler.proofs.Laws.Orders.{line-count}
use Rattle.calls.specs.declared.call.Call.{Call}
use Rattle.calls.specs.Statuses as Statuses
use Rattle.calls.specs.Callers.{one_of}
use Rattle.calls.specs.Calls.{decoded, known_call}
use Rattle.calls.specs.Chains.{nobody_runsb, unless, first_of, put_refusal, ceiling_refusal}
use Rattle.calls.specs.declared.call.Request.{Request}
use Rattle.waiting.specs.Fit.{semaphore_waitb}
use Rattle.kernel.specs.declared.Kernel.{Kernel}
use Rattle.kernel.specs.declared.Answer.{Answer}
use Rattle.kernel.specs.Tables.{thread_of, runner_of, semaphore_at}
use Rattle.kernel.specs.Kinds.{place_of}
use Rattle.kernel.specs.Kinds.Kind.{semaphore}
use Rattle.kernel.specs.Sound.{Sound}
use Rattle.kernel.specs.Answers.{Outcome, answer_of, refused}
use Rattle.kernel.specs.Edits.{Success, status_of, carried_out, guarded}
use Rattle.kernel.specs.Edits.Success.{done, lifted, waits}
use Rattle.kernel.specs.Refusals.{reason_of}
use Rattle.kernel.specs.Chains.{chain_of, chained}
use Rattle.kernel.specs.General.{effect_of, step_of, step}
use Rattle.kernel.proofs.Laws.Objects
use Rattle.kernel.proofs.Laws.Refusals.{Same, same_reason}
use Rattle.kernel.proofs.Laws.Uses.{taker_may}
use Rattle.claims.specs.Lists.{Made, answer}
use Rattle.claims.specs.Rolls.{onb, givesb, waiters_of}
use Rattle.claims.proofs.Laws.Steps.{answer_is}
use Rattle.claims.proofs.Laws.Served.{waiter_takes}

-- a status that a chain does not give is not that of the call
module _ (k : Kernel) (q : Request) (messages : List ℕ) where
  -- the chain does not say that the count has reached the largest, or the ceiling
  abbrev Fine : Option Call → Type 0
  Fine (Some call) = chained k q.caller call messages ≡ Statuses.ceiling_exceeded → ⊥
  Fine None = Unit {0}

  never-status : (s : Success) → status_of s ≡ Statuses.ceiling_exceeded → ⊥
  unfolding status_of
  never-status done e = omega (arith, e)
  never-status lifted e = omega (arith, e)
  never-status waits e = omega (arith, e)

  step_fine : (x : Option Call) → Same k q.caller q.a q.b q.c q.d messages q.number x → Fine x → (step_of k q x messages).status ≡ Statuses.ceiling_exceeded → ⊥
  unfolding step_of guarded refused carried_out
  step_fine (Some call) same fine =
      by_choice (λ (o : Outcome). o.status ≡ Statuses.ceiling_exceeded → ⊥) (eqb (reason_of k q messages) 0) (carried_out k (effect_of k call messages)) (refused k (reason_of k q messages))
      (λ z. never-status (effect_of k call messages).success) (λ z e. fine (sym same ∙ e))
  step_fine None same fine = λ e. omega (arith, e)

module _ (k : Kernel) (S : Sound k) (n t : ℕ) (here : 0 < count t (waiters_of semaphore n k)) where
  placed : placedb (place_of semaphore n) (thread_of k t) ≡ true
  unfolding one_if
  placed =
      by_test (placedb (place_of semaphore n) (thread_of k t)) (λ p. p)
      (λ p. absurd (let c = line-count k.scheduler S.fit.steady t (place_of semaphore n) ∙ ap one_if p in omega (arith, here, c)))

  -- it is created, and its count is 0
  empty : ((semaphore_at k n).created && eqb (semaphore_at k n).count 0) ≡ true
  unfolding semaphore_waitb
  empty = taker_may semaphore k S.fit n t (placed, waiter_takes semaphore n k S.fit (λ z. omega (arith, z)) t placed)

  made : (semaphore_at k n).created ≡ true
  made = and_left (semaphore_at k n).created _ empty

  zero-count : (semaphore_at k n).count ≡ 0
  zero-count = eqb-true (semaphore_at k n).count 0 (and_right (semaphore_at k n).created _ empty)

  -- what the chains of both puts then say
  put_fine : put_refusal (semaphore_at k n) ≡ Statuses.ceiling_exceeded → ⊥
  unfolding put_refusal unless first_of
  put_fine e = let z = rw (made, zero-count) at e in omega (arith, z)

  ceiling_fine : (ceiling : ℕ) → ceiling_refusal (semaphore_at k n) ceiling ≡ Statuses.ceiling_exceeded → ⊥
  unfolding ceiling_refusal unless first_of
  ceiling_fine ceiling e =
      by_test (ltb 0 ceiling)
      (λ h. let z = rw (made, zero-count, h) at e in omega (arith, z))
      (λ h. let z = rw (made, zero-count, h) at e in omega (arith, z))

  module _ (m : Made) (g : givesb semaphore n m ≡ true) where
    abbrev q : Request
    q = m.request

    at : min q.a 16 ≡ n
    unfolding givesb onb
    at = let a = eqb-true q.a n (and_left (eqb q.a n) _ g) in let small = Objects.object_small semaphore k S.fit n made in omega (arith, a, small)

    chained_fine : (c : ℕ) → (c ≡ Statuses.ceiling_exceeded → ⊥) → (if nobody_runsb q.caller (runner_of k) then Statuses.nobody_runs else c) ≡ Statuses.ceiling_exceeded → ⊥
    chained_fine c f = by_choice (λ (s : ℕ). s ≡ Statuses.ceiling_exceeded → ⊥) (nobody_runsb q.caller (runner_of k)) Statuses.nobody_runs c (λ h e. omega (arith, e)) (λ h. f)

    known_fine : Fine k q m.messages (known_call q.number q.a q.b q.c q.d)
    unfolding givesb onb known_call chained chain_of
    known_fine =
        let of = and_right (eqb q.a n) _ g in
        by_test (eqb q.number 19)
        (λ e. subst (λ (i : ℕ). Fine k q m.messages (known_call i q.a q.b q.c q.d)) (sym (eqb-true q.number 19 e))
        (chained_fine _ (subst (λ (i : ℕ). put_refusal (semaphore_at k i) ≡ Statuses.ceiling_exceeded → ⊥) (sym at) put_fine)))
        (λ e. subst (λ (i : ℕ). Fine k q m.messages (known_call i q.a q.b q.c q.d)) (sym (eqb-true q.number 20 (second q.number e of)))
        (chained_fine _ (subst (λ (i : ℕ). ceiling_refusal (semaphore_at k i) q.b ≡ Statuses.ceiling_exceeded → ⊥) (sym at) (ceiling_fine q.b))))
      where
        second : (i : ℕ) → eqb i 19 ≡ false → one_of i (19 ∷ 20 ∷ []) ≡ true → eqb i 20 ≡ true
        second i e o = by_test (eqb i 20) (λ y. y) (λ y. never o (rw (e, y) refl))

    pub never_full_lem : (answer k m).status ≡ Statuses.ceiling_exceeded → ⊥
    unfolding answer_of step decoded
    never_full_lem e =
        step_fine k q m.messages (decoded q) (same_reason k q m.messages)
        (by_choice (Fine k q m.messages) (ltb 2 q.caller) None (known_call q.number q.a q.b q.c q.d) (λ u. tt) (λ u. known_fine))
        (sym (ap (λ (y : Answer). y.status) (answer_is k S m)) ∙ e)
