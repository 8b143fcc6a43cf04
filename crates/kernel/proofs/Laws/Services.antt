-- Every call, by its number: what it does.
use mathlib.Core.Path.{◌≡◌, refl, sym, ap, ◌∙◌, subst}
use mathlib.Core.List.{List}
use mathlib.Core.Bool.{Bool, true, false, ◌&&◌, not}
use Prim.Native.Nat.{ℕ, ◌<◌, min}
use lib.Dec.{eqb, ltb}
use borrow.Author.Tests.{ltb-true, not-false}
use Rattle.std.specs.Prelude.{if◌then◌else◌, Option, Some, None}
use Rattle.lines.proofs.Laws.Logic.{by_choice}
use Rattle.calls.specs.declared.call.Call.{Call}
use Rattle.calls.specs.Calls.{decoded, known_call}
use Rattle.calls.specs.Statuses as Statuses
use Rattle.calls.specs.declared.call.Request.{Request}
use Rattle.calls.proofs.Laws.Calls.{by_number}
use Rattle.kernel.specs.declared.Kernel.{Kernel}
use Rattle.kernel.specs.Tables.{runner_of}
use Rattle.kernel.specs.Answers.{Outcome, answer_of, refused}
use Rattle.kernel.specs.Sound.{Sound}
use Rattle.kernel.specs.Roles.{limit_of}
use Rattle.kernel.specs.Edits.{guarded}
use Rattle.kernel.specs.Refusals.{reason_of}
use Rattle.calls.specs.Chains.{nobody_runsb}
use Rattle.kernel.specs.Chains.{chain_of, chained}
use Rattle.kernel.specs.General.{effect_of, step_of, step}
use Rattle.kernel.specs.Claims.{doneb, Unchanged}
use Rattle.kernel.proofs.Laws.Refusals.{Same, same_reason, reason_known}
use Rattle.kernel.proofs.Laws.Ticks.{one_pass, tick_same}
use Rattle.kernel.proofs.Laws.Does
use Rattle.kernel.proofs.Laws.Calls.Threads
use Rattle.kernel.proofs.Laws.Calls.Clock
use Rattle.kernel.proofs.Laws.Calls.Semaphores
use Rattle.kernel.proofs.Laws.Calls.Queues
use Rattle.kernel.proofs.Laws.Calls.Groups
use Rattle.kernel.proofs.Laws.Calls.Pools

module _ (k : Kernel) (caller a b c d : ℕ) (messages : List ℕ) where
  -- a known call of number n does what its theorem says
  abbrev By : ℕ → Option Call → Type 0
  By n (Some call) = Does.Acts k caller n (min a (limit_of n)) b c messages (chain_of k caller call messages) (effect_of k call messages)
  By n None = Unit {0}

  -- the calls one by one: the only place in these laws that goes through all of them
  known-does : (n : ℕ) → By n (known_call n a b c d)
  unfolding known_call chain_of effect_of limit_of
  known-does n =
      by_number By n 1 _ _ (Does.itself (Threads.create-does k b c messages caller (min a 32) b c d)) (
      by_number By n 2 _ _ (Does.itself (Threads.delete-does k b c messages caller (min a 32))) (
      by_number By n 3 _ _ (Does.itself (Threads.resume-does k b c messages caller (min a 32))) (
      by_number By n 4 _ _ (Does.itself (Threads.suspend-does k b c messages caller (min a 32))) (
      by_number By n 5 _ _ (Does.itself (Threads.terminate-does k b c messages caller (min a 32))) (
      by_number By n 6 _ _ (Does.itself (Threads.reset-does k b c messages caller (min a 32))) (
      by_number By n 7 _ _ (Does.itself (Threads.finish-does k b c messages caller (min a 32))) (
      by_number By n 8 _ _ (Does.itself (Threads.relinquish-does k b c messages caller (min a 32))) (
      by_number By n 9 _ _ (Does.itself (Threads.sleep-does k b c messages caller (min a 32) a)) (
      by_number By n 10 _ _ (Does.itself (Threads.abort-does k b c messages caller (min a 32))) (
      by_number By n 11 _ _ (Does.itself (Threads.priority-does k b c messages caller (min a 32) b)) (
      by_number By n 12 _ _ (Does.itself (Threads.preemption-does k b c messages caller (min a 32) b)) (
      by_number By n 13 _ _ (Does.itself (Clock.get-does k b c messages caller (min a 32))) (
      by_number By n 14 _ _ (Does.itself (Clock.set_does k b c messages caller (min a 32) a)) (
      by_number By n 15 _ _ (record { other = one_pass k; same = tick_same k; does = Clock.tick-does k b c messages caller (min a 32) }) (
      by_number By n 16 _ _ (Does.itself (Semaphores.create-does k b c messages caller (min a 16))) (
      by_number By n 17 _ _ (Does.itself (Semaphores.delete-does k b c messages caller (min a 16))) (
      by_number By n 18 _ _ (Does.itself (Semaphores.get-does k b c messages caller (min a 16) b)) (
      by_number By n 19 _ _ (Does.itself (Semaphores.put-does k b c messages caller (min a 16))) (
      by_number By n 20 _ _ (Does.itself (Semaphores.ceiling-does k b c messages caller (min a 16) b)) (
      by_number By n 21 _ _ (Does.itself (Semaphores.prioritize-does k b c messages caller (min a 16))) (
      by_number By n 22 _ _ (Does.itself (Queues.create-does k b c messages caller (min a 8))) (
      by_number By n 23 _ _ (Does.itself (Queues.delete-does k b c messages caller (min a 8))) (
      by_number By n 24 _ _ (Does.itself (Queues.send-does k b c messages caller (min a 8) b)) (
      by_number By n 25 _ _ (Does.itself (Queues.front-does k b c messages caller (min a 8) b)) (
      by_number By n 26 _ _ (Does.itself (Queues.receive-does k b c messages caller (min a 8) b)) (
      by_number By n 27 _ _ (Does.itself (Queues.flush-does k b c messages caller (min a 8))) (
      by_number By n 28 _ _ (Does.itself (Queues.prioritize-does k b c messages caller (min a 8))) (
      by_number By n 29 _ _ (Does.itself (Groups.create-does k b c messages caller (min a 8))) (
      by_number By n 30 _ _ (Does.itself (Groups.delete-does k b c messages caller (min a 8))) (
      by_number By n 31 _ _ (Does.itself (Groups.set_does k b c messages caller (min a 8) b c)) (
      by_number By n 32 _ _ (Does.itself (Groups.get-does k b c messages caller (min a 8) b c d)) (
      by_number By n 33 _ _ (Does.itself (Pools.create-does k b c messages caller (min a 4))) (
      by_number By n 34 _ _ (Does.itself (Pools.delete-does k b c messages caller (min a 4))) (
      by_number By n 35 _ _ (Does.itself (Pools.allocate-does k b c messages caller (min a 4) b)) (
      by_number By n 36 _ _ (Does.itself (Pools.release-does k b c messages caller (min a 4))) (
      by_number By n 37 _ _ (Does.itself (Pools.prioritize-does k b c messages caller (min a 4))) (
      by_number By n 38 _ _ (Does.itself (Threads.state-does k b c messages caller (min a 32))) (
      by_number By n 39 _ _ (Does.itself (Threads.words-does k b c messages caller (min a 32))) (
      tt)))))))))))))))))))))))))))))))))))))))

  decoded-does : (n : ℕ) → By n (if ltb 2 caller then None else known_call n a b c d)
  decoded-does n = by_choice (By n) (ltb 2 caller) None (known_call n a b c d) (λ e. tt) (λ e. known-does n)

-- who is not refused for want of a runner has one, where a thread calls
runner_there : (k : Kernel) (caller : ℕ) → nobody_runsb caller (runner_of k) ≡ false → eqb caller 2 ≡ true → runner_of k < 32
runner_there k caller e c = ltb-true (runner_of k) 32 (not-false (ltb (runner_of k) 32) (sym (ap (λ (b : Bool). b && not (ltb (runner_of k) 32)) c) ∙ e))

-- ---- any request
module _ (k : Kernel) (q : Request) (messages : List ℕ) where
  -- what a step does is what the effect that the table lets pass does
  abbrev Stepped : Outcome → Type 0
  Stepped = Does.Step k q.number (min q.a (limit_of q.number)) q.b q.c messages

  request-does : Sound k → (x : Option Call) → Same k q.caller q.a q.b q.c q.d messages q.number x
      → By k q.caller q.a q.b q.c q.d messages q.number x → Stepped (step_of k q x messages)
  unfolding step_of chained guarded
  request-does S (Some call) e D =
      subst (λ (r : ℕ). Stepped (guarded k r (effect_of k call messages))) (sym e)
      (by_choice (λ (r : ℕ). Stepped (guarded k r (effect_of k call messages))) (nobody_runsb q.caller (runner_of k)) Statuses.nobody_runs (chain_of k q.caller call messages)
      (λ e. Does.refuses Statuses.nobody_runs refl refl)
      (λ e. Does.step-of k S q.caller q.number (min q.a (limit_of q.number)) q.b q.c messages (chain_of k q.caller call messages) (effect_of k call messages) (runner_there k q.caller e) D))
  request-does S None e D = Does.refuses Statuses.unknown_call refl refl

  -- on sound tables a call is refused, or carries out a proper effect
  pub step-does : Sound k → Stepped (step k q messages)
  unfolding step decoded
  step-does S = request-does S (decoded q) (same_reason k q messages) (decoded-does k q.caller q.a q.b q.c q.d messages q.number)

  -- on any tables a refused call changes nothing
  request-refused : (x : Option Call) → doneb (step_of k q x messages).status ≡ false → Unchanged k (answer_of (step_of k q x messages))
  unfolding step_of refused answer_of
  request-refused (Some call) = Does.guarded-refused k (reason_of k q messages) (effect_of k call messages) (reason_known k q messages)
  request-refused None = λ u. record { kernel = refl; words = refl; ended = refl; next = refl }

  pub step-refused : doneb (step k q messages).status ≡ false → Unchanged k (answer_of (step k q messages))
  unfolding step
  step-refused = request-refused (decoded q)

  -- and a step gives no 0x100
  request_known : (x : Option Call) → eqb (step_of k q x messages).status Statuses.tables_unsound ≡ false
  unfolding step_of refused
  request_known (Some call) = Does.guarded_known k (reason_of k q messages) (effect_of k call messages) (reason_known k q messages)
  request_known None = refl

  pub step_known : eqb (step k q messages).status Statuses.tables_unsound ≡ false
  unfolding step
  step_known = request_known (decoded q)
