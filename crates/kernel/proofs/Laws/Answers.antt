-- Laws of answers and of reasons to refuse.
use mathlib.Core.Path.{◌≡◌, refl, sym, ap, ◌∙◌}
use mathlib.Core.Bool.{Bool, true, false}
use Prim.Native.Nat.{ℕ, ◌≤◌, ◌<◌}
use native.Mathlib.Omega.{arith}
use lib.ListN.{length}
use lib.Seq.{set_out}
use lib.Dec.{eqb, ltb}
use borrow.Author.Tests.{eq-eqb, eqb-true, ne_eqb, ltb-true}
use Rattle.std.specs.Prelude.{if◌then◌else◌}
use Rattle.lines.proofs.Laws.Logic.{by_test}
use Rattle.objects.specs.declared.semaphore.Semaphore.{Semaphore}
use Rattle.objects.specs.declared.queue.Queue.{Queue}
use Rattle.objects.specs.Semaphores.{largest_count}
use Rattle.calls.specs.declared.held.Held.{Held}
use Rattle.calls.specs.Statuses.{ceiling_exceeded}
use Rattle.calls.specs.Chains.{unless, first_of, put_refusal, ceiling_refusal}
use Rattle.kernel.specs.declared.Kernel.{Kernel}
use Rattle.kernel.specs.Tables.{with_held, with_queue}
use Rattle.kernel.specs.Answers.{refused}
use Rattle.kernel.specs.Edits.{Effect, carried_out, guarded}

-- ---- refused or carried out
module _ (k : Kernel) (reason : ℕ) (e : Effect) where
  pub is-refused : (reason ≡ 0 → ⊥) → guarded k reason e ≡ refused k reason
  unfolding guarded
  is-refused n = ap (λ (b : Bool). if b then carried_out k e else refused k reason) (ne_eqb reason 0 n)

  pub is_carried : reason ≡ 0 → guarded k reason e ≡ carried_out k e
  unfolding guarded
  is_carried z = ap (λ (b : Bool). if b then carried_out k e else refused k reason) (eq-eqb reason 0 z)

-- ---- what the lack of a reason says
pub first_none : (a b : ℕ) → first_of a b ≡ 0 → a ≡ 0
unfolding first_of
first_none a b e =
    by_test (eqb a 0)
    (λ q. eqb-zero a q)
    (λ q. sym (ap (λ (x : Bool). if x then b else a) q) ∙ e)
  where
    eqb-zero : (x : ℕ) → eqb x 0 ≡ true → x ≡ 0
    eqb-zero x q = eqb-true x 0 q

pub second_none : (a b : ℕ) → first_of a b ≡ 0 → b ≡ 0
unfolding first_of
second_none a b e = sym (ap (λ (x : Bool). if x then b else a) (eq-eqb a 0 (first_none a b e))) ∙ e

pub unless_none : (b : Bool) (status : ℕ) → 0 < status → unless b status ≡ 0 → b ≡ true
unfolding unless
unless_none true status h e = refl
unless_none false status h e = absurd (let z : status ≡ 0 = e in omega (arith, h, z))

-- a put that is not refused, with or without a ceiling of 32 bits, finds room in the count
pub put_low : (x : Semaphore) → put_refusal x ≡ 0 → x.count < largest_count
unfolding put_refusal
put_low x z = ltb-true x.count largest_count (unless_none _ ceiling_exceeded (omega arith) (second_none _ _ z))

pub ceiling_low : (x : Semaphore) (ceiling : ℕ) → ceiling < 4294967296 → ceiling_refusal x ceiling ≡ 0 → x.count < largest_count
unfolding ceiling_refusal
ceiling_low x ceiling h z =
    let l = ltb-true x.count ceiling (unless_none (ltb x.count ceiling) ceiling_exceeded (omega arith) (second_none _ _ (second_none _ _ z))) in
    omega (arith, h, l)

-- ---- past the table nothing is stored
pub held_out : (k : Kernel) (t : ℕ) (h : Held) → length k.held ≡ 32 → 32 ≤ t → with_held k t h ≡ k
unfolding with_held
held_out k t h e o = rw (set_out k.held t h (omega (arith, e, o)))

-- a queue past the table
pub queue_out : (k : Kernel) (n : ℕ) (q : Queue) → length k.queues ≡ 8 → 8 ≤ n → with_queue k n q ≡ k
unfolding with_queue
queue_out k n q e o = rw (set_out k.queues n q (omega (arith, e, o)))
