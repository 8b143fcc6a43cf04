-- Laws of the table of refusals: of every known call it says what the code's chain says.
use mathlib.Core.Path.{◌≡◌, refl, sym, ap, ◌∙◌}
use mathlib.Core.List.{List, [], ◌∷◌}
use mathlib.Core.Bool.{Bool, true, false, ◌&&◌, ◌||◌, not}
use Prim.Native.Nat.{ℕ, ◌+◌, ◌<◌, min}
use native.Mathlib.Omega.{arith}
use lib.Dec.{eqb, ltb, leb}
use lib.ListN.{length}
use borrow.Author.Tests.{eqb-false, ltb-true, ltb-false, le-leb, lt-leb, ne_eqb, eq-eqb, not-true}
use Rattle.std.specs.Prelude.{if◌then◌else◌, Option, Some, None}
use Rattle.lines.proofs.Laws.Logic.{by_test, by_choice, and_left, and_right}
use Rattle.scheduler.specs.Threads.{finishedb}
use Rattle.calls.specs.declared.call.Call.{Call}
use Rattle.calls.specs.Callers.{allowedb}
use Rattle.calls.specs.Calls.{decoded, known_call}
use Rattle.calls.specs.Chains
use Rattle.calls.specs.Statuses as Statuses
use Rattle.calls.specs.declared.call.Request.{Request}
use Rattle.calls.proofs.Laws.Calls.{by_number}
use Rattle.kernel.specs.declared.Kernel.{Kernel}
use Rattle.objects.specs.Semaphores.{largest_count}
use Rattle.objects.specs.Queues.{emptyb, roomb}
use Rattle.objects.specs.Groups.{metb}
use Rattle.kernel.specs.Tables.{thread_of, runner_of, semaphore_at, queue_at, group_at, pool_at}
use Rattle.kernel.specs.Roles.{limit_of}
use Rattle.kernel.specs.Refusals.{Reason, refusals, first_reason, reason_of}
use Rattle.calls.specs.Chains.{nobody_runsb}
use Rattle.kernel.specs.Chains.{chain_of, chained}

-- ---- what a row says, and what the chain's link tests
not-not : (x : Bool) → x ≡ not (not x)
not-not true = refl
not-not false = refl

or-not : (a b : Bool) → (not a || b) ≡ not (a && not b)
or-not true b = not-not b
or-not false b = refl

neither : (a b : Bool) → (not a && not b) ≡ not (a || b)
neither true b = refl
neither false b = refl

at_least : (n p : ℕ) → leb n p ≡ not (ltb p n)
at_least n p =
    by_test (ltb p n)
    (λ t. lt-leb n p (ltb-true p n t) ∙ sym (ap not t))
    (λ f. le-leb n p (ltb-false p n f) ∙ sym (ap not f))

above : (n p : ℕ) → ltb n p ≡ not (leb p n)
above n p =
    by_test (ltb n p)
    (λ t. t ∙ sym (ap not (lt-leb p n (ltb-true n p t))))
    (λ f. f ∙ sym (ap not (le-leb p n (ltb-false n p f))))

zero_is : (n : ℕ) → eqb n 0 ≡ not (ltb 0 n)
zero_is n =
    by_test (ltb 0 n)
    (λ t. let h = ltb-true 0 n t in ne_eqb n 0 (λ e. omega (arith, e, h)) ∙ sym (ap not t))
    (λ f. let h = ltb-false 0 n f in eq-eqb n 0 (omega (arith, h)) ∙ sym (ap not f))

none_there : (wait : ℕ) (none some : Bool) → none ≡ not some → (eqb wait 0 && none) ≡ not (ltb 0 wait || some)
none_there wait none some e =
    (λ i. zero_is wait i && e i) ∙ neither (ltb 0 wait) some

one_is : (n : ℕ) → n < 2 → eqb n 0 ≡ false → n ≡ 1
one_is n h z =
    by_test (ltb 0 n)
    (λ t. let p = ltb-true 0 n t in omega (arith, h, p))
    (λ f. absurd (eqb-false n 0 z (let p = ltb-false 0 n f in omega (arith, p))))

start_is : (n : ℕ) → not (eqb n 0 || eqb n 1) ≡ not (ltb n 2)
start_is n =
    ap not
    (by_test (ltb n 2)
    (λ t. (let h = ltb-true n 2 t in
    by_test (eqb n 0)
    (λ z. ap (λ (x : Bool). x || eqb n 1) z)
    (λ z. let o : n ≡ 1 = one_is n h z in ap (λ (x : Bool). x || eqb n 1) z ∙ eq-eqb n 1 o)) ∙ sym t)
    (λ f. let h = ltb-false n 2 f in
    (λ i. ne_eqb n 0 (λ e. omega (arith, e, h)) i || ne_eqb n 1 (λ e. omega (arith, e, h)) i) ∙ sym f))

-- ---- one row and one link
link_at : (fine : Bool) (s r : ℕ) → eqb s 0 ≡ false → (if not fine then s else r) ≡ Chains.first_of (Chains.unless fine s) r
unfolding Chains.first_of Chains.unless
link_at true s r z = refl
link_at false s r z = rw (z) refl

link : (given fine : Bool) (s r c : ℕ) → given ≡ not fine → eqb s 0 ≡ false → r ≡ c → (if given then s else r) ≡ Chains.first_of (Chains.unless fine s) c
link given fine s r c e z q = ap (λ (g : Bool). if g then s else r) e ∙ link_at fine s r z ∙ ap (Chains.first_of (Chains.unless fine s)) q

last-at : (fine : Bool) (s : ℕ) → (if not fine then s else 0) ≡ Chains.unless fine s
unfolding Chains.unless
last-at true s = refl
last-at false s = refl

last : (given fine : Bool) (s : ℕ) → given ≡ not fine → (if given then s else 0) ≡ Chains.unless fine s
last given fine s e = ap (λ (g : Bool). if g then s else 0) e ∙ last-at fine s

-- where a call is not refused, its own chain gives no reason
pub not-refused : (k : Kernel) (caller c : ℕ) → (if nobody_runsb caller (runner_of k) then Statuses.nobody_runs else c) ≡ 0 → c ≡ 0
not-refused k caller c = by_choice (λ (s : ℕ). s ≡ 0 → c ≡ 0) (nobody_runsb caller (runner_of k)) Statuses.nobody_runs c (λ h e. absurd (omega (arith, e))) (λ h e. e)

-- ---- the calls one by one
module _ (k : Kernel) (caller a b c d : ℕ) (messages : List ℕ) where
  abbrev request : ℕ → Request
  request n = record { number = n; caller = caller; a = a; b = b; c = c; d = d }

  -- the table and the chain give the same reason
  abbrev pub Same : ℕ → Option Call → Type 0
  Same n (Some call) = reason_of k (request n) messages ≡ chained k caller call messages
  Same n None = Unit {0}

  -- the first row is the same for all
  known : (r c : ℕ) → r ≡ c → (if nobody_runsb caller (runner_of k) then Statuses.nobody_runs else r) ≡ (if nobody_runsb caller (runner_of k) then Statuses.nobody_runs else c)
  known r c e = ap (λ (x : ℕ). if nobody_runsb caller (runner_of k) then Statuses.nobody_runs else x) e

  known_same : (n : ℕ) → Same n (known_call n a b c d)
  unfolding known_call reason_of first_reason refusals chained chain_of limit_of allowedb Chains.create_refusal Chains.delete_refusal Chains.resume_refusal Chains.suspend_refusal Chains.terminate_refusal Chains.reset_refusal Chains.set_refusal Chains.thread_only_refusal Chains.abort_refusal Chains.priority_refusal Chains.preemption_refusal Chains.tick_refusal Chains.semaphore_create_refusal Chains.semaphore_delete_refusal Chains.semaphore_get_refusal Chains.put_refusal Chains.ceiling_refusal Chains.semaphore_refusal Chains.queue_create_refusal Chains.queue_delete_refusal Chains.send_refusal Chains.receive_refusal Chains.queue_refusal Chains.group_create_refusal Chains.group_delete_refusal Chains.get_refusal Chains.pool_create_refusal Chains.pool_delete_refusal Chains.allocate_refusal Chains.release_refusal Chains.pool_refusal Chains.read_refusal
  known_same n =
      by_number Same n 1 _ _ (known _ _ (link _ _ _ _ _ (or-not (ltb (min a 32) 32) (thread_of k (min a 32)).created) refl (link _ _ _ _ _ (at_least 32 b) refl (link _ _ _ _ _ (above b c) refl (link _ _ _ _ _ (start_is d) refl (last _ _ _ refl)))))) (
      by_number Same n 2 _ _ (known _ _ (link _ _ _ _ _ refl refl (link _ _ _ _ _ refl refl (last _ _ _ refl)))) (
      by_number Same n 3 _ _ (known _ _ (link _ _ _ _ _ refl refl (last _ _ _ refl))) (
      by_number Same n 4 _ _ (known _ _ (link _ _ _ _ _ refl refl (last _ _ _ (not-not (finishedb (thread_of k (min a 32))))))) (
      by_number Same n 5 _ _ (known _ _ (link _ _ _ _ _ refl refl (last _ _ _ refl))) (
      by_number Same n 6 _ _ (known _ _ (link _ _ _ _ _ refl refl (link _ _ _ _ _ refl refl (last _ _ _ refl)))) (
      by_number Same n 7 _ _ (known _ _ (last _ _ _ refl)) (
      by_number Same n 8 _ _ (known _ _ (last _ _ _ refl)) (
      by_number Same n 9 _ _ (known _ _ (last _ _ _ refl)) (
      by_number Same n 10 _ _ (known _ _ (link _ _ _ _ _ refl refl (last _ _ _ refl))) (
      by_number Same n 11 _ _ (known _ _ (link _ _ _ _ _ refl refl (link _ _ _ _ _ (at_least 32 b) refl (last _ _ _ refl)))) (
      by_number Same n 12 _ _ (known _ _ (link _ _ _ _ _ refl refl (link _ _ _ _ _ (above (thread_of k (min a 32)).priority b) refl (last _ _ _ refl)))) (
      by_number Same n 13 _ _ (known _ _ refl) (
      by_number Same n 14 _ _ (known _ _ refl) (
      by_number Same n 15 _ _ (known _ _ (last _ _ _ refl)) (
      by_number Same n 16 _ _ (known _ _ (link _ _ _ _ _ (or-not (ltb (min a 16) 16) (semaphore_at k (min a 16)).created) refl (last _ _ _ refl))) (
      by_number Same n 17 _ _ (known _ _ (link _ _ _ _ _ refl refl (last _ _ _ refl))) (
      by_number Same n 18 _ _ (known _ _ (link _ _ _ _ _ refl refl (link _ _ _ _ _ (neither (eqb b 0) (eqb caller 2)) refl (last _ _ _ (none_there b (eqb (semaphore_at k (min a 16)).count 0) (ltb 0 (semaphore_at k (min a 16)).count) (zero_is (semaphore_at k (min a 16)).count)))))) (
      by_number Same n 19 _ _ (known _ _ (link _ _ _ _ _ refl refl (last _ _ _ (at_least largest_count (semaphore_at k (min a 16)).count)))) (
      by_number Same n 20 _ _ (known _ _ (link _ _ _ _ _ refl refl (link _ _ _ _ _ (zero_is b) refl (last _ _ _ (at_least b (semaphore_at k (min a 16)).count))))) (
      by_number Same n 21 _ _ (known _ _ (last _ _ _ refl)) (
      by_number Same n 22 _ _ (known _ _ (link _ _ _ _ _ (or-not (ltb (min a 8) 8) (queue_at k (min a 8)).created) refl (link _ _ _ _ _ refl refl (last _ _ _ refl)))) (
      by_number Same n 23 _ _ (known _ _ (link _ _ _ _ _ refl refl (last _ _ _ refl))) (
      by_number Same n 24 _ _ (known _ _ (link _ _ _ _ _ refl refl (link _ _ _ _ _ (above (length messages) (c + (queue_at k (min a 8)).words)) refl (link _ _ _ _ _ (neither (eqb b 0) (eqb caller 2)) refl (last _ _ _ (none_there b (not (roomb (queue_at k (min a 8)))) (roomb (queue_at k (min a 8))) refl)))))) (
      by_number Same n 25 _ _ (known _ _ (link _ _ _ _ _ refl refl (link _ _ _ _ _ (above (length messages) (c + (queue_at k (min a 8)).words)) refl (link _ _ _ _ _ (neither (eqb b 0) (eqb caller 2)) refl (last _ _ _ (none_there b (not (roomb (queue_at k (min a 8)))) (roomb (queue_at k (min a 8))) refl)))))) (
      by_number Same n 26 _ _ (known _ _ (link _ _ _ _ _ refl refl (link _ _ _ _ _ (neither (eqb b 0) (eqb caller 2)) refl (last _ _ _ (none_there b (emptyb (queue_at k (min a 8))) (not (emptyb (queue_at k (min a 8)))) (not-not (emptyb (queue_at k (min a 8))))))))) (
      by_number Same n 27 _ _ (known _ _ (last _ _ _ refl)) (
      by_number Same n 28 _ _ (known _ _ (last _ _ _ refl)) (
      by_number Same n 29 _ _ (known _ _ (link _ _ _ _ _ (or-not (ltb (min a 8) 8) (group_at k (min a 8)).created) refl (last _ _ _ refl))) (
      by_number Same n 30 _ _ (known _ _ (link _ _ _ _ _ refl refl (last _ _ _ refl))) (
      by_number Same n 31 _ _ (known _ _ (link _ _ _ _ _ refl refl (last _ _ _ refl))) (
      by_number Same n 32 _ _ (known _ _ (link _ _ _ _ _ refl refl (link _ _ _ _ _ (above 3 c) refl (link _ _ _ _ _ (neither (eqb d 0) (eqb caller 2)) refl (last _ _ _ (none_there d (not (metb (group_at k (min a 8)).flags b c)) (metb (group_at k (min a 8)).flags b c) refl)))))) (
      by_number Same n 33 _ _ (known _ _ (link _ _ _ _ _ (or-not (ltb (min a 4) 4) (pool_at k (min a 4)).created) refl (link _ _ _ _ _ refl refl (last _ _ _ refl)))) (
      by_number Same n 34 _ _ (known _ _ (link _ _ _ _ _ refl refl (last _ _ _ refl))) (
      by_number Same n 35 _ _ (known _ _ (link _ _ _ _ _ refl refl (link _ _ _ _ _ (neither (eqb b 0) (eqb caller 2)) refl (last _ _ _ (none_there b (eqb (pool_at k (min a 4)).free 0) (ltb 0 (pool_at k (min a 4)).free) (zero_is (pool_at k (min a 4)).free)))))) (
      by_number Same n 36 _ _ (known _ _ (link _ _ _ _ _ refl refl (last _ _ _ refl))) (
      by_number Same n 37 _ _ (known _ _ (last _ _ _ refl)) (
      by_number Same n 38 _ _ (known _ _ (last _ _ _ refl)) (
      by_number Same n 39 _ _ (known _ _ (last _ _ _ refl)) (
      tt)))))))))))))))))))))))))))))))))))))))

-- of a request for a known call the table says what the chain says
pub same_reason : (k : Kernel) (q : Request) (messages : List ℕ) → Same k q.caller q.a q.b q.c q.d messages q.number (decoded q)
unfolding decoded
same_reason k q messages =
    by_choice (Same k q.caller q.a q.b q.c q.d messages q.number) (ltb 2 q.caller) None (known_call q.number q.a q.b q.c q.d)
    (λ e. tt) (λ e. known_same k q.caller q.a q.b q.c q.d messages q.number)

-- ---- what holds of the statuses of all rows holds of a reason
abbrev all_rows : (ℕ → Bool) → List Reason → Bool
all_rows f [] = true
all_rows f (r ∷ rs) = f r.status && all_rows f rs

of_rows : (f : ℕ → Bool) (rs : List Reason) (k : Kernel) (q : Request) (messages : List ℕ) → f 0 ≡ true → all_rows f rs ≡ true → f (first_reason rs k q messages) ≡ true
unfolding first_reason
of_rows f [] k q messages z a = z
of_rows f (r ∷ rs) k q messages z a =
    by_choice (λ (s : ℕ). f s ≡ true) (r.calls q.number && r.when k q messages) r.status (first_reason rs k q messages)
    (λ e. and_left (f r.status) (all_rows f rs) a) (λ e. of_rows f rs k q messages z (and_right (f r.status) (all_rows f rs) a))

-- no row gives 0x100
pub reason_known : (k : Kernel) (q : Request) (messages : List ℕ) → eqb (reason_of k q messages) Statuses.tables_unsound ≡ false
unfolding reason_of refusals
reason_known k q messages = not-true _ (of_rows (λ s. not (eqb s Statuses.tables_unsound)) refusals k q messages refl refl)
