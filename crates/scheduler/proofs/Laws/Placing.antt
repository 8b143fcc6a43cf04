-- The test of soundness thread by thread: each state has its own few tests, and a limit on priorities stands for the choice.
use mathlib.Core.Path.{◌≡◌, sym, ap, ◌∙◌}
use mathlib.Core.Bool.{Bool, true, false, ◌&&◌, ◌||◌, not, and-true, and-false, and_assoc, or-true, or-false}
use Prim.Native.Nat.{ℕ, ◌≤◌, ◌<◌}
use native.Mathlib.Omega.{arith}
use lib.ListN.{length}
use lib.Dec.{eqb, ltb, leb}
use borrow.Author.Tests.{ltb-true, ltb-false, lt-ltb, le-ltb, leb-true, le-leb, eqb-true, eq-eqb, ne_eqb, not-true}
use Rattle.std.specs.Prelude.{if◌then◌else◌}
use Rattle.lines.specs.Logic.{one_if, implies, all_below}
use Rattle.lines.specs.Lists.{count, below}
use Rattle.lines.specs.Lines.{members, cleanb}
use Rattle.lines.proofs.Laws.Logic.{by_test, never, and_left, and_right, and_in, or_right, implies_out, implies_in, all-at, all_in}
use Rattle.lines.proofs.Laws.Slots.{same_test}
use Rattle.scheduler.specs.declared.thread.Thread.{Thread}
use Rattle.scheduler.specs.declared.Scheduler.{Scheduler}
use Rattle.scheduler.specs.Threads.{readyb, waitsb, pausedb, restsb, standsb}
use Rattle.scheduler.specs.Orders.{thread_at, priority_at, threshold_at, runner}
use Rattle.scheduler.specs.Choice.{best_ready}
use Rattle.scheduler.specs.Sound.{limitsb, mark_fitb, suspension_fitb, ticks_fitb, object_fitb, fitb, countedb, steadyb, runsb, Steady, Runs, soundb}
use Rattle.scheduler.proofs.Laws.Threads.{none-at, none-ready, none_unmarked, fit-created}
use Rattle.scheduler.proofs.Laws.States.{rest-not_paused, paused-made, paused_in, waits_in}
use Rattle.scheduler.proofs.Laws.Choosing
use Rattle.scheduler.proofs.Laws.Testing

-- ---- one record, by its state
module _ (th : Thread) where
  pub not-ready : 0 < th.state → readyb th ≡ false
  unfolding readyb
  not-ready l = rw (ne_eqb th.state 0 (λ e. omega (arith, e, l))) (and-false th.created)

  pub not-waiting : th.state ≤ 4 → waitsb th ≡ false
  unfolding waitsb
  not-waiting l = rw (le-ltb 4 th.state l) (and-false th.created)

  pub none_stands-uncreated : th.created ≡ false → (readyb th ≡ false) × (standsb th ≡ false)
  unfolding standsb readyb waitsb
  none_stands-uncreated e = (rw e, rw e)

  pub rest_stands : 0 < th.state → th.state ≤ 4 → standsb th ≡ false
  unfolding standsb
  rest_stands l h = rw (not-ready l, not-waiting h)

module _ (th : Thread) (made : th.created ≡ true) where
  pub wait_stands : 4 < th.state → standsb th ≡ true
  unfolding standsb
  wait_stands l = or_right (readyb th) (waitsb th) (waits_in th made l)

  pub ready_in : th.state ≡ 0 → readyb th ≡ true
  unfolding readyb
  ready_in s = and_in th.created (eqb th.state 0) made (eq-eqb th.state 0 s)

  pub rests_in : 0 < th.state → th.state < 4 → restsb th ≡ true
  unfolding restsb
  rests_in l h =
      and_in (th.created && ltb 0 th.state) (ltb th.state 4) (and_in th.created (ltb 0 th.state) made (lt-ltb 0 th.state l)) (lt-ltb th.state 4 h)

  fit-ready : th.state ≡ 0
      → (limitsb th && (not th.marked || ltb th.threshold th.priority) && not th.suspending && eqb th.ticks 0 && eqb th.object 0) ≡ fitb th
  unfolding mark_fitb suspension_fitb ticks_fitb object_fitb implies
  fit-ready s =
      sym (fit-created th made ∙ rw (ready_in s, rest-not_paused th (omega (arith, s)), not-waiting th (omega (arith, s)), or-false))

  fit_resting : 0 < th.state → th.state < 4
      → (limitsb th && not th.marked && not th.suspending && eqb th.ticks 0 && eqb th.object 0) ≡ fitb th
  unfolding mark_fitb suspension_fitb ticks_fitb object_fitb implies
  fit_resting l h =
      sym (fit-created th made ∙ rw (not-ready th l, rest-not_paused th h, not-waiting th (omega (arith, h)), or-false (not th.marked), or-false (not th.suspending)))

  waits-made : waitsb th ≡ ltb 4 th.state
  unfolding waitsb
  waits-made = ap (λ (b : Bool). b && ltb 4 th.state) made

  fit_paused : 4 ≤ th.state
      → (limitsb th && not th.marked && ltb 0 th.ticks && (ltb 4 th.state || eqb th.object 0)) ≡ fitb th
  unfolding mark_fitb suspension_fitb ticks_fitb object_fitb implies
  fit_paused l =
      sym (fit-created th made
      ∙ rw (not-ready th (omega (arith, l)), paused_in th made l, waits-made, or-false, or-true, and-true (limitsb th && not th.marked), and-true (ltb 0 th.ticks)))

-- ---- the same of every record, with the test of its state in front
module _ (th : Thread) where
  pub ready_fit :
      (readyb th && limitsb th && (not th.marked || ltb th.threshold th.priority) && not th.suspending && eqb th.ticks 0 && eqb th.object 0)
      ≡ (readyb th && fitb th)
  unfolding readyb
  ready_fit =
      by_test (th.created && eqb th.state 0)
      (λ r. rw r (fit-ready th (and_left th.created (eqb th.state 0) r) (eqb-true th.state 0 (and_right th.created (eqb th.state 0) r))))
      (λ r. rw r)

  pub rests_fit : (restsb th && limitsb th && not th.marked && not th.suspending && eqb th.ticks 0 && eqb th.object 0) ≡ (restsb th && fitb th)
  unfolding restsb
  rests_fit =
      by_test (th.created && ltb 0 th.state && ltb th.state 4)
      (λ r. let l = and_left (th.created && ltb 0 th.state) (ltb th.state 4) r in
      rw r (fit_resting th (and_left th.created (ltb 0 th.state) l) (ltb-true 0 th.state (and_right th.created (ltb 0 th.state) l)) (ltb-true th.state 4 (and_right (th.created && ltb 0 th.state) (ltb th.state 4) r))))
      (λ r. rw r)

  paused_late : pausedb th ≡ true → 4 ≤ th.state
  paused_late p = by_test (ltb th.state 4) (λ w. never p (rest-not_paused th (ltb-true th.state 4 w))) (λ w. ltb-false th.state 4 w)

  pub paused_fit : (pausedb th && limitsb th && not th.marked && ltb 0 th.ticks && (ltb 4 th.state || eqb th.object 0)) ≡ (pausedb th && fitb th)
  paused_fit =
      by_test (pausedb th)
      (λ p. rw p (fit_paused th (paused-made th p) (paused_late p)))
      (λ p. rw p)

-- ---- a record that says how often its thread stands, and that no ready thread is better than a limit
module _ (n limit : ℕ) (th : Thread) where
  abbrev pub placed_fit : Bool
  placed_fit = countedb n th && implies (readyb th) (leb limit th.priority)

  pub placed-ready : readyb th ≡ true → (eqb n 1 && (fitb th && leb limit th.priority)) ≡ placed_fit
  unfolding countedb standsb one_if implies
  placed-ready r = rw r (sym (and_assoc (eqb n 1) (fitb th) (leb limit th.priority)))

  pub placed_other : (b : Bool) → standsb th ≡ b → readyb th ≡ false → (eqb n (one_if b) && fitb th) ≡ placed_fit
  unfolding countedb implies
  placed_other b s r = rw (s, r, and-true)

-- ---- all of them
module _ (s : Scheduler) where
  abbrev pub placed : ℕ → Bool
  placed t = placed_fit (count t (members s.order)) (threshold_at s (runner s)) (thread_at s t)

  abbrev pub may_run : Bool
  may_run = if ltb (runner s) 32 then (readyb (thread_at s (runner s)) && not (thread_at s (runner s)).marked) else (eqb (runner s) 32 && eqb (best_ready s) 32)

  abbrev lined : Bool
  lined = cleanb s.order && below 32 (members s.order)

  abbrev counted : ℕ → Bool
  counted t = countedb (count t (members s.order)) (thread_at s t)

  abbrev behind : ℕ → Bool
  behind t = implies (readyb (thread_at s t)) (leb (threshold_at s (runner s)) (priority_at s t))

  chosen : {b : Bool} → ltb (runner s) 32 ≡ b → may_run ≡ (if b then (readyb (thread_at s (runner s)) && not (thread_at s (runner s)).marked) else (eqb (runner s) 32 && eqb (best_ready s) 32))
  chosen w = ap (λ (b : Bool). if b then (readyb (thread_at s (runner s)) && not (thread_at s (runner s)).marked) else (eqb (runner s) 32 && eqb (best_ready s) 32)) w

  module _ (z : length s.threads ≡ 32) where
    -- whose turn it is, of sound tables
    runs_on : runsb s ≡ true → may_run ≡ true
    unfolding runsb
    runs_on e =
        let r = readyb (thread_at s (runner s)) && not (thread_at s (runner s)).marked in
        let l = leb (threshold_at s (runner s)) (priority_at s (best_ready s)) in
        let none = eqb (runner s) 32 && eqb (best_ready s) 32 in
        by_test (ltb (runner s) 32)
        (λ w. chosen w ∙ and_left r l (sym (ap (λ (b : Bool). if b then (r && l) else none) w) ∙ e))
        (λ w. chosen w ∙ sym (ap (λ (b : Bool). if b then (r && l) else none) w) ∙ e)

    parts : soundb s ≡ true → (lined && may_run && all_below 32 placed) ≡ true
    unfolding soundb steadyb
    parts e =
        let R = (Testing.tested s z e).runs in
        let t = and_left (steadyb s) (runsb s) e in
        and_in (lined && may_run) (all_below 32 placed)
        (and_in lined may_run (and_left lined (all_below 32 counted) t) (runs_on (and_right (steadyb s) (runsb s) e)))
        (all_in 32 placed (λ k l. and_in (counted k) (behind k)
        (all-at 32 counted (and_right lined (all_below 32 counted) t) k l)
        (implies_in (readyb (thread_at s k)) (leb (threshold_at s (runner s)) (priority_at s k)) (λ h. le-leb (threshold_at s (runner s)) (priority_at s k) (R.best k h)))))

    -- the parts make tables sound
    module _ (e : (lined && may_run && all_below 32 placed) ≡ true) where
      each : (t : ℕ) → t < 32 → placed t ≡ true
      each = all-at 32 placed (and_right (lined && may_run) (all_below 32 placed) e)

      steady : Steady s
      unfolding steadyb
      steady =
          Testing.steady_tested s z
          (and_in lined (all_below 32 counted) (and_left lined may_run (and_left (lined && may_run) (all_below 32 placed) e))
          (all_in 32 counted (λ k l. and_left (counted k) (behind k) (each k l))))

      turn : may_run ≡ true
      turn = and_right lined may_run (and_left (lined && may_run) (all_below 32 placed) e)

      best : (t : ℕ) → readyb (thread_at s t) ≡ true → threshold_at s (runner s) ≤ priority_at s t
      best t h =
          by_test (ltb t 32)
          (λ w. leb-true (threshold_at s (runner s)) (priority_at s t) (implies_out (readyb (thread_at s t)) (leb (threshold_at s (runner s)) (priority_at s t)) (and_right (counted t) (behind t) (each t (ltb-true t 32 w))) h))
          (λ w. never h (ap readyb (none-at s t z (ltb-false t 32 w)) ∙ none-ready))

      runs : Runs s
      runs =
          by_test (ltb (runner s) 32)
          (λ w. let l = ltb-true (runner s) 32 w in
          let a = sym (chosen w) ∙ turn in
          record {
            known = omega (arith, l);
            ready = λ _. and_left (readyb (thread_at s (runner s))) (not (thread_at s (runner s)).marked) a;
            none = λ q. absurd (omega (arith, q, l));
            best = best;
            unmarked = not-true (thread_at s (runner s)).marked (and_right (readyb (thread_at s (runner s))) (not (thread_at s (runner s)).marked) a);
          })
          (λ w. let a = sym (chosen w) ∙ turn in
          let n = eqb-true (runner s) 32 (and_left (eqb (runner s) 32) (eqb (best_ready s) 32) a) in
          let h = eqb-true (best_ready s) 32 (and_right (eqb (runner s) 32) (eqb (best_ready s) 32) a) in
          let none = none-at s (runner s) z (omega (arith, n)) in
          let idle : (t : ℕ) → readyb (thread_at s t) ≡ false = λ t. by_test (readyb (thread_at s t)) (λ r. absurd (let b = Choosing.best_some s steady t r in omega (arith, b, h))) (λ r. r) in
          record {
            known = omega (arith, n);
            ready = λ l. absurd (omega (arith, n, l));
            none = λ _. idle;
            best = best;
            unmarked = ap (λ (th : Thread). th.marked) none ∙ none_unmarked;
          })

    -- the test, thread by thread
    pub sound_parts : soundb s ≡ (lined && may_run && all_below 32 placed)
    sound_parts =
        same_test (soundb s) (lined && may_run && all_below 32 placed) parts
        (λ e. Testing.passes s (record { steady = steady e; runs = runs e }))

-- one thread's test, as it is read from the tables
pub placed_read : (s : Scheduler) (t n limit : ℕ) (th : Thread) → n ≡ count t (members s.order) → limit ≡ threshold_at s (runner s) → th ≡ thread_at s t
    → placed_fit n limit th ≡ placed s t
placed_read s t n limit th p q r = λ i. placed_fit (p i) (q i) (r i)
