use mathlib.Core.Path.{◌≡◌, refl, sym, ap, ◌∙◌}
use mathlib.Core.Bool.{Bool, true, false, ◌&&◌, not}
use Prim.Native.Nat.{ℕ, ◌<◌, ◌≤◌}
use native.Mathlib.Omega.{arith}
use lib.ListN.{length, length-set, get_or}
use lib.Dec.{ltb}
use Rattle.std.specs.Prelude.{if◌then◌else◌}
use Rattle.lines.specs.Lists.{filter}
use Rattle.lines.specs.Lines.{members}
use Rattle.lines.proofs.Laws.Bests.{Found}
use Rattle.lines.proofs.Laws.Lists.{get_d_any}
use Rattle.lines.proofs.Laws.Logic.{and_left}
use Rattle.numbers.specs.declared.ThreadId.{ThreadId}
use Rattle.scheduler.specs.declared.thread.Thread.{Thread}
use Rattle.scheduler.specs.declared.Scheduler.{Scheduler}
use Rattle.scheduler.specs.Threads.{uncreated, readyb, markedb}
use Rattle.scheduler.specs.Orders.{thread_at, priority_at, runner, with_thread, with_runner}
use Rattle.scheduler.specs.Choice.{best_among, best_ready, best_marked, staysb, overtakesb, with_mark, replaced, dispatched, rescheduled}
use Rattle.scheduler.proofs.Laws.Threads.{length_mapped, none-ready, none_marked, ready_small}
use Rattle.scheduler.proofs.Laws.Orders.{thread_out}
use Rattle.scheduler.proofs.Laws.Loops.{passed_none, passed_all, passed_out, passed_one}
use Rattle.scheduler.proofs.Laws.Choice.{stays_from, overtakes_from, over_runs, t_runs}
use Rattle.scheduler.proofs.Scheduler.rescheduled.Goals as goal
use Rattle.scheduler.proofs.Scheduler.rescheduled.Goals.{then-stays, else-stays, then-overtakes, then-stays-2, else-stays-2, else-overtakes, then-i-lt-THREADS, else-i-lt-THREADS}

module _ (c : goal.Joined-i-lt-THREADS) where
  abbrev s : Scheduler
  s = c.args.self

  abbrev gives_up : Bool
  gives_up = c.args.relinquished

  sized : length s.threads ≡ 32
  sized = search length_mapped

  -- ---- what the pass has found
  ready-found : Found (priority_at s) (filter (λ t. readyb (thread_at s t)) (members s.order)) c.loop-x.ready
  ready-found = passed_all s readyb _ _ c.in-None.ensures.steps.0 c.loop-x.invariant.ready

  ready-best : c.loop-x.ready.id.0 ≡ best_ready s
  unfolding best_ready best_among
  ready-best = ready-found.0

  ready-key : best_ready s < 32 → c.loop-x.ready.key ≡ priority_at s (best_ready s)
  unfolding best_ready best_among
  ready-key = ready-found.1

  marked-best : c.loop-x.marked.id.0 ≡ best_marked s
  unfolding best_marked best_among
  marked-best = (passed_all s markedb _ _ c.in-None.ensures.steps.0 c.loop-x.invariant.marked).0

  -- ---- the runner, and who goes on unless it is overtaken
  runner-record : c.record_in-runner.result ≡ thread_at s (runner s)
  unfolding thread_at
  runner-record = c.record_in-runner.ensures ∙ ap (get_or s.threads (runner s)) c.uncreated.ensures

  stays-test : (c.is_ready.result && not gives_up) ≡ staysb s gives_up
  stays-test = ap (λ (x : Bool). x && not gives_up) c.is_ready.ensures ∙ stays_from s gives_up c.record_in-runner.result runner-record

  abbrev t : ℕ
  t = c.if-stays.next.0

  next-is : t ≡ (if staysb s gives_up then runner s else best_marked s)
  next-is =
      elim c.if-stays.branch [
        | then-stays w ↦ ap (λ (x : ThreadId). x.0) w.next-is ∙ ap (λ (x : Bool). if x then runner s else best_marked s) (sym w.if-stays.true ∙ stays-test)
        | else-stays w ↦
            ap (λ (x : ThreadId). x.0) w.next-is ∙ marked-best
            ∙ ap (λ (x : Bool). if x then runner s else best_marked s) (sym w.if-stays.false ∙ stays-test)
      ]

  other-record : c.record_in-other.result ≡ thread_at s t
  unfolding thread_at
  other-record = c.record_in-other.ensures ∙ ap (get_or s.threads t) c.uncreated-2.ensures

  overtakes-test : c.overtakes.result ≡ overtakesb s t
  overtakes-test =
      c.overtakes.ensures
      ∙ overtakes_from s t c.loop-x.ready.id.0 t c.loop-x.ready.key c.record_in-other.result ready-best refl ready-key other-record

  -- ---- the runner that is replaced, and the next thread
  is-best : c.if-overtakes.next ≡ c.loop-x.ready.id → c.if-overtakes.next.0 ≡ best_ready s
  is-best e = ap (λ (x : ThreadId). x.0) e ∙ ready-best

  -- who goes on unless it is overtaken, where the test of the runner is known
  goes : (x : Bool) → staysb s gives_up ≡ x → t ≡ (if x then runner s else best_marked s)
  goes x e = next-is ∙ ap (λ (y : Bool). if y then runner s else best_marked s) e

  -- the runner's test is known, and the best ready thread overtakes
  over : (x : Bool) → staysb s gives_up ≡ x → c.overtakes.result ≡ true → c.if-overtakes.self ≡ (if x then replaced s else s)
      → c.if-overtakes.next ≡ c.loop-x.ready.id → rescheduled s gives_up ≡ dispatched c.if-overtakes.self c.if-overtakes.next.0
  over x e o f n =
      over_runs s gives_up t x e (goes x e) (sym overtakes-test ∙ o) ∙ sym (λ i. dispatched (f i) (is-best n i))

  stays : (x : Bool) → (c.is_ready.result && not gives_up) ≡ x → staysb s gives_up ≡ x
  stays x e = sym stays-test ∙ e

  changed : rescheduled s gives_up ≡ dispatched c.if-overtakes.self c.if-overtakes.next.0
  unfolding replaced with_thread with_mark thread_at uncreated
  changed =
      elim c.if-overtakes.branch [
        | then-overtakes w ↦
            elim w.if-stays-2.branch [
              | then-stays-2 v ↦
                  over true (stays true v.if-stays-2.true) w.if-overtakes.true (w.self-is ∙ v.self-is ∙ ap (λ (th : Thread). with_thread s (runner s) (with_mark (ltb th.threshold th.priority) (thread_at s (runner s)))) runner-record) w.next-is
              | else-stays-2 v ↦ over false (stays false v.if-stays-2.false) w.if-overtakes.true (w.self-is ∙ v.self-is) w.next-is
            ]
        | else-overtakes w ↦
            t_runs s gives_up t (staysb s gives_up) refl next-is (sym overtakes-test ∙ w.if-overtakes.false)
            ∙ sym (λ i. dispatched (w.self-is i) (w.next-is i).0)
      ]

  still-sized : length c.if-overtakes.self.threads ≡ 32
  still-sized =
      elim c.if-overtakes.branch [
        | then-overtakes w ↦
            elim w.if-stays-2.branch [
              | then-stays-2 v ↦ ap (λ (x : Scheduler). length x.threads) (w.self-is ∙ v.self-is) ∙ length-set s.threads (runner s) _ ∙ sized
              | else-stays-2 v ↦ ap (λ (x : Scheduler). length x.threads) (w.self-is ∙ v.self-is) ∙ sized
            ]
        | else-overtakes w ↦ ap (λ (x : Scheduler). length x.threads) w.self-is ∙ sized
      ]

pub loop-x-init : goal.loop-x-init
loop-x-init c =
    let r = c.iter.ensures.rest in
    record { ready = passed_none _ _ _ (cc r); marked = passed_none _ _ _ (cc r) }

pub loop-x-preserved-in-Some-get : goal.loop-x-preserved-in-Some-get
unfolding thread_at markedb
loop-x-preserved-in-Some-get c =
    let a = c.args in
    let e : length a.self.threads ≡ 32 = search length_mapped in
    let h = c.in-Some-get.ensures.lookup.3 in
    let l : c.in-Some.x.now < 32 = omega (arith, h.0) in
    let th = h.1 uncreated in
    let r = c.is_ready-is_ready.ensures ∙ ap readyb th in
    let m = ap (λ (b : Bool). b && c.in-Some-get.th.now.marked) c.is_ready-is_ready.ensures ∙ ap markedb th in
    record {
      ready = passed_one a.self readyb e none-ready _ _ _ _ c.in-Some.ensures.steps c.loop-x.invariant.ready _ _ _ l c.considered-ready.ensures.in_byte th r c.considered-ready.ensures.best;
      marked = passed_one a.self markedb e none_marked _ _ _ _ c.in-Some.ensures.steps c.loop-x.invariant.marked _ _ _ l c.considered-marked.ensures.in_byte th m c.considered-marked.ensures.best;
    }

pub loop-x-preserved : goal.loop-x-preserved
loop-x-preserved c =
    let a = c.args in
    let e : length a.self.threads ≡ 32 = search length_mapped in
    let h = c.in_default.ensures.lookup.3 in
    let l : 32 ≤ c.in-Some.x.now = omega (arith, h) in
    record {
      ready = passed_out a.self readyb e none-ready _ _ _ _ c.in-Some.ensures.steps c.loop-x.invariant.ready l;
      marked = passed_out a.self markedb e none_marked _ _ _ _ c.in-Some.ensures.steps c.loop-x.invariant.marked l;
    }

pub bounds-self-r : goal.bounds-self-r
unfolding thread_at
bounds-self-r c =
    let a = c.args in
    let e : length a.self.threads ≡ 32 = search length_mapped in
    let t : c.record_in-runner.result ≡ thread_at a.self a.self.running.0 = c.record_in-runner.ensures ∙ ap (get_or a.self.threads a.self.running.0) c.uncreated.ensures in
    let r = sym (ap readyb t) ∙ sym c.is_ready.ensures in
    ready_small a.self a.self.running.0 e (r ∙ and_left c.is_ready.result (not a.relinquished) c.if-stays-2.true)

pub returns : goal.returns
unfolding dispatched with_runner with_thread with_mark thread_at uncreated
returns c =
    let n = c.if-overtakes.next.0 in
    let e = still-sized c in
    let z : c.if-i-lt-THREADS.self ≡ with_thread c.if-overtakes.self n (with_mark false (thread_at c.if-overtakes.self n)) =
    (elim c.if-i-lt-THREADS.branch [
      | then-i-lt-THREADS w ↦ let h : n < length c.if-overtakes.self.threads = (let l = w.if-i-lt-THREADS.true in omega (arith, l, e)) in
          w.self-is ∙ ap (λ (th : Thread). with_thread c.if-overtakes.self n (with_mark false th)) (get_d_any c.if-overtakes.self.threads n _ uncreated h)
      | else-i-lt-THREADS w ↦ let h : length c.if-overtakes.self.threads ≤ n = (let l = w.if-i-lt-THREADS.false in omega (arith, l, e)) in
          w.self-is ∙ sym (thread_out c.if-overtakes.self n (with_mark false (thread_at c.if-overtakes.self n)) h)
    ]) in
    ap (λ (x : Scheduler). with_runner x n) z ∙ sym (changed c)
