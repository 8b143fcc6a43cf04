-- Priority change and preemption change leave steady tables steady, and everybody else where it stood; who runs after a priority change.
use mathlib.Core.Path.{◌≡◌, refl, sym, ap, ◌∙◌}
use mathlib.Core.List.{◌++◌}
use mathlib.Core.Bool.{Bool, true, false, ◌||◌, not, and-false}
use Prim.Native.Nat.{ℕ, ◌≤◌, ◌<◌}
use native.Mathlib.Omega.{arith}
use lib.Dec.{ltb}
use borrow.Author.Tests.{ltb-true, lt-ltb}
use Rattle.lines.specs.Lists.{without, only_if}
use Rattle.lines.proofs.Laws.Logic.{by_test, by_eq, and_left, and_right, and_in, or_right}
use Rattle.scheduler.specs.declared.thread.Thread.{Thread}
use Rattle.scheduler.specs.declared.thread.Place.{Place}
use Rattle.scheduler.specs.declared.Scheduler.{Scheduler}
use Rattle.scheduler.specs.Threads.{readyb, placedb}
use Rattle.scheduler.specs.Orders.{thread_at, priority_at, threshold_at, runner, line_at, with_thread, with_order, with_runner, moved}
use Rattle.scheduler.specs.Choice.{best_ready, staysb, overtakesb, with_mark, dispatched, rescheduled}
use Rattle.scheduler.specs.Changes.{with_levels, with_priority, priority_changed, preemption_changed}
use Rattle.scheduler.specs.Sound.{fitb, Steady, Sound}
use Rattle.scheduler.specs.Claims.{AfterPriorityChange}
use Rattle.scheduler.proofs.Laws.Threads.{fit_unmarked, fit_levels, levels_stands, levels_placed, same_levels_placed, mark_placed, mark-priority, mark-threshold}
use Rattle.scheduler.proofs.Laws.Orders
use Rattle.scheduler.proofs.Laws.Choice.{is-replaced, goes_on_lem}
use Rattle.scheduler.proofs.Laws.Choosing

module _ (s : Scheduler) (S : Steady s) (t : ℕ) (small : t < 32) (created : (thread_at s t).created ≡ true) where
  -- the record after a priority change
  abbrev changed : ℕ → Thread
  changed p = with_priority p (thread_at s t)

  changed_fit : (p : ℕ) → p < 32 → fitb (changed p) ≡ true
  changed_fit p l = fit_levels p p (thread_at s t) (S.fit t small) created l (omega arith)

  changed-ready : (p : ℕ) → readyb (thread_at s t) ≡ true → priority_changed s t p ≡ moved s t (changed p)
  unfolding priority_changed
  changed-ready p r = rw r

  changed_other : (p : ℕ) → readyb (thread_at s t) ≡ false → priority_changed s t p ≡ with_thread s t (changed p)
  unfolding priority_changed
  changed_other p r = rw r

  pub priority_steady_lem : (p : ℕ) → p < 32 → Steady (priority_changed s t p)
  priority_steady_lem p l =
      by_test (readyb (thread_at s t))
      (λ r. rw (changed-ready p r) (Orders.moved_steady_lem s S t (changed p) small (changed_fit p l)))
      (λ r. rw (changed_other p r) (Orders.kept_steady_lem s S t (changed p) small (levels_stands p p (thread_at s t)) (changed_fit p l)))

  -- a ready thread goes to the end of its new order
  priority-line : (p : ℕ) → p < 32 → readyb (thread_at s t) ≡ true → (q : Place) → line_at (priority_changed s t p) q ≡ without t (line_at s q) ++ only_if (placedb q (changed p)) t
  priority-line p l r q = rw (changed-ready p r) (Orders.moved-line s S t (changed p) small (changed_fit p l) q)

  -- a thread that waits keeps its place in line
  priority_kept : (p : ℕ) → readyb (thread_at s t) ≡ false → (q : Place) → line_at (priority_changed s t p) q ≡ line_at s q
  priority_kept p r q = rw (changed_other p r) (Orders.kept_line_lem s S t (changed p) small q (levels_placed p p (thread_at s t) r q))

  -- its record is the changed one, and nobody else's changes
  priority_self : (p : ℕ) → thread_at (priority_changed s t p) t ≡ changed p
  priority_self p =
      by_test (readyb (thread_at s t))
      (λ r. rw (changed-ready p r) (Orders.moved_self s S t (changed p) small))
      (λ r. rw (changed_other p r) (Orders.kept_self s S t (changed p) small))

  priority_others : (p u : ℕ) → (u ≡ t → ⊥) → thread_at (priority_changed s t p) u ≡ thread_at s u
  priority_others p u n =
      by_test (readyb (thread_at s t))
      (λ r. rw (changed-ready p r) (Orders.moved_other s S t (changed p) small u n))
      (λ r. rw (changed_other p r) (Orders.kept_other s S t (changed p) small u n))

  -- what the changed record has in common with the old one, every thread keeps
  priority-keeps : (p : ℕ) {X : Type 0} (g : Thread → X) → g (changed p) ≡ g (thread_at s t) → (u : ℕ) → g (thread_at (priority_changed s t p) u) ≡ g (thread_at s u)
  priority-keeps p g h u =
      by_eq u t
      (λ e. ap (λ (n : ℕ). g (thread_at (priority_changed s t p) n)) e ∙ ap g (priority_self p) ∙ h ∙ ap (λ (n : ℕ). g (thread_at s n)) (sym e))
      (λ e. ap g (priority_others p u e))

  -- and nobody else begins to run by it
  priority-runner : (p : ℕ) → runner (priority_changed s t p) ≡ runner s
  unfolding moved with_order with_thread
  priority-runner p =
      by_test (readyb (thread_at s t))
      (λ r. ap runner (changed-ready p r))
      (λ r. ap runner (changed_other p r))

  -- preemption change
  abbrev shifted : ℕ → Thread
  shifted h = with_levels (priority_at s t) h (thread_at s t)

  pub preemption_steady_lem : (h : ℕ) → h ≤ priority_at s t → priority_at s t < 32 → Steady (preemption_changed s t h)
  unfolding preemption_changed
  preemption_steady_lem h l w = Orders.kept_steady_lem s S t (shifted h) small (levels_stands (priority_at s t) h (thread_at s t)) (fit_levels (priority_at s t) h (thread_at s t) (S.fit t small) created w l)

  pub preemption-line : (h : ℕ) (q : Place) → line_at (preemption_changed s t h) q ≡ line_at s q
  unfolding preemption_changed
  preemption-line h q = Orders.kept_line_lem s S t (shifted h) small q (same_levels_placed h (thread_at s t) q)

-- what a record has beside its levels and its mark
bare : Bool → Thread → Thread
bare b th = record { created = th.created; state = th.state; priority = 0; threshold = 0; marked = b; suspending = th.suspending; object = th.object; ticks = th.ticks }

bare_levels : (th : Thread) → with_levels 0 0 th ≡ bare false th
unfolding with_levels bare
bare_levels th = ap (λ (b : Bool). bare b th) (and-false th.marked)

mark_bare : (b : Bool) (th : Thread) → with_levels 0 0 (with_mark b th) ≡ with_levels 0 0 th
unfolding with_mark bare
mark_bare b th = bare_levels (with_mark b th) ∙ sym (bare_levels th)

priority_bare : (p : ℕ) (th : Thread) → with_levels 0 0 (with_priority p th) ≡ with_levels 0 0 th
unfolding with_levels bare
priority_bare p th = bare_levels (with_priority p th) ∙ sym (bare_levels th)

-- ---- the choice after a priority change
module _ (s : Scheduler) (S : Sound s) (t p : ℕ) (small : t < 32) (created : (thread_at s t).created ≡ true) (low : p < 32) where
  -- before the choice, and after it
  abbrev y : Scheduler
  y = priority_changed s t p

  abbrev x : Scheduler
  x = rescheduled y false

  Y : Steady y
  Y = priority_steady_lem s S.steady t small created p low

  X : Sound x
  X = Choosing.rescheduled_sound y Y false

  own-priority : priority_at y t ≡ p
  unfolding with_levels
  own-priority = ap (λ (th : Thread). th.priority) (priority_self s S.steady t small created p)

  own-threshold : threshold_at y t ≡ p
  unfolding with_levels
  own-threshold = ap (λ (th : Thread). th.threshold) (priority_self s S.steady t small created p)

  own-ready : readyb (thread_at y t) ≡ readyb (thread_at s t)
  unfolding with_levels readyb
  own-ready = ap readyb (priority_self s S.steady t small created p)

  chosen-priority : (u : ℕ) → priority_at x u ≡ priority_at y u
  chosen-priority = Choosing.rescheduled-keeps y Y (λ th. th.priority) mark-priority false

  chosen-threshold : (u : ℕ) → threshold_at x u ≡ threshold_at y u
  chosen-threshold = Choosing.rescheduled-keeps y Y (λ th. th.threshold) mark-threshold false

  chosen_placed : (q : Place) → placedb q (thread_at x t) ≡ placedb q (with_priority p (thread_at s t))
  chosen_placed q = Choosing.rescheduled-keeps y Y (placedb q) (mark_placed q) false t ∙ ap (placedb q) (priority_self s S.steady t small created p)

  unmarked : (thread_at x t).marked ≡ false
  unmarked =
      let a = chosen-priority t ∙ own-priority in
      let b = chosen-threshold t ∙ own-threshold in
      fit_unmarked (thread_at x t) (X.steady.fit t small) (omega (arith, a, b))

  -- where t runs
  module _ (runs : runner s ≡ t) where
    still : runner y ≡ t
    still = priority-runner s S.steady t small created p ∙ runs

    stays : staysb y false ≡ true
    unfolding staysb
    stays =
        let r = ap (λ (n : ℕ). readyb (thread_at s n)) (sym runs) ∙ S.runs.ready (omega (arith, runs, small)) in
        and_in (readyb (thread_at y (runner y))) true (ap (λ (n : ℕ). readyb (thread_at y n)) still ∙ own-ready ∙ r) refl

    -- whoever overtakes it is another ready thread, better than p
    overtaken : overtakesb y (runner y) ≡ true → (best_ready y ≡ t → ⊥) × (readyb (thread_at s (best_ready y)) ≡ true) × (priority_at s (best_ready y) < p)
    unfolding overtakesb
    overtaken o =
        let test = not (ltb (runner y) 32) || ltb (priority_at y (best_ready y)) (threshold_at y (runner y)) in
        let l = ltb-true (best_ready y) 32 (and_left (ltb (best_ready y) 32) test o) in
        let w : (not (ltb t 32) || ltb (priority_at y (best_ready y)) (threshold_at y t)) ≡ true = ap (λ (n : ℕ). not (ltb n 32) || ltb (priority_at y (best_ready y)) (threshold_at y n)) (sym still) ∙ and_right (ltb (best_ready y) 32) test o in
        let b = ltb-true (priority_at y (best_ready y)) (threshold_at y t) (rw (lt-ltb t 32 small) at w) in
        let n : best_ready y ≡ t → ⊥ = λ e. (let c = ap (priority_at y) e ∙ own-priority in omega (arith, b, c, own-threshold)) in
        let same = priority_others s S.steady t small created p (best_ready y) n in
        (n, ap readyb (sym same) ∙ Choosing.best_is-ready y Y l, (let d = ap (λ (th : Thread). th.priority) same in omega (arith, b, d, own-threshold)))

    goes : ((u : ℕ) → (u ≡ t → ⊥) → readyb (thread_at s u) ≡ true → p ≤ priority_at s u) → runner x ≡ t
    unfolding dispatched with_runner
    goes h =
        by_test (overtakesb y (runner y))
        (λ o. absurd (let w = overtaken o in let l = h (best_ready y) w.0 w.1 in let b = w.2 in omega (arith, l, b)))
        (λ o. ap runner (goes_on_lem y false stays o) ∙ still)

    -- another ready thread that is better than p
    module _ (u : ℕ) (n : u ≡ t → ⊥) (r : readyb (thread_at s u) ≡ true) (better : priority_at s u < p) where
      same : thread_at y u ≡ thread_at s u
      same = priority_others s S.steady t small created p u n

      some : best_ready y < 32
      some = Choosing.best_some y Y u (ap readyb same ∙ r)

      least : priority_at y (best_ready y) ≤ priority_at s u
      least = let a = Choosing.best_least y Y u (ap readyb same ∙ r) some in let b = ap (λ (th : Thread). th.priority) same in omega (arith, a, b)

      overtakes : overtakesb y (runner y) ≡ true
      unfolding overtakesb
      overtakes =
          ap (overtakesb y) still
          ∙ and_in (ltb (best_ready y) 32) (not (ltb t 32) || ltb (priority_at y (best_ready y)) (threshold_at y t)) (lt-ltb (best_ready y) 32 some)
          (or_right (not (ltb t 32)) (ltb (priority_at y (best_ready y)) (threshold_at y t)) (lt-ltb (priority_at y (best_ready y)) (threshold_at y t) (omega (arith, least, better, own-threshold))))

      runs-next : runner x ≡ best_ready y
      unfolding dispatched with_runner
      runs-next = ap runner (is-replaced y false stays overtakes)

      gives_way_lem : (runner x ≡ t → ⊥) × (priority_at x (runner x) ≤ priority_at s u)
      gives_way_lem =
          let a = ap (priority_at x) runs-next ∙ chosen-priority (best_ready y) in
          let b : priority_at x (runner x) ≤ priority_at s u = omega (arith, a, least) in
          (λ e. (let c = ap (priority_at x) e ∙ chosen-priority t ∙ own-priority in omega (arith, b, c, better)), b)

  pub after-priority_change : AfterPriorityChange s t p x
  after-priority_change =
      record {
        priority = chosen-priority t ∙ own-priority;
        threshold = chosen-threshold t ∙ own-threshold;
        unmarked = unmarked;
        others = λ u n. (let e = priority_others s S.steady t small created p u n in
            (chosen-priority u ∙ ap (λ (th : Thread). th.priority) e, chosen-threshold u ∙ ap (λ (th : Thread). th.threshold) e));
        kept = λ u. Choosing.rescheduled-keeps y Y (with_levels 0 0) mark_bare false u ∙ priority-keeps s S.steady t small created p (with_levels 0 0) (priority_bare p (thread_at s t)) u;
        joins = λ r q. Choosing.rescheduled-line y Y false q ∙ priority-line s S.steady t small created p low r q
            ∙ ap (λ (b : Bool). without t (line_at s q) ++ only_if b t) (sym (chosen_placed q));
        keeps_place = λ r q. Choosing.rescheduled-line y Y false q ∙ priority_kept s S.steady t small created p r q;
        gives_way = gives_way_lem;
        goes_on = goes;
      }
