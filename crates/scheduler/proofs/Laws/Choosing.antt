-- The choice after a call moves nobody, and leaves steady tables sound.
use mathlib.Core.Path.{◌≡◌, sym, ap, ◌∙◌}
use mathlib.Core.Bool.{Bool, true, false, ◌&&◌, ◌||◌, not}
use Prim.Native.Nat.{ℕ, ◌≤◌, ◌<◌}
use native.Mathlib.Omega.{arith}
use lib.Seq.{set_out}
use lib.Dec.{ltb}
use borrow.Author.Tests.{ltb-true, ltb-false, lt-ltb}
use Rattle.lines.specs.Logic.{one_if}
use Rattle.lines.specs.Lists.{filter, count}
use Rattle.lines.specs.Lines.{members}
use Rattle.lines.proofs.Laws.Logic.{by_test, never, and_left, and_in}
use Rattle.lines.proofs.Laws.Lists
use Rattle.lines.proofs.Laws.Bests
use Rattle.scheduler.specs.declared.thread.Thread.{Thread}
use Rattle.scheduler.specs.declared.thread.Place.{Place}
use Rattle.scheduler.specs.declared.Scheduler.{Scheduler}
use Rattle.scheduler.specs.Threads.{uncreated, readyb, markedb, placedb}
use Rattle.scheduler.specs.Orders.{thread_at, priority_at, threshold_at, runner, line_at, with_thread, with_runner}
use Rattle.scheduler.specs.Choice.{best_among, best_ready, best_marked, staysb, overtakesb, with_mark, replaced, dispatched, rescheduled}
use Rattle.scheduler.specs.Sound.{fitb, Steady, Runs, Sound}
use Rattle.scheduler.proofs.Laws.Threads.{none-at, ready_stands, marked-ready, fit-threshold, fit_mark, fit_unmark, mark-ready, mark_stands, mark_placed, mark-priority, mark-threshold, mark-marked}
use Rattle.scheduler.proofs.Laws.Orders
use Rattle.scheduler.proofs.Laws.Choice.{is-replaced, goes_on_lem, best_follows, marked_follows}

-- ---- a mark changes nothing else
module _ (s : Scheduler) (S : Steady s) (t : ℕ) (b : Bool) where
  -- thread t with its mark set or ended
  abbrev marks : Scheduler
  marks = with_thread s t (with_mark b (thread_at s t))

  marks_out : 32 ≤ t → marks ≡ s
  unfolding with_thread
  marks_out o = rw (set_out s.threads t (with_mark b (thread_at s t)) (let e = S.sized in omega (arith, e, o)))

  mark-keeps : {X : Type 0} (g : Thread → X) → ((c : Bool) (th : Thread) → g (with_mark c th) ≡ g th) → (u : ℕ) → g (thread_at marks u) ≡ g (thread_at s u)
  mark-keeps g h u =
      by_test (ltb t 32)
      (λ w. Orders.kept-all s S t (with_mark b (thread_at s t)) (ltb-true t 32 w) g (h b (thread_at s t)) u)
      (λ w. ap (λ (x : Scheduler). g (thread_at x u)) (marks_out (ltb-false t 32 w)))

  mark_steady : (t < 32 → fitb (with_mark b (thread_at s t)) ≡ true) → Steady marks
  mark_steady f =
      by_test (ltb t 32)
      (λ w. let l = ltb-true t 32 w in Orders.kept_steady_lem s S t (with_mark b (thread_at s t)) l (mark_stands b (thread_at s t)) (f l))
      (λ w. rw (marks_out (ltb-false t 32 w)) S)

  mark-line : (p : Place) → line_at marks p ≡ line_at s p
  unfolding line_at with_thread
  mark-line p = Lists.filter_same (λ u. placedb p (thread_at marks u)) (λ u. placedb p (thread_at s u)) (members s.order) (mark-keeps (placedb p) (mark_placed p))

-- ---- the thread that runs
module _ (s : Scheduler) (S : Steady s) (n : ℕ) where
  ran_steady : Steady (dispatched s n)
  unfolding dispatched with_runner thread_at
  ran_steady =
      let M : Steady (marks s S n false) = mark_steady s S n false (λ l. fit_unmark (thread_at s n) (S.fit n l)) in
      record { sized = M.sized; clean = M.clean; placed = M.placed; fit = M.fit }

  ran_line : (p : Place) → line_at (dispatched s n) p ≡ line_at s p
  unfolding dispatched with_runner thread_at line_at
  ran_line p = mark-line s S n false p

  -- what a mark keeps
  pub ran-keeps : {X : Type 0} (g : Thread → X) → ((c : Bool) (th : Thread) → g (with_mark c th) ≡ g th) → (u : ℕ) → g (thread_at (dispatched s n) u) ≡ g (thread_at s u)
  unfolding dispatched with_runner thread_at
  ran-keeps = mark-keeps s S n false

  ran_unmarked : (thread_at (dispatched s n) n).marked ≡ false
  unfolding dispatched with_runner thread_at uncreated
  ran_unmarked =
      by_test (ltb n 32)
      (λ w. ap (λ (x : Thread). x.marked) (Orders.kept_self s S n (with_mark false (thread_at s n)) (ltb-true n 32 w)) ∙ mark-marked false (thread_at s n))
      (λ w. let o = ltb-false n 32 w in
      ap (λ (x : Scheduler). (thread_at x n).marked) (marks_out s S n false o) ∙ ap (λ (x : Thread). x.marked) (none-at s n S.sized o))

  ran_runs : n ≤ 32 → (n < 32 → readyb (thread_at s n) ≡ true) → (n ≡ 32 → (t : ℕ) → readyb (thread_at s t) ≡ false)
      → ((t : ℕ) → readyb (thread_at s t) ≡ true → threshold_at s n ≤ priority_at s t) → Runs (dispatched s n)
  unfolding dispatched with_runner
  ran_runs known ready none best =
      record {
        known = known;
        ready = λ l. ran-keeps readyb mark-ready n ∙ ready l;
        none = λ e t. ran-keeps readyb mark-ready t ∙ none e t;
        best = λ t r.
            let a = best t (sym (ran-keeps readyb mark-ready t) ∙ r) in
            let p = ran-keeps (λ x. x.threshold) mark-threshold n in
            let q = ran-keeps (λ x. x.priority) mark-priority t in
            omega (arith, a, p, q);
        unmarked = ran_unmarked;
      }

-- ---- the best ready thread and the marked one
module _ (s : Scheduler) (S : Steady s) where
  pub ready_small : (t : ℕ) → readyb (thread_at s t) ≡ true → t < 32
  ready_small t r = Orders.stands_small s S t (ready_stands (thread_at s t) r)

  -- whoever is the best of those for whom a test holds is one of them
  among_holds : (f : Thread → Bool) → best_among f s < 32 → f (thread_at s (best_among f s)) ≡ true
  unfolding best_among
  among_holds f l =
      let c = Bests.best_stands (priority_at s) (filter (λ t. f (thread_at s t)) (members s.order)) l in
      by_test (f (thread_at s (best_among f s))) (λ e. e)
      (λ e. absurd (let d = Lists.count_dropped (λ t. f (thread_at s t)) (best_among f s) (members s.order) e in omega (arith, c, d)))

  -- who stands among ready threads is a thread
  among_small : (f : Thread → Bool) → ((th : Thread) → f th ≡ true → readyb th ≡ true) → (u : ℕ) → 0 < count u (filter (λ v. f (thread_at s v)) (members s.order)) → u < 32
  among_small f h u c =
      by_test (f (thread_at s u))
      (λ e. ready_small u (h (thread_at s u) e))
      (λ e. absurd (let d = Lists.count_dropped (λ v. f (thread_at s v)) u (members s.order) e in omega (arith, c, d)))

  -- every ready thread stands among the ready ones
  ready-counted : (t : ℕ) → readyb (thread_at s t) ≡ true → 0 < count t (filter (λ u. readyb (thread_at s u)) (members s.order))
  unfolding one_if
  ready-counted t r =
      let a = Lists.count_kept (λ u. readyb (thread_at s u)) t (members s.order) r in
      let b = S.placed t ∙ ap one_if (ready_stands (thread_at s t) r) in omega (arith, a, b)

  -- nobody ready is better than the best, and there is a best where somebody is ready
  pub best_least : (t : ℕ) → readyb (thread_at s t) ≡ true → best_ready s < 32 → priority_at s (best_ready s) ≤ priority_at s t
  unfolding best_ready best_among
  best_least t r l = Bests.best_least (priority_at s) (filter (λ u. readyb (thread_at s u)) (members s.order)) t l (ready-counted t r)

  pub best_some : (t : ℕ) → readyb (thread_at s t) ≡ true → best_ready s < 32
  unfolding best_ready best_among
  best_some t r =
      Bests.best_some (priority_at s) (filter (λ u. readyb (thread_at s u)) (members s.order)) (among_small readyb (λ th e. e)) t (ready-counted t r)

  pub best_is-ready : best_ready s < 32 → readyb (thread_at s (best_ready s)) ≡ true
  unfolding best_ready
  best_is-ready = among_holds readyb

  pub best_known : best_ready s ≤ 32
  unfolding best_ready best_among
  best_known = Bests.best_known (priority_at s) (filter (λ u. readyb (thread_at s u)) (members s.order)) (among_small readyb (λ th e. e))

  marked_is-ready : best_marked s < 32 → readyb (thread_at s (best_marked s)) ≡ true
  unfolding best_marked
  marked_is-ready l = marked-ready (thread_at s (best_marked s)) (among_holds markedb l)

  marked_known : best_marked s ≤ 32
  unfolding best_marked best_among
  marked_known = Bests.best_known (priority_at s) (filter (λ u. markedb (thread_at s u)) (members s.order)) (among_small markedb marked-ready)

  -- whoever overtakes is a thread, and its own threshold keeps nobody waiting
  overtaker : (t : ℕ) → overtakesb s t ≡ true → best_ready s < 32
  unfolding overtakesb
  overtaker t o = ltb-true (best_ready s) 32 (and_left (ltb (best_ready s) 32) (not (ltb t 32) || ltb (priority_at s (best_ready s)) (threshold_at s t)) o)

  best_fit : best_ready s < 32 → (t : ℕ) → readyb (thread_at s t) ≡ true → threshold_at s (best_ready s) ≤ priority_at s t
  best_fit l t r =
      let a = fit-threshold (thread_at s (best_ready s)) (S.fit (best_ready s) l) in
      let b = best_least t r l in omega (arith, a, b)

  -- where somebody is ready, and t is not overtaken, t is a thread whose threshold is at most the best priority
  held_off : (n : ℕ) → overtakesb s n ≡ false → (t : ℕ) → readyb (thread_at s t) ≡ true → (ltb n 32 ≡ true) × (threshold_at s n ≤ priority_at s (best_ready s))
  unfolding overtakesb
  held_off n o t r =
      let l = lt-ltb (best_ready s) 32 (best_some t r) in
      let e = sym (ap (λ (b : Bool). b && (not (ltb n 32) || ltb (priority_at s (best_ready s)) (threshold_at s n))) l) ∙ o in
      by_test (ltb n 32)
      (λ w. (w, ltb-false (priority_at s (best_ready s)) (threshold_at s n) (sym (ap (λ (b : Bool). not b || ltb (priority_at s (best_ready s)) (threshold_at s n)) w) ∙ e)))
      (λ w. never (ap (λ (b : Bool). not b || ltb (priority_at s (best_ready s)) (threshold_at s n)) w) e)

  -- who is not overtaken keeps nobody better waiting
  not_overtaken : (n : ℕ) → overtakesb s n ≡ false → (t : ℕ) → readyb (thread_at s t) ≡ true → threshold_at s n ≤ priority_at s t
  not_overtaken n o t r =
      let a = (held_off n o t r).1 in
      let b = best_least t r (best_some t r) in omega (arith, a, b)

  -- nobody follows only where nobody is ready
  nobody_left : (n : ℕ) → overtakesb s n ≡ false → n ≡ 32 → (t : ℕ) → readyb (thread_at s t) ≡ false
  nobody_left n o e t =
      by_test (readyb (thread_at s t))
      (λ r. absurd (let a = ltb-true n 32 (held_off n o t r).0 in omega (arith, a, e)))
      (λ r. r)

  -- ---- a replaced runner
  replaced_steady : readyb (thread_at s (runner s)) ≡ true → Steady (replaced s)
  unfolding replaced
  replaced_steady r =
      mark_steady s S (runner s) (ltb (threshold_at s (runner s)) (priority_at s (runner s)))
      (λ l. fit_mark (ltb (threshold_at s (runner s)) (priority_at s (runner s))) (thread_at s (runner s)) (S.fit (runner s) l) (and_in (readyb (thread_at s (runner s))) (ltb (threshold_at s (runner s)) (priority_at s (runner s))) r))

  replaced-line : (p : Place) → line_at (replaced s) p ≡ line_at s p
  unfolding replaced
  replaced-line p = mark-line s S (runner s) (ltb (threshold_at s (runner s)) (priority_at s (runner s))) p

  replaced-keeps : {X : Type 0} (g : Thread → X) → ((c : Bool) (th : Thread) → g (with_mark c th) ≡ g th) → (u : ℕ) → g (thread_at (replaced s) u) ≡ g (thread_at s u)
  unfolding replaced
  replaced-keeps = mark-keeps s S (runner s) (ltb (threshold_at s (runner s)) (priority_at s (runner s)))

  -- ---- the choice, by its four cases
  by_case : (P : Scheduler → Type 0) (b : Bool)
      → (readyb (thread_at s (runner s)) ≡ true → overtakesb s (runner s) ≡ true → P (dispatched (replaced s) (best_ready s)))
      → (readyb (thread_at s (runner s)) ≡ true → overtakesb s (runner s) ≡ false → P (dispatched s (runner s)))
      → (overtakesb s (best_marked s) ≡ true → P (dispatched s (best_ready s)))
      → (overtakesb s (best_marked s) ≡ false → P (dispatched s (best_marked s)))
      → P (rescheduled s b)
  unfolding staysb
  by_case P b f g h k =
      by_test (staysb s b)
      (λ y. let r = and_left (readyb (thread_at s (runner s))) (not b) y in
      by_test (overtakesb s (runner s))
      (λ o. rw (is-replaced s b y o) (f r o))
      (λ o. rw (goes_on_lem s b y o) (g r o)))
      (λ y. by_test (overtakesb s (best_marked s))
      (λ o. rw (best_follows s b y o) (h o))
      (λ o. rw (marked_follows s b y o) (k o)))

  pub rescheduled_steady : (b : Bool) → Steady (rescheduled s b)
  rescheduled_steady b =
      by_case Steady b
      (λ r o. ran_steady (replaced s) (replaced_steady r) (best_ready s))
      (λ r o. ran_steady s S (runner s))
      (λ o. ran_steady s S (best_ready s))
      (λ o. ran_steady s S (best_marked s))

  -- nobody is moved
  pub rescheduled-line : (b : Bool) (p : Place) → line_at (rescheduled s b) p ≡ line_at s p
  rescheduled-line b p =
      by_case (λ x. line_at x p ≡ line_at s p) b
      (λ r o. ran_line (replaced s) (replaced_steady r) (best_ready s) p ∙ replaced-line p)
      (λ r o. ran_line s S (runner s) p)
      (λ o. ran_line s S (best_ready s) p)
      (λ o. ran_line s S (best_marked s) p)

  -- no record changes but for its mark
  pub rescheduled-keeps : {X : Type 0} (g : Thread → X) → ((c : Bool) (th : Thread) → g (with_mark c th) ≡ g th) → (b : Bool) (u : ℕ) → g (thread_at (rescheduled s b) u) ≡ g (thread_at s u)
  rescheduled-keeps g h b u =
      by_case (λ x. g (thread_at x u) ≡ g (thread_at s u)) b
      (λ r o. ran-keeps (replaced s) (replaced_steady r) (best_ready s) g h u ∙ replaced-keeps g h u)
      (λ r o. ran-keeps s S (runner s) g h u)
      (λ o. ran-keeps s S (best_ready s) g h u)
      (λ o. ran-keeps s S (best_marked s) g h u)

  best_runs : best_ready s < 32 → Runs (dispatched s (best_ready s))
  best_runs l =
      ran_runs s S (best_ready s) (omega (arith, l)) best_is-ready
      (λ e. absurd (omega (arith, e, l)))
      (best_fit l)

  rescheduled_runs : (b : Bool) → Runs (rescheduled s b)
  rescheduled_runs b =
      by_case Runs b
      (λ r o. let l = overtaker (runner s) o in
      ran_runs (replaced s) (replaced_steady r) (best_ready s) (omega (arith, l))
      (λ u. replaced-keeps readyb mark-ready (best_ready s) ∙ best_is-ready l)
      (λ e. absurd (omega (arith, e, l)))
      (λ t e. let a = best_fit l t (sym (replaced-keeps readyb mark-ready t) ∙ e) in
      let x = replaced-keeps (λ x. x.threshold) mark-threshold (best_ready s) in
      let z = replaced-keeps (λ x. x.priority) mark-priority t in omega (arith, a, x, z)))
      (λ r o. let l = ready_small (runner s) r in
      ran_runs s S (runner s) (omega (arith, l)) (λ u. r) (λ e. absurd (omega (arith, e, l))) (not_overtaken (runner s) o))
      (λ o. best_runs (overtaker (best_marked s) o))
      (λ o. ran_runs s S (best_marked s) marked_known marked_is-ready (nobody_left (best_marked s) o) (not_overtaken (best_marked s) o))

  -- THE LAW OF THE CHOICE
  pub rescheduled_sound : (b : Bool) → Sound (rescheduled s b)
  rescheduled_sound b = record { steady = rescheduled_steady b; runs = rescheduled_runs b }
