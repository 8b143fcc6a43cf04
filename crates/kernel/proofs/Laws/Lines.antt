-- The line of every place after any edits.
use mathlib.Core.Path.{◌≡◌, refl, sym, ap, ◌∙◌}
use mathlib.Core.List.{List, [], ◌∷◌, ◌++◌, append-nil}
use mathlib.Core.Bool.{Bool, true, false, not}
use Prim.Native.Nat.{ℕ, ◌<◌}
use lib.Dec.{eqb}
use borrow.Author.Tests.{eqb-true, eq-eqb, not-true}
use Rattle.std.specs.Prelude.{if◌then◌else◌}
use Rattle.lines.specs.Logic.{one_if}
use Rattle.lines.specs.Lists.{without, only_if, prioritised, less}
use Rattle.lines.proofs.Laws.Logic.{by_test, by_choice, never, and_left, and_right, and_in}
use Rattle.lines.proofs.Laws.Lists
use Rattle.lines.proofs.Laws.Less
use Rattle.scheduler.specs.declared.thread.Thread.{Thread}
use Rattle.scheduler.specs.declared.thread.Place.{Place}
use Rattle.scheduler.specs.declared.Scheduler.{Scheduler}
use Rattle.scheduler.specs.Threads.{placedb}
use Rattle.scheduler.specs.Sound.{fitb, Steady}
use Rattle.scheduler.specs.Orders.{priority_at, line_at, with_thread, joined, prioritised_at}
use Rattle.scheduler.proofs.Laws.Threads.{other_place}
use Rattle.scheduler.proofs.Laws.Orders
use Rattle.kernel.specs.declared.Kernel.{Kernel}
use Rattle.kernel.specs.Tables.{thread_of, with_scheduler, with_held, with_clock}
use Rattle.kernel.specs.Kinds.{place_of}
use Rattle.kernel.specs.Edits.{Move, record_by, frontb, Edit, edited, applied, gathered, mover, movers, startsb, sameb, leavesb, line_by, lines_by}
use Rattle.kernel.specs.Edits.Cause.{served, deleted, timed_out, aborted}
use Rattle.kernel.specs.Edits.Move.{ends, starts, stops, turns}
use Rattle.kernel.specs.Edits.Edit.{moves, alters, counts, ranks, stores, sets}
use Rattle.kernel.specs.Roles.{allb}
use Rattle.kernel.proofs.Laws.Edits
use Rattle.kernel.proofs.Laws.Objects
use Rattle.kernel.proofs.Laws.Fits

-- ---- places
pub same_place : (p q : Place) → sameb p q ≡ true → p ≡ q
same_place p q e =
    let a = eqb-true p.state q.state (and_left (eqb p.state q.state) (eqb p.number q.number) e) in
    let b = eqb-true p.number q.number (and_right (eqb p.state q.state) (eqb p.number q.number) e) in
    λ i. record { state = a i; number = b i }

pub place_same : (p q : Place) → p ≡ q → sameb p q ≡ true
place_same p q z = and_in (eqb p.state q.state) (eqb p.number q.number) (eq-eqb p.state q.state (ap (λ (x : Place). x.state) z)) (eq-eqb p.number q.number (ap (λ (x : Place). x.number) z))

-- ---- the law of lines: one edit
line-joined : (s : Scheduler) → Steady s → (front : Bool) (t : ℕ) (th : Thread) → t < 32 → fitb th ≡ true → (p : Place)
    → line_at (joined s front t th) p ≡ (if front then only_if (placedb p th) t ++ without t (line_at s p) else without t (line_at s p) ++ only_if (placedb p th) t)
unfolding joined
line-joined s S true t th small f p = Orders.front-line s S t th small f p
line-joined s S false t th small f p = Orders.moved-line s S t th small f p

line_ranked : (s : Scheduler) → Steady s → (q p : Place) → line_at (prioritised_at s q) p ≡ (if sameb p q then prioritised (priority_at s) (line_at s p) else line_at s p)
line_ranked s S q p =
    by_choice (λ (l : List ℕ). line_at (prioritised_at s q) p ≡ l) (sameb p q) (prioritised (priority_at s) (line_at s p)) (line_at s p)
    (λ e. rw (same_place p q e) (Orders.prioritised_here_lem s S q))
    (λ e. Orders.prioritised_other s S q p (λ z. never (place_same p q z) e))

line_altered : (k : Kernel) → Steady k.scheduler → (t : ℕ) (th : Thread) → Fits.Altered k t th → (p : Place) → line_at (with_thread k.scheduler t th) p ≡ line_at k.scheduler p
line_altered k S t th A p = Orders.kept_line_lem k.scheduler S t th A.small p (A.placed p)

pub line_edit : (k : Kernel) → Steady k.scheduler → (e : Edit) → Fits.Requires k e → (p : Place) → line_at (edited k e).scheduler p ≡ line_by k e p (line_at k.scheduler p)
unfolding edited line_by with_held with_scheduler with_clock
line_edit k S (moves t m) G p = line-joined k.scheduler S (frontb m) t (record_by m (thread_of k t)) G.small G.fit p
line_edit k S (alters t f) G p = line_altered k S t (f (thread_of k t)) G.0 p
line_edit k S (counts t) G p = line_altered k S t _ (Fits.one_less_lem k S t G.0 G.1) p
line_edit k S (ranks d n) G p = line_ranked k.scheduler S (place_of d n) p
line_edit k S (stores d n x) G p = ap (λ (s : Scheduler). line_at s p) (Objects.stored-scheduler d k n x)
line_edit k S (sets c) G p = refl

-- and all: what the line of any place is afterwards
pub line_after : (k : Kernel) → Steady k.scheduler → (es : List Edit) → Fits.RequiresAll k es → (p : Place) → line_at (applied k es).scheduler p ≡ lines_by k es p (line_at k.scheduler p)
unfolding applied lines_by
line_after k S [] G p = refl
line_after k S (e ∷ es) G p = line_after (edited k e) (Fits.steady_edit k S e G.0) es G.1 p ∙ ap (lines_by (edited k e) es p) (line_edit k S e G.0 p)

-- ---- tests of edits
-- nobody begins to wait
unfoldable pub unstartedb : Edit → Bool
unstartedb (moves t m) = not (startsb m)
unstartedb (alters t f) = true
unstartedb (counts t) = true
unstartedb (ranks d n) = true
unstartedb (stores d n x) = true
unstartedb (sets c) = true

-- the place is not ranked
unfoldable pub unrankedb : Place → Edit → Bool
unrankedb p (moves t m) = true
unrankedb p (alters t f) = true
unrankedb p (counts t) = true
unrankedb p (ranks d n) = not (sameb p (place_of d n))
unrankedb p (stores d n x) = true
unrankedb p (sets c) = true

-- ---- waiters
module _ (p : Place) (waiters : 4 < p.state) where
  -- who moves for no cause of that place does not stand there
  pub away : (m : Move) (th : Thread) → Fits.Was m th → leavesb p m ≡ false → placedb p th ≡ false
  unfolding leavesb
  away (ends (served d i) words) th w n = other_place (place_of d i) th w p (λ z. never (place_same p (place_of d i) z) n)
  away (ends (deleted d i) words) th w n = other_place (place_of d i) th w p (λ z. never (place_same p (place_of d i) z) n)
  away (ends timed_out words) th w n = never refl n
  away (ends aborted words) th w n = never refl n
  away (starts front state object ticks h) th w n = by_test (placedb p th) (λ y. never (Fits.placed_paused p waiters th y) w) (λ y. y)
  away stops th w n = never refl n
  away (turns f g) th w n = by_test (placedb p th) (λ y. never (Fits.placed_paused p waiters th y) w) (λ y. y)

  -- who begins no wait joins no line of waiters, and not at the front
  unplaced : (k : Kernel) (t : ℕ) (m : Move) → Fits.Moved k t m → startsb m ≡ false → placedb p (record_by m (thread_of k t)) ≡ false
  unplaced k t m G n = by_test (placedb p (record_by m (thread_of k t))) (λ y. never (Fits.placed_paused p waiters (record_by m (thread_of k t)) y) (G.is ∙ n)) (λ y. y)

  behind : (m : Move) → startsb m ≡ false → frontb m ≡ false
  unfolding startsb frontb
  behind (ends c words) n = refl
  behind (starts front state object ticks h) n = never refl n
  behind stops n = refl
  behind (turns f g) n = refl

  left : (k : Kernel) → Steady k.scheduler → (t : ℕ) (m : Move) → Fits.Was m (thread_of k t) → without t (line_at k.scheduler p) ≡ less (only_if (leavesb p m) t) (line_at k.scheduler p)
  unfolding one_if
  left k S t m w =
      by_test (leavesb p m)
      (λ y. rw y (sym (Less.less_one t (line_at k.scheduler p))))
      (λ y. rw y (Lists.without_none t (line_at k.scheduler p) (Orders.line-count k.scheduler S t p ∙ ap one_if (away m (thread_of k t) w y)) ∙ sym (Less.less_none (line_at k.scheduler p))))

  -- one edit
  waiters_edit : (k : Kernel) → Steady k.scheduler → (e : Edit) → Fits.Requires k e → unstartedb e ≡ true → unrankedb p e ≡ true
      → line_at (edited k e).scheduler p ≡ less (movers (leavesb p) (e ∷ [])) (line_at k.scheduler p)
  unfolding line_by gathered unstartedb unrankedb
  waiters_edit k S e =
      let l = line_at k.scheduler p in
      let same : (e : Edit) → line_at (edited k e).scheduler p ≡ l → line_at (edited k e).scheduler p ≡ less [] l = λ e q. q ∙ sym (Less.less_none l) in
      Edits.by_edit (λ e. Fits.Requires k e → unstartedb e ≡ true → unrankedb p e ≡ true → line_at (edited k e).scheduler p ≡ less (movers (leavesb p) (e ∷ [])) l)
      (λ t m G u r. let n = not-true (startsb m) u in
      line_edit k S (moves t m) G p ∙ rw (behind m n, unplaced k t m G n) (append-nil (without t l) ∙ left k S t m G.was ∙ ap (λ (ts : List ℕ). less ts l) (sym (append-nil (only_if (leavesb p m) t)))))
      (λ t f G u r. same (alters t f) (line_edit k S (alters t f) G p)) (λ t G u r. same (counts t) (line_edit k S (counts t) G p))
      (λ d n G u r. same (ranks d n) (line_edit k S (ranks d n) G p ∙ rw (not-true (sameb p (place_of d n)) r)))
      (λ d n x G u r. same (stores d n x) (line_edit k S (stores d n x) G p)) (λ c G u r. same (sets c) (line_edit k S (sets c) G p)) e

  -- a line of waiters after edits that begin no wait and do not rank it: those who left it for a cause of that place are gone
  pub waiters-after : (k : Kernel) → Steady k.scheduler → (es : List Edit) → Fits.RequiresAll k es → allb unstartedb es ≡ true → allb (unrankedb p) es ≡ true
      → line_at (applied k es).scheduler p ≡ less (movers (leavesb p) es) (line_at k.scheduler p)
  unfolding applied gathered
  waiters-after k S [] G u r = sym (Less.less_none (line_at k.scheduler p))
  waiters-after k S (e ∷ es) G u r =
      waiters-after (edited k e) (Fits.steady_edit k S e G.0) es G.1 (Edits.all_rest unstartedb e es u) (Edits.all_rest (unrankedb p) e es r)
      ∙ ap (less (movers (leavesb p) es)) (waiters_edit k S e G.0 (Edits.all_first unstartedb e es u) (Edits.all_first (unrankedb p) e es r))
      ∙ Less.less-less (movers (leavesb p) (e ∷ [])) (movers (leavesb p) es) (line_at k.scheduler p)
      ∙ ap (λ (ts : List ℕ). less ts (line_at k.scheduler p)) (sym (Edits.gathered_then (mover (leavesb p)) e es))
