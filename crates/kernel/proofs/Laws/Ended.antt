-- The waits that a call ends, from what its edits do to each thread.
use mathlib.Core.Path.{◌≡◌, refl, sym, ap, ◌∙◌, subst}
use mathlib.Core.List.{List, [], ◌∷◌, ◌++◌}
use mathlib.Core.Bool.{Bool, true, false, ◌&&◌, ◌||◌, not, and-true, and-false}
use Prim.Native.Nat.{ℕ, zero, suc, ◌+◌, ◌<◌, ◌≤◌, min}
use Prim.{Unit, tt}
use native.Mathlib.Omega.{arith}
use lib.ListN.{length}
use lib.Dec.{eqb, ltb}
use borrow.Author.Tests.{eqb-true, eq-eqb, ltb-true, ltb-false}
use Rattle.std.specs.Prelude.{if◌then◌else◌}
use Rattle.lines.specs.Logic.{one_if}
use Rattle.lines.specs.Lists.{numbers_from, filter, without, count}
use Rattle.lines.proofs.Laws.Logic.{by_test, by_eq, never, and_left, and_right, and_in, or-rest}
use Rattle.lines.proofs.Laws.Lists
use Rattle.lines.proofs.Laws.Less
use Rattle.scheduler.specs.declared.thread.Thread.{Thread}
use Rattle.scheduler.specs.Threads.{uncreated, terminated, asleep, on_queue, on_semaphore, on_flags, waitsb, sleepsb, pausedb, awake, in_state}
use Rattle.scheduler.proofs.Laws.Threads.{none-at}
use Rattle.scheduler.proofs.Laws.States
use Rattle.calls.specs.declared.call.Request.{Request}
use Rattle.calls.specs.declared.held.Held.{Held}
use Rattle.calls.specs.Held.{no_words, holding, held_words}
use Rattle.calls.specs.Callers.{one_of}
use Rattle.calls.specs.Services.{thread_resume, thread_suspend, thread_priority_change, thread_preemption_change, tick, semaphore_get, queue_send, queue_receive, event_flags_get, block_allocate}
use Rattle.calls.specs.Statuses as Statuses
use Rattle.waiting.specs.Ticks.{timedb, timeout_status, last_tickb}
use Rattle.kernel.specs.declared.Kernel.{Kernel}
use Rattle.kernel.specs.declared.Answer.{Answer}
use Rattle.kernel.specs.Tables.{thread_of, held_at}
use Rattle.kernel.specs.Answers.{Outcome, answer_of, refused}
use Rattle.kernel.specs.Kinds.Kind.{semaphore, queue, group, pool}
use Rattle.kernel.specs.Sound.{soundb, Sized, Sound}
use Rattle.kernel.specs.Edits.{Cause, status_by, Move, record_by, held_by, Edit, applied, gathered, movers, anyb, counted_by, counted, endsb, startsb, Success, status_of, Effect, carried_out}
use Rattle.kernel.specs.Edits.Cause.{served, deleted, timed_out, aborted}
use Rattle.kernel.specs.Edits.Move.{ends, starts, stops, turns}
use Rattle.kernel.specs.Roles.{row_of, limit_of, may_moveb, mayb, allb}
use Rattle.kernel.specs.Uses.{Role}
use Rattle.kernel.specs.Refusals.{refusals}
use Rattle.kernel.specs.General.{step, unsound, call}
use Rattle.kernel.specs.Ended.{endedb, wait_call, last_reason, unservedb, end_status, Wakes, Stays, EndedClaims}
use Rattle.kernel.proofs.Laws.Arms.{on_sound, on-unsound}
use Rattle.kernel.proofs.Laws.Objects.{by_kind}
use Rattle.kernel.proofs.Laws.Sound.{tested, passes}
use Rattle.kernel.proofs.Laws.Edits
use Rattle.kernel.proofs.Laws.Fits
use Rattle.kernel.proofs.Laws.Changes
use Rattle.kernel.proofs.Laws.Does
use Rattle.kernel.proofs.Laws.Services

-- ---- lists in which everybody stands equally often are of one length
nobody_there : (ys : List ℕ) → ((t : ℕ) → count t [] ≡ count t ys) → 0 ≡ length ys
nobody_there [] h = refl
nobody_there (y ∷ ys) h = absurd (let z = h y in let c = Lists.count_here y ys in let o = Less.count_none y in omega (arith, z, c, o))

abbrev SameLength : ℕ → Type 0
SameLength n = (xs ys : List ℕ) → length xs ≤ n → ((t : ℕ) → count t xs ≡ count t ys) → length xs ≡ length ys

-- all of one number less
same_more : (n : ℕ) → SameLength n → SameLength (suc n)
same_more n more [] ys l h = nobody_there ys h
same_more n more (x ∷ xs) ys l h =
    let a = Lists.length_without x (x ∷ xs) in
    let b = Lists.length_without x ys in
    let c = h x in
    let d = Lists.count_here x xs in
    let r = more (without x (x ∷ xs)) (without x ys) (omega (arith, a, d, l))
    (λ t. by_eq t x
    (λ e. ap (λ (v : ℕ). count v (without x (x ∷ xs))) e ∙ Lists.count-without x (x ∷ xs) ∙ sym (ap (λ (v : ℕ). count v (without x ys)) e ∙ Lists.count-without x ys))
    (λ e. Lists.count_others x t (x ∷ xs) e ∙ h t ∙ sym (Lists.count_others x t ys e))) in
    omega (arith, a, b, c, r)

same_none : SameLength 0
same_none [] ys l h = nobody_there ys h
same_none (x ∷ xs) ys l h = absurd (omega (arith, l))

same_length : (n : ℕ) → SameLength n
same_length zero = same_none
same_length (suc n) = same_more n (same_length n)

numbers_there : (i n t : ℕ) → i ≤ t → t < i + n → count t (numbers_from i n) ≡ 1
unfolding numbers_from
numbers_there i zero t l h = absurd (omega (arith, l, h))
numbers_there i (suc n) t l h =
    by_eq i t
    (λ e. let c = ap (λ (v : ℕ). count t (v ∷ numbers_from (suc i) n)) e ∙ Lists.count_here t (numbers_from (suc i) n) in let b = Lists.numbers_before (suc i) n t (omega (arith, e)) in omega (arith, c, b))
    (λ e. Lists.count_there t i (numbers_from (suc i) n) e ∙ numbers_there (suc i) n t (omega (arith, l, e)) (omega (arith, h)))

-- those below 32 of whom a test holds that holds of nobody else
count_tested : (f : ℕ → Bool) → ((t : ℕ) → 32 ≤ t → f t ≡ false) → (t : ℕ) → count t (filter f (numbers_from 0 32)) ≡ one_if (f t)
unfolding one_if
count_tested f past t =
    by_test (f t)
    (λ y. let c = Lists.count_kept f t (numbers_from 0 32) y in
    by_test (ltb t 32) (λ w. c ∙ numbers_there 0 32 t (omega arith) (let l = ltb-true t 32 w in omega (arith, l)) ∙ rw y) (λ w. never y (past t (ltb-false t 32 w))))
    (λ y. Lists.count_dropped f t (numbers_from 0 32) y ∙ rw y)

-- ---- the test of a wait that has ended, on two records
abbrev over : Thread → Thread → Bool
over a b = pausedb a && not (pausedb b) && not (eqb b.state terminated)

over_seen : (a b : Thread) → over (Fits.seen a) (Fits.seen b) ≡ over a b
unfolding Fits.seen pausedb waitsb sleepsb
over_seen a b = refl

-- nobody's wait ends where nothing changes
over_self : (a : Thread) → over a a ≡ false
over_self a = go (pausedb a)
  where
    go : (p : Bool) → (p && not p && not (eqb a.state terminated)) ≡ false
    go true = refl
    go false = refl

paused_seen : (a : Thread) → pausedb (Fits.seen a) ≡ pausedb a
unfolding Fits.seen pausedb waitsb sleepsb
paused_seen a = refl

awake_left : (th : Thread) → eqb (awake th).state terminated ≡ false
unfolding awake in_state
awake_left th = go th.suspending
  where
    go : (b : Bool) → eqb (if b then 3 else 0) 2 ≡ false
    go true = refl
    go false = refl

-- who is awake is ready or suspended
awake_low : (th : Thread) → ((awake th).state ≡ 2 → ⊥)
awake_low th z = never (eq-eqb (awake th).state 2 z) (awake_left th)

-- who waits or sleeps is in a state from 4 on
paused_low : (th : Thread) → pausedb th ≡ true → 4 ≤ th.state
paused_low th p = by_test (ltb th.state 4) (λ y. never p (States.rest-not_paused th (ltb-true th.state 4 y))) (λ y. ltb-false th.state 4 y)

-- it has ended just by the moves that end it
over-moved : (m : Move) (th : Thread) → Fits.Was m th → pausedb (record_by m th) ≡ startsb m → over th (record_by m th) ≡ endsb m
unfolding record_by startsb endsb in_state
over-moved (ends c words) th was is = rw (Fits.ends_paused c words th was, is, awake_left th)
over-moved (starts front state object ticks h) th was is = rw was
over-moved stops th was is = and-false (pausedb th && not (pausedb (record_by stops th)))
over-moved (turns f g) th was is = rw was

-- who waited and moves begins no wait
unstarted : (m : Move) (th : Thread) → Fits.Was m th → pausedb th ≡ true → startsb m ≡ false
unfolding startsb
unstarted (ends c words) th was p = refl
unstarted (starts front state object ticks h) th was p = never p was
unstarted stops th was p = refl
unstarted (turns f g) th was p = refl

-- ---- the cause of an end, and the number of the call
-- what holds of every number of a list holds of one of them
abbrev AllOf : (ℕ → Type 0) → List ℕ → Type 0
AllOf Q [] = Unit {0}
AllOf Q (m ∷ ms) = Q m × AllOf Q ms

one-of : (Q : ℕ → Type 0) (n : ℕ) (ns : List ℕ) → one_of n ns ≡ true → AllOf Q ns → Q n
one-of Q n [] e a = never e refl
one-of Q n (m ∷ ms) e a =
    by_test (eqb n m)
    (λ y. subst Q (sym (eqb-true n m y)) a.0)
    (λ y. one-of Q n ms (or-rest (eqb n m) (one_of n ms) e y) a.1)

one_of_three : (Q : ℕ → Type 0) (n : ℕ) (xs ys zs : List ℕ) → (one_of n xs || one_of n ys || one_of n zs) ≡ true → AllOf Q xs → AllOf Q ys → AllOf Q zs → Q n
one_of_three Q n xs ys zs e a b c =
    by_test (one_of n xs) (λ x. one-of Q n xs x a) (λ x.
    by_test (one_of n ys) (λ y. one-of Q n ys y b) (λ y. one-of Q n zs (sym (λ i. x i || y i || one_of n zs) ∙ e) c))

-- the last rows of the calls that may wait
record LastRows : Type 0 where
  send : last_reason refusals queue_send ≡ Statuses.queue_full
  receive : last_reason refusals queue_receive ≡ Statuses.queue_empty
  instance : last_reason refusals semaphore_get ≡ Statuses.no_instance
  flags : last_reason refusals event_flags_get ≡ Statuses.no_events
  block : last_reason refusals block_allocate ≡ Statuses.no_memory

last_rows : LastRows
unfolding last_reason refusals
last_rows = record { send = refl; receive = refl; instance = refl; flags = refl; block = refl }

-- the status of a time-out is that of the last row for what was waited for
timeout-row : (th : Thread) (h : Held) → (if eqb th.state asleep then Statuses.success else last_reason refusals (wait_call th h)) ≡ timeout_status th h
unfolding timeout_status wait_call
timeout-row th h =
    by_test (eqb th.state asleep) (λ a. rw a) (λ a.
    by_test (eqb th.state on_queue) (λ b. by_test h.sending (λ s. rw (a, b, s) last_rows.send) (λ s. rw (a, b, s) last_rows.receive)) (λ b.
    by_test (eqb th.state on_semaphore) (λ c. rw (a, b, c) last_rows.instance) (λ c.
    by_test (eqb th.state on_flags) (λ d. rw (a, b, c, d) last_rows.flags) (λ d. rw (a, b, c, d) last_rows.block))))

-- the cause is not that its object serves it
unserved_of : Cause → Bool
unserved_of (served d n) = false
unserved_of (deleted d n) = true
unserved_of timed_out = true
unserved_of aborted = true

-- what the number of a call says of the cause for which it ends waits
record Fitting (c : Cause) (n : ℕ) : Type 0 where
  status : (th : Thread) (h : Held) → end_status n th h ≡ status_by c th h
  unserved : unservedb n ≡ unserved_of c
  unaltered : one_of n (thread_resume ∷ thread_suspend ∷ thread_priority_change ∷ thread_preemption_change ∷ []) ≡ false

fits : {c : Cause} {n : ℕ} → ((th : Thread) (h : Held) → end_status n th h ≡ status_by c th h) → unservedb n ≡ unserved_of c → one_of n (thread_resume ∷ thread_suspend ∷ thread_priority_change ∷ thread_preemption_change ∷ []) ≡ false → Fitting c n
fits s u a = record { status = s; unserved = u; unaltered = a }

fitting : (c : Cause) (words : List ℕ) (n a t : ℕ) → may_moveb n a t (ends c words) ≡ true → Fitting c n
unfolding may_moveb end_status status_by unserved_of
fitting (served d i) words n a t m =
    by_kind (λ d. (one_of n (row_of d).gives || one_of n (row_of d).takes || one_of n (row_of d).empties) ≡ true → Fitting (served d i) n)
    (λ e. one_of_three (Fitting (served semaphore i)) n (row_of semaphore).gives (row_of semaphore).takes (row_of semaphore).empties e (fits (λ th h. refl) refl refl, (fits (λ th h. refl) refl refl, tt)) (fits (λ th h. refl) refl refl, tt) tt)
    (λ e. one_of_three (Fitting (served queue i)) n (row_of queue).gives (row_of queue).takes (row_of queue).empties e (fits (λ th h. refl) refl refl, (fits (λ th h. refl) refl refl, tt)) (fits (λ th h. refl) refl refl, tt) (fits (λ th h. refl) refl refl, tt))
    (λ e. one_of_three (Fitting (served group i)) n (row_of group).gives (row_of group).takes (row_of group).empties e (fits (λ th h. refl) refl refl, tt) (fits (λ th h. refl) refl refl, tt) tt)
    (λ e. one_of_three (Fitting (served pool i)) n (row_of pool).gives (row_of pool).takes (row_of pool).empties e (fits (λ th h. refl) refl refl, tt) (fits (λ th h. refl) refl refl, tt) tt)
    d (and_right (eqb i a) _ m)
fitting (deleted d i) words n a t m =
    by_kind (λ d. one_of n (row_of d).deletes ≡ true → Fitting (deleted d i) n)
    (λ e. one-of (Fitting (deleted semaphore i)) n (row_of semaphore).deletes e (fits (λ th h. refl) refl refl, tt))
    (λ e. one-of (Fitting (deleted queue i)) n (row_of queue).deletes e (fits (λ th h. refl) refl refl, tt))
    (λ e. one-of (Fitting (deleted group i)) n (row_of group).deletes e (fits (λ th h. refl) refl refl, tt))
    (λ e. one-of (Fitting (deleted pool i)) n (row_of pool).deletes e (fits (λ th h. refl) refl refl, tt))
    d (and_right (eqb i a) _ m)
fitting timed_out words n a t m = subst (Fitting timed_out) (sym (eqb-true n 15 m)) (fits timeout-row refl refl)
fitting aborted words n a t m = subst (Fitting aborted) (sym (eqb-true n 10 (and_left (eqb n 10) (eqb t a) m))) (fits (λ th h. refl) refl refl)

-- a call that ends waits alters no record where its thread stands
unaltered-all : (c : Cause) (n a : ℕ) → Fitting c n → (es : List Edit) → allb (mayb n a) es ≡ true → allb Edits.unalteredb es ≡ true
unfolding allb mayb
unaltered-all c n a f [] m = refl
unaltered-all c n a f (e ∷ es) m =
    and_in (Edits.unalteredb e) _
    (Edits.by_edit (λ e. mayb n a e ≡ true → Edits.unalteredb e ≡ true) (λ t m y. refl) (λ t g y. never (and_right (eqb t a) _ y) f.unaltered) (λ t y. refl) (λ d i y. refl) (λ d i x y. refl) (λ i y. refl) e
    (and_left (mayb n a e) _ m))
    (unaltered-all c n a f es (and_right (mayb n a e) _ m))

-- only a tick takes ticks
uncounted : (n a u : ℕ) → eqb n tick ≡ false → (es : List Edit) → allb (mayb n a) es ≡ true → count u (counted es) ≡ 0
unfolding gathered count allb mayb
uncounted n a u y [] m = refl
uncounted n a u y (e ∷ es) m =
    let more = uncounted n a u y es (and_right (mayb n a e) _ m) in
    Edits.by_edit (λ e. mayb n a e ≡ true → count u (counted_by e ++ counted es) ≡ 0) (λ t m z. more) (λ t g z. more) (λ t z. never z y) (λ d i z. more) (λ d i x z. more) (λ i z. more) e
    (and_left (mayb n a e) _ m)

blank-words : (c : Cause) (words : List ℕ) → Fits.Blank c words → unserved_of c ≡ true → words ≡ no_words
unfolding unserved_of
blank-words (served d n) words b u = never u refl
blank-words (deleted d n) words b u = b
blank-words timed_out words b u = b
blank-words aborted words b u = b

-- the status of an end reads no more of a record than its state
status_seen : (c : Cause) (th : Thread) (h : Held) → status_by c (Fits.seen th) h ≡ status_by c th h
unfolding status_by timeout_status Fits.seen
status_seen (served d n) th h = refl
status_seen (deleted d n) th h = refl
status_seen timed_out th h = refl
status_seen aborted th h = refl

-- ---- a call that is carried out
module _ (k : Kernel) (S : Sound k) (n a : ℕ) (e : Effect) (P : Does.Proper k n a e) (u : ℕ) where
  abbrev x : Kernel
  x = (carried_out k e).kernel

  abbrev y : Kernel
  y = applied k e.edits

  -- whom no edit moves is as it was
  still : count u (movers anyb e.edits) ≡ 0 → Changes.Kept k x u (count u (counted e.edits) + 0)
  still z = Changes.kept_then k y x u _ 0 (Changes.kept-all k S.fit.steady e.edits P.requires u z) (Does.chosen_kept k n a e P u)

  by-mover : {Q : Type 0} → (count u (movers anyb e.edits) ≡ 0 → Q) → (Changes.MovedOnce k y e.edits u → Q) → Q
  by-mover f g =
      by_eq (count u (movers anyb e.edits)) 0 f
      (λ z. g (Changes.moved_once k S.fit.steady S.fit.held_sized e.edits P.requires u (let o = P.once u in omega (arith, o, z))))

  still-ended : count u (movers anyb e.edits) ≡ 0 → endedb k x u ≡ false
  unfolding endedb
  still-ended z = sym (over_seen (thread_of k u) (thread_of x u)) ∙ ap (over (Fits.seen (thread_of k u))) (still z).seen ∙ over_self (Fits.seen (thread_of k u))

  module _ (W : Changes.MovedOnce k y e.edits u) where
    abbrev th : Thread
    th = thread_of W.at u

    moved_seen : Fits.seen (thread_of x u) ≡ Fits.seen (record_by W.move th)
    moved_seen = (Does.chosen_kept k n a e P u).seen ∙ W.seen

    moved-ended : endedb k x u ≡ endsb W.move
    unfolding endedb
    moved-ended =
        sym (over_seen (thread_of k u) (thread_of x u))
        ∙ (λ i. over (sym W.kept.seen i) (moved_seen i))
        ∙ over_seen th (record_by W.move th) ∙ over-moved W.move th W.was W.is

  -- it is in the list exactly if its wait has ended
  listed : count u (movers endsb e.edits) ≡ one_if (endedb k x u)
  unfolding one_if
  listed =
      by-mover
      (λ z. let p = Changes.part_moves endsb e.edits u in let o = ap one_if (still-ended z) in omega (arith, z, p, o))
      (λ W. W.alone endsb ∙ ap one_if (sym (moved-ended W)))

  -- what it is then
  woken : (W : Changes.MovedOnce k y e.edits u) (c : Cause) (words : List ℕ) → W.move ≡ ends c words → Wakes n k x u
  unfolding record_by held_by status_by awake in_state holding held_words Fits.levels Fits.seen mayb
  woken W c words is =
      let m : may_moveb n a u (ends c words) ≡ true = subst (λ (v : Move). may_moveb n a u v ≡ true) is (W.among (mayb n a) P.may) in
      let f = fitting c words n a u m in
      let unaltered = unaltered-all c n a f e.edits P.may in
      let levels = Does.chosen_levels k n a e P u ∙ W.after unaltered ∙ ap (λ (v : Move). Fits.levels (record_by v (thread_of W.at u))) is in
      let before = W.before unaltered in
      let seen = moved_seen W ∙ ap (λ (v : Move). Fits.seen (record_by v (thread_of W.at u))) is in
      let held = (Does.chosen_kept k n a e P u).held ∙ W.held ∙ ap (λ (v : Move). held_by v (thread_of W.at u) (held_at W.at u)) is in
      let made = States.paused-made (thread_of W.at u) (Fits.ends_paused c words (thread_of W.at u) (subst (λ (v : Move). Fits.Was v (thread_of W.at u)) is W.was)) in
      record {
        state = ap (λ (t : Thread). t.state) seen ∙ ap (λ (t : Thread). if t.suspending then 3 else 0) before;
        created = ap (λ (t : Thread). t.created) seen ∙ made;
        priority = ap (λ (t : Thread). t.priority) levels ∙ ap (λ (t : Thread). t.priority) before;
        threshold = ap (λ (t : Thread). t.threshold) levels ∙ ap (λ (t : Thread). t.threshold) before;
        status = ap (λ (h : Held). h.status) held ∙ sym (status_seen c (thread_of W.at u) (held_at W.at u)) ∙ (λ i. status_by c (W.kept.seen i) (W.kept.held i)) ∙ status_seen c (thread_of k u) (held_at k u) ∙ sym (f.status (thread_of k u) (held_at k u));
        words = λ q. ap held_words held ∙ blank-words c words (subst Fits.BlankMove is W.blank) (sym f.unserved ∙ q);
      }

  wakes : endedb k x u ≡ true → Wakes n k x u
  unfolding endsb
  wakes q = by-mover (λ z. never q (still-ended z)) (λ W. go W W.move refl (sym (moved-ended W) ∙ q))
    where
      go : (W : Changes.MovedOnce k y e.edits u) (m : Move) → W.move ≡ m → endsb m ≡ true → Wakes n k x u
      go W (ends c words) is q = woken W c words is
      go W (starts front state object ticks h) is q = never q refl
      go W stops is q = never q refl
      go W (turns f g) is q = never q refl

  -- who waits on is as it was
  moved-not_paused : (W : Changes.MovedOnce k y e.edits u) → pausedb (thread_of k u) ≡ true → pausedb (thread_of x u) ≡ false
  moved-not_paused W p =
      let was = sym (paused_seen (thread_of W.at u)) ∙ ap pausedb W.kept.seen ∙ paused_seen (thread_of k u) ∙ p in
      sym (paused_seen (thread_of x u)) ∙ ap pausedb (moved_seen W) ∙ paused_seen (record_by W.move (thread_of W.at u)) ∙ W.is ∙ unstarted W.move (thread_of W.at u) W.was was

  -- and loses a tick only by a tick, where it is timed
  module _ (b c : ℕ) (messages : List ℕ) (R : Role k n a b c messages e) (p : pausedb (thread_of k u) ≡ true) where
    counted_here : count u (movers anyb e.edits) ≡ 0 → count u (counted e.edits) ≡ one_if (eqb n tick && timedb (thread_of k u))
    unfolding one_if
    counted_here z =
        let th = thread_of k u in
        by_test (eqb n tick)
        (λ y. let T = Does.when R.6 y in
        let small = States.created_small k.scheduler S.fit.steady u (States.paused-made th p) in
        by_test (last_tickb th)
        (λ q. absurd (let v = T.over anyb refl u small ∙ ap one_if q in omega (arith, v, z)))
        (λ q. T.less u small ∙ ap one_if (ap (λ (v : Bool). timedb th && not v) q ∙ and-true (timedb th) ∙ sym (ap (λ (v : Bool). v && timedb th) y))))
        (λ y. uncounted n a u y e.edits P.may ∙ sym (ap (λ (v : Bool). one_if (v && timedb th)) y))

    tick_done : (eqb n tick && eqb (carried_out k e).status 0) ≡ eqb n tick
    unfolding carried_out status_of
    tick_done =
        by_test (eqb n tick)
        (λ y. ap (λ (s : Success). eqb n tick && eqb (status_of s) 0) (Does.when R.6 y).done ∙ and-true (eqb n tick))
        (λ y. rw y)

    stays : pausedb (thread_of x u) ≡ true → Stays n (carried_out k e).status k x u
    unfolding Fits.seen
    stays q =
        by-mover
        (λ z. let K = still z in
        let o = counted_here z ∙ ap (λ (v : Bool). one_if (v && timedb (thread_of k u))) (sym tick_done) in
        record {
          state = ap (λ (t : Thread). t.state) K.seen;
          object = ap (λ (t : Thread). t.object) K.seen;
          held = K.held;
          ticks = (let t = K.ticks in omega (arith, t, o));
        })
        (λ W. never q (moved-not_paused W p))

  -- who waited and is terminated moved by a terminate that names it
  stops_by : pausedb (thread_of k u) ≡ true → (thread_of x u).state ≡ terminated → (n ≡ 5) × (a ≡ u)
  unfolding Fits.seen record_by mayb may_moveb
  stops_by p s =
      by-mover
      (λ z. absurd (let same = ap (λ (t : Thread). t.state) (still z).seen in let low = paused_low (thread_of k u) p in omega (arith, same, low, s)))
      (λ W. go W W.move refl (sym (paused_seen (thread_of W.at u)) ∙ ap pausedb W.kept.seen ∙ paused_seen (thread_of k u) ∙ p))
    where
      go : (W : Changes.MovedOnce k y e.edits u) (m : Move) → W.move ≡ m → pausedb (thread_of W.at u) ≡ true → (n ≡ 5) × (a ≡ u)
      go W (ends c words) is w =
          absurd (awake_low (thread_of W.at u) (sym (ap (λ (t : Thread). t.state) (moved_seen W ∙ ap (λ (v : Move). Fits.seen (record_by v (thread_of W.at u))) is)) ∙ s))
      go W (starts front state object ticks h) is w = never w (subst (λ (v : Move). Fits.Was v (thread_of W.at u)) is W.was)
      go W stops is w =
          let m : may_moveb n a u stops ≡ true = subst (λ (v : Move). may_moveb n a u v ≡ true) is (W.among (mayb n a) P.may) in
          (eqb-true n 5 (and_left (eqb n 5) (eqb u a) m), sym (eqb-true u a (and_right (eqb n 5) (eqb u a) m)))
      go W (turns f g) is w = never w (subst (λ (v : Move). Fits.Was v (thread_of W.at u)) is W.was)

-- ---- any call
stepped : (k : Kernel) → Sound k → (n a b c : ℕ) (messages : List ℕ) (o : Outcome) → Does.Step k n a b c messages o → (u : ℕ) → count u o.ended ≡ one_if (endedb k o.kernel u)
unfolding refused carried_out endedb one_if
stepped k S n a b c messages o (Does.refuses s z is) u = subst (λ (r : Outcome). count u r.ended ≡ one_if (endedb k r.kernel u)) (sym is) (Less.count_none u ∙ sym (ap one_if (over_self (thread_of k u))))
stepped k S n a b c messages o (Does.carries e is P role) u = subst (λ (r : Outcome). count u r.ended ≡ one_if (endedb k r.kernel u)) (sym is) (listed k S n a e P u)

wakes_by : (k : Kernel) → Sound k → (n a b c : ℕ) (messages : List ℕ) (o : Outcome) → Does.Step k n a b c messages o → (u : ℕ) → endedb k o.kernel u ≡ true → Wakes n k o.kernel u
unfolding refused endedb
wakes_by k S n a b c messages o (Does.refuses s z is) u = subst (λ (r : Outcome). endedb k r.kernel u ≡ true → Wakes n k r.kernel u) (sym is) (λ q. never q (over_self (thread_of k u)))
wakes_by k S n a b c messages o (Does.carries e is P role) u = subst (λ (r : Outcome). endedb k r.kernel u ≡ true → Wakes n k r.kernel u) (sym is) (wakes k S n a e P u)

stays_by : (k : Kernel) → Sound k → (n a b c : ℕ) (messages : List ℕ) (o : Outcome) → Does.Step k n a b c messages o → (u : ℕ) → pausedb (thread_of k u) ≡ true → pausedb (thread_of o.kernel u) ≡ true → Stays n o.status k o.kernel u
unfolding refused one_if
stays_by k S n a b c messages o (Does.refuses s z is) u p =
    subst (λ (r : Outcome). pausedb (thread_of r.kernel u) ≡ true → Stays n r.status k r.kernel u) (sym is)
    (λ q. record { state = refl; object = refl; held = refl; ticks = rw (z, and-false) (omega arith) })
stays_by k S n a b c messages o (Does.carries e is P role) u p =
    subst (λ (r : Outcome). pausedb (thread_of r.kernel u) ≡ true → Stays n r.status k r.kernel u) (sym is) (stays k S n a e P u b c messages role p)

stops-step : (k : Kernel) → Sound k → (n a b c : ℕ) (messages : List ℕ) (o : Outcome) → Does.Step k n a b c messages o → (u : ℕ) → pausedb (thread_of k u) ≡ true → (thread_of o.kernel u).state ≡ terminated → (n ≡ 5) × (a ≡ u)
unfolding refused
stops-step k S n a b c messages o (Does.refuses s z is) u p = subst (λ (r : Outcome). (thread_of r.kernel u).state ≡ terminated → (n ≡ 5) × (a ≡ u)) (sym is) (λ t. absurd (let low = paused_low (thread_of k u) p in omega (arith, low, t)))
stops-step k S n a b c messages o (Does.carries e is P role) u p = subst (λ (r : Outcome). (thread_of r.kernel u).state ≡ terminated → (n ≡ 5) × (a ≡ u)) (sym is) (stops_by k S n a e P u p)

module _ (k : Kernel) (q : Request) (messages : List ℕ) where
  call_is : Sound k → answer_of (step k q messages) ≡ call k q messages
  call_is S = on_sound k q messages refl (ap not (passes k S))

  -- past the table nobody waits
  past : length k.scheduler.threads ≡ 32 → (x : Kernel) (t : ℕ) → 32 ≤ t → endedb k x t ≡ false
  unfolding endedb uncreated pausedb waitsb sleepsb
  past sized x t l = rw (none-at k.scheduler t sized l)

  abbrev Counted : Answer → Type 0
  Counted r = r.ended ≡ length (filter (endedb k r.kernel) (numbers_from 0 32))

  counts_sound : Sound k → Counted (answer_of (step k q messages))
  unfolding answer_of
  counts_sound S =
      same_length (length (step k q messages).ended) (step k q messages).ended _ (omega arith)
      (λ t. stepped k S q.number _ q.b q.c messages _ (Services.step-does k q messages S) t ∙ sym (count_tested _ (past S.fit.steady.sized _) t))

  counts-unsound : Sized k → Counted (unsound k)
  unfolding unsound endedb
  counts-unsound Z = same_length 0 [] _ (omega arith) (λ t. Less.count_none t ∙ sym (Lists.count_dropped (endedb k k) t (numbers_from 0 32) (over_self (thread_of k t))))

  call_counts : Sized k → Counted (call k q messages)
  call_counts Z =
      by_test (soundb k)
      (λ e. let S = tested k Z e in subst Counted (call_is S) (counts_sound S))
      (λ e. subst Counted (on-unsound k q messages refl (ap not e)) (counts-unsound Z))

  call_wakes : Sound k → (t : ℕ) → endedb k (call k q messages).kernel t ≡ true → Wakes q.number k (call k q messages).kernel t
  unfolding answer_of
  call_wakes S t = subst (λ (r : Answer). endedb k r.kernel t ≡ true → Wakes q.number k r.kernel t) (call_is S) (wakes_by k S q.number _ q.b q.c messages _ (Services.step-does k q messages S) t)

  call_stays : Sound k → (t : ℕ) → pausedb (thread_of k t) ≡ true → pausedb (thread_of (call k q messages).kernel t) ≡ true → Stays q.number (call k q messages).status k (call k q messages).kernel t
  unfolding answer_of
  call_stays S t p = subst (λ (r : Answer). pausedb (thread_of r.kernel t) ≡ true → Stays q.number r.status k r.kernel t) (call_is S) (stays_by k S q.number _ q.b q.c messages _ (Services.step-does k q messages S) t p)

  call_stops : Sound k → (t : ℕ) → pausedb (thread_of k t) ≡ true → (thread_of (call k q messages).kernel t).state ≡ terminated → (q.number ≡ 5) × (q.a ≡ t)
  unfolding answer_of limit_of
  call_stops S t p s =
      let (i, a) = subst (λ (r : Answer). (thread_of r.kernel t).state ≡ terminated → (q.number ≡ 5) × (min q.a (limit_of q.number) ≡ t)) (call_is S) (stops-step k S q.number _ q.b q.c messages _ (Services.step-does k q messages S) t p) s in
      let l : limit_of q.number ≡ 32 = ap limit_of i in
      let low = States.created_small k.scheduler S.fit.steady t (States.paused-made (thread_of k t) p) in
      (i, omega (arith, a, l, low))

pub ended : EndedClaims
ended =
    record {
      listed = λ k S q messages. stepped k S q.number _ q.b q.c messages _ (Services.step-does k q messages S);
      counted = λ k Z q messages. call_counts k q messages Z;
      wakes = λ k S q messages. call_wakes k q messages S;
      stays = λ k S q messages. call_stays k q messages S;
      stops = λ k S q messages. call_stops k q messages S;
    }
