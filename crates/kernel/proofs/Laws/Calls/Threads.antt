-- Calls 1 to 12, 38 and 39: what each does.
use mathlib.Core.Path.{◌≡◌, refl, ap}
use mathlib.Core.List.{List, [], ◌∷◌}
use mathlib.Core.Bool.{Bool, true, false, ◌&&◌, ◌||◌, not}
use Prim.Native.Nat.{ℕ, ◌<◌}
use Prim.{tt}
use native.Mathlib.Omega.{arith}
use lib.Dec.{eqb, ltb, leb}
use borrow.Author.Tests.{ltb-true, leb-true, eqb-true, eqb-false, eq-eqb}
use Rattle.std.specs.Prelude.{if◌then◌else◌}
use Rattle.lines.specs.Logic.{implies}
use Rattle.lines.proofs.Laws.Logic.{by_test, by_choice, never, and_left, and_right, or-rest}
use Rattle.scheduler.specs.declared.thread.Thread.{Thread}
use Rattle.scheduler.specs.declared.thread.Place.{Place}
use Rattle.scheduler.specs.Threads.{uncreated, readyb, waitsb, pausedb, standsb, number_of, placedb, in_state, at_rest, with_suspension, created, finishedb}
use Rattle.scheduler.specs.Changes.{with_levels, with_priority}
use Rattle.scheduler.specs.Sound.{fitb}
use Rattle.scheduler.proofs.Laws.Threads as Records
use Rattle.scheduler.proofs.Laws.States
use Rattle.calls.specs.declared.held.Held.{Held}
use Rattle.calls.specs.Held.{no_words, one_word, held_waiting}
use Rattle.calls.specs.Statuses as Statuses
use Rattle.calls.specs.Chains.{create_refusal, delete_refusal, resume_refusal, suspend_refusal, terminate_refusal, reset_refusal, thread_only_refusal, abort_refusal, priority_refusal, preemption_refusal, read_refusal}
use Rattle.waiting.specs.Fit.{held_fitb}
use Rattle.waiting.proofs.Laws.Held
use Rattle.kernel.specs.declared.Kernel.{Kernel}
use Rattle.kernel.specs.Tables.{thread_of, runner_of, held_at}
use Rattle.kernel.specs.Sound.{Fit, Sound}
use Rattle.kernel.specs.Edits.{record_by, Edit, startsb}
use Rattle.kernel.specs.Edits.Cause.{aborted}
use Rattle.kernel.specs.Edits.Move.{stops, turns}
use Rattle.kernel.specs.Edits.Edit.{moves, alters}
use Rattle.kernel.specs.Edits.Success.{done, lifted}
use Rattle.kernel.specs.Roles.{may_moveb, mayb, allb}
use Rattle.kernel.specs.Effects.{gives, does}
use Rattle.kernel.specs.Threads.{keeps, clears, create_effect, delete_effect, resume_effect, suspend_effect, terminate_effect, rest_effect, relinquish_effect, sleep_effect, abort_effect, priority_effect, preemption_effect, state_effect, words_effect}
use Rattle.kernel.proofs.Laws.Answers.{second_none, unless_none}
use Rattle.kernel.proofs.Laws.Fits
use Rattle.kernel.proofs.Laws.Lines
use Rattle.kernel.proofs.Laws.Does
use Rattle.kernel.proofs.Laws.Effects

ready_low : (th : Thread) → readyb th ≡ true → th.state < 4
unfolding readyb
ready_low th r = let z = eqb-true th.state 0 (and_right th.created (eqb th.state 0) r) in omega (arith, z)

finished_low : (th : Thread) → finishedb th ≡ true → th.state < 4
finished_low th f =
    by_test (eqb th.state 1)
    (λ q. let z = eqb-true th.state 1 q in omega (arith, z))
    (λ q. let z = eqb-true th.state 2 (or-rest (eqb th.state 1) (eqb th.state 2) f q) in omega (arith, z))

start_low : (b : Bool) → (if b then 0 else 3) < 4
start_low true = omega arith
start_low false = omega arith

module _ (k : Kernel) (F : Fit k) (t : ℕ) (made : (thread_of k t).created ≡ true) where
  small : t < 32
  small = States.created_small k.scheduler F.steady t made

  fit_old : fitb (thread_of k t) ≡ true
  fit_old = F.steady.fit t small

  -- from one state at rest to another, and something else held or the same
  turns-rest : (n a state : ℕ) (g : Held → Held) → state < 4 → (thread_of k t).state < 4 → held_fitb (at_rest state (thread_of k t)) (g (held_at k t)) ≡ true → Does.Proper k n a (does (moves t (turns (at_rest state) g) ∷ []))
  unfolding in_state
  turns-rest n a state g l was holds = Effects.proper_turn k F n a t (at_rest state) g no_words false small (States.rest-not_paused (thread_of k t) was) (States.fit-at-rest state (thread_of k t) made fit_old l) l holds

  rests : (n a state : ℕ) → state < 4 → (thread_of k t).state < 4 → Does.Proper k n a (rest_effect t state)
  unfolding rest_effect in_state
  rests n a state l was = turns-rest n a state clears l was (Held.held-status (at_rest state (thread_of k t)) made l 0 no_words refl)

  rested : (n a state : ℕ) → state < 4 → (thread_of k t).state < 4 → Does.Proper k n a (does (moves t (turns (at_rest state) keeps) ∷ []))
  unfolding in_state
  rested n a state l was = turns-rest n a state keeps l was (Held.held_same (at_rest state (thread_of k t)) (thread_of k t) made l made was (held_at k t) (F.held t small))

  -- a suspension held or lifted
  suspension : (b : Bool) → (b ≡ true → pausedb (thread_of k t) ≡ true) → Fits.Altered k t (with_suspension b (thread_of k t))
  unfolding Fits.seen with_suspension standsb readyb waitsb placedb number_of
  suspension b h = record { small = small; fit = States.fit_suspension b (thread_of k t) made fit_old h; stands = refl; placed = λ p. refl; seen = refl }

  priority_fit : (p : ℕ) → p < 32 → fitb (with_priority p (thread_of k t)) ≡ true
  priority_fit p low = Records.fit_levels p p (thread_of k t) fit_old made low (omega arith)

  -- another priority and threshold, where the place stays
  levels : (p h : ℕ) → fitb (with_levels p h (thread_of k t)) ≡ true → ((q : Place) → placedb q (with_levels p h (thread_of k t)) ≡ placedb q (thread_of k t)) → Fits.Altered k t (with_levels p h (thread_of k t))
  unfolding Fits.seen with_levels
  levels p h fit placed = record { small = small; fit = fit; stands = Records.levels_stands p h (thread_of k t); placed = placed; seen = refl }

module _ (k : Kernel) (b c : ℕ) (messages : List ℕ) (caller t : ℕ) where
  abbrev th : Thread
  th = thread_of k t

  -- ---- 1
  create_new : (p h start : ℕ) → Sound k → create_refusal t th p h start caller ≡ 0 → Does.Proper k 1 t (create_effect t p h start)
  unfolding create_refusal create_effect created pausedb
  create_new p h start S z =
      let new = created (if eqb start 1 then 0 else 3) p h in
      let one = Effects.is_true (ltb t 32 && not th.created) Statuses.thread_error _ (omega arith) z in
      let z2 = second_none _ _ z in
      let low = ltb-true p 32 (Effects.is_true (ltb p 32) Statuses.priority_error _ (omega arith) z2) in
      let under = leb-true h p (Effects.is_true (leb h p) Statuses.thresh_error _ (omega arith) (second_none _ _ z2)) in
      let l = start_low (eqb start 1) in
      Effects.proper_turn k S.fit 1 t t (λ y. new) clears no_words false
      (ltb-true t 32 (and_left (ltb t 32) (not th.created) one))
      (by_test (pausedb th) (λ q. never (and_right (ltb t 32) (not th.created) one) (ap not (States.paused-made th q))) (λ q. q))
      (States.fit_new (if eqb start 1 then 0 else 3) p h l low under) l
      (Held.held-status new refl l 0 no_words refl)

  pub create-does : (p h start : ℕ) → Does.Does k caller 1 t b c messages (create_refusal t th p h start caller) (create_effect t p h start)
  create-does p h start = Does.plain Does.none (λ S runs z. create_new p h start S z)

  -- ---- 2
  pub delete-does : Does.Does k caller 2 t b c messages (delete_refusal th caller) (delete_effect t)
  unfolding delete_refusal delete_effect uncreated
  delete-does =
      Does.plain Does.none (λ S runs z. Effects.proper_turn k S.fit 2 t t (λ y. uncreated) clears no_words false (small k S.fit t (Effects.is_true _ Statuses.thread_error _ (omega arith) z))
      (States.rest-not_paused th (finished_low th (unless_none _ Statuses.delete_error (omega arith) (second_none _ _ (second_none _ _ z))))) States.fit_none (omega arith) Held.held_none)

  -- ---- 3
  -- who can be resumed and holds no suspension is suspended
  suspended_low : th.suspending ≡ false → (eqb th.state 3 || th.suspending) ≡ true → th.state < 4
  suspended_low n w =
      by_test (eqb th.state 3)
      (λ q. let z = eqb-true th.state 3 q in omega (arith, z))
      (λ q. never (or-rest (eqb th.state 3) th.suspending w q) n)

  pub resume-does : Does.Does k caller 3 t b c messages (resume_refusal th) (resume_effect k t)
  unfolding resume_refusal resume_effect mayb with_suspension
  resume-does =
      Does.plain Does.none (λ S runs z. (let made = Effects.is_true _ Statuses.thread_error _ (omega arith) z in
      by_choice (Does.Proper k 3 t) th.suspending _ _
      (λ q. Effects.proper_one k S.fit 3 t lifted no_words false (alters t (with_suspension false)) (suspension k S.fit t made false (λ w. never w refl), refl) tt (Effects.here t) (t, with_suspension false, refl))
      (λ q. rested k S.fit t made 3 t 0 (omega arith) (suspended_low q (unless_none _ Statuses.resume_error (omega arith) (second_none _ _ z))))))

  -- ---- 4
  pub suspend-does : Does.Does k caller 4 t b c messages (suspend_refusal th) (suspend_effect k t)
  unfolding suspend_refusal suspend_effect with_suspension mayb
  suspend-does =
      Does.plain Does.none (λ S runs z. (let made = Effects.is_true _ Statuses.thread_error _ (omega arith) z in
      by_choice (Does.Proper k 4 t) (pausedb th) _ _
      (λ q. Effects.proper_alter k S.fit 4 t t (with_suspension true) no_words (suspension k S.fit t made true (λ w. q)) refl (Effects.here t))
      (λ q. by_choice (Does.Proper k 4 t) (readyb th) _ _
      (λ r. rested k S.fit t made 4 t 3 (omega arith) (ready_low th r))
      (λ r. Effects.proper_none k S.fit 4 t no_words))))

  -- ---- 5
  stops_proper : Sound k → th.created ≡ true → Does.Proper k 5 t (does (moves t stops ∷ []))
  unfolding record_by startsb mayb may_moveb allb Lines.unstartedb in_state
  stops_proper S made =
      let F = S.fit in
      Effects.proper_one k F 5 t done no_words false (moves t stops)
      (record { small = small k F t made; fit = States.fit-at-rest 2 th made (fit_old k F t made) (omega arith); was = tt; is = States.rest-not_paused (at_rest 2 th) (omega arith); blank = tt }) made (eq-eqb t t refl) refl

  pub terminate-does : Does.Does k caller 5 t b c messages (terminate_refusal th caller) (terminate_effect k t)
  unfolding terminate_refusal terminate_effect
  terminate-does =
      Does.plain (tt, tt, tt, tt, refl, tt, tt) (λ S runs z. by_choice (Does.Proper k 5 t) (finishedb th) _ _ (λ q. Effects.proper_none k S.fit 5 t no_words) (λ q. stops_proper S (Effects.is_true _ Statuses.thread_error _ (omega arith) z)))

  -- ---- 6
  pub reset-does : Does.Does k caller 6 t b c messages (reset_refusal th caller) (rest_effect t 3)
  unfolding reset_refusal
  reset-does =
      Does.plain Does.none (λ S runs z. rests k S.fit t (Effects.is_true _ Statuses.thread_error _ (omega arith) z) 6 t 3 (omega arith) (finished_low th (unless_none _ Statuses.not_done (omega arith) (second_none _ _ (second_none _ _ z)))))

  -- ---- 7, 8, 9: the running thread
  abbrev r : ℕ
  r = runner_of k

  runner_small : (eqb caller 2 ≡ true → r < 32) → thread_only_refusal caller ≡ 0 → r < 32
  unfolding thread_only_refusal
  runner_small runs z = runs (unless_none (eqb caller 2) Statuses.caller_error (omega arith) z)

  runner_low : Sound k → r < 32 → (thread_of k r).state < 4
  runner_low S l = let z = Effects.runner-ready k S l in omega (arith, z)

  pub finish-does : Does.Does k caller 7 t b c messages (thread_only_refusal caller) (rest_effect r 1)
  finish-does = Does.plain Does.none (λ S runs z. (let l = runner_small runs z in rests k S.fit r (Effects.runner-made k S l) 7 t 1 (omega arith) (runner_low S l)))

  pub relinquish-does : Does.Does k caller 8 t b c messages (thread_only_refusal caller) (relinquish_effect k)
  unfolding relinquish_effect
  relinquish-does =
      Does.plain Does.none (λ S runs z. (let l = runner_small runs z in
      Effects.proper_turn k S.fit 8 t r (λ y. y) keeps no_words true l (States.rest-not_paused (thread_of k r) (runner_low S l)) (S.fit.steady.fit r l) (runner_low S l) (S.fit.held r l)))

  pub sleep-does : (ticks : ℕ) → Does.Does k caller 9 t b c messages (thread_only_refusal caller) (sleep_effect k ticks)
  unfolding in_state implies may_moveb sleep_effect
  sleep-does ticks =
      Does.plain Does.none (λ S runs z. by_choice (Does.Proper k 9 t) (eqb ticks 0) _ _
      (λ q. Effects.proper_none k S.fit 9 t no_words)
      (λ q. Effects.proper-start k S.fit 9 t S (runner_small runs z) false 4 0 ticks held_waiting (omega arith) (omega arith) (λ y. refl) (let some = eqb-false ticks 0 q in omega (arith, some))
      (λ y m e. Held.held-waiting y m (omega (arith, e)) (λ i. omega (arith, e, i)) (λ i. omega (arith, e, i)))
      (Fits.wait_none k (in_state 4 0 ticks (thread_of k r)) held_waiting (omega arith)) refl))

  -- ---- 10
  pub abort-does : Does.Does k caller 10 t b c messages (abort_refusal th) (abort_effect t)
  unfolding abort_refusal abort_effect may_moveb
  abort-does =
      Does.plain (tt, tt, tt, tt, tt, refl, tt) (λ S runs z. Effects.proper_end k S.fit 10 t t aborted no_words refl (unless_none _ Statuses.wait_abort_error (omega arith) (second_none _ _ z)) (eq-eqb t t refl))

  -- ---- 11, 12
  pub priority-does : (p : ℕ) → Does.Does k caller 11 t b c messages (priority_refusal th p caller) (priority_effect k t p)
  unfolding priority_refusal priority_effect with_levels mayb
  priority-does p =
      Does.plain Does.none (λ S runs z. (let made = Effects.is_true _ Statuses.thread_error _ (omega arith) z in
      let low = ltb-true p 32 (Effects.is_true (ltb p 32) Statuses.priority_error _ (omega arith) (second_none _ _ z)) in
      by_choice (λ (es : List Edit). Does.Proper k 11 t (gives (one_word th.priority) es)) (readyb th) _ _
      (λ y. let l = ready_low th y in
      Effects.proper_turn k S.fit 11 t t (with_priority p) keeps _ false (small k S.fit t made) (States.rest-not_paused th l) (priority_fit k S.fit t made p low) l
      (Held.held_same (with_priority p th) th made l made l (held_at k t) (S.fit.held t (small k S.fit t made))))
      (λ y. Effects.proper_alter k S.fit 11 t t (with_priority p) _ (levels k S.fit t made p p (priority_fit k S.fit t made p low) (λ q. Records.levels_placed p p th y q)) refl (Effects.here t))))

  pub preemption-does : (h : ℕ) → Does.Does k caller 12 t b c messages (preemption_refusal th h caller) (preemption_effect k t h)
  unfolding preemption_refusal preemption_effect with_levels mayb
  preemption-does h =
      Does.plain Does.none (λ S runs z. Effects.proper_alter k S.fit 12 t t (λ y. with_levels y.priority h y) _
      (let made = Effects.is_true _ Statuses.thread_error _ (omega arith) z in
      let le = leb-true h th.priority (Effects.is_true _ Statuses.thresh_error _ (omega arith) (second_none _ _ z)) in
      let fit = fit_old k S.fit t made in
      levels k S.fit t made th.priority h (Records.fit_levels th.priority h th fit made (Records.fit_low th fit) le) (λ q. Records.same_levels_placed h th q)) refl (Effects.here t))

  -- ---- 38, 39
  pub state-does : Does.Does k caller 38 t b c messages (read_refusal th) (state_effect k t)
  unfolding state_effect
  state-does = Does.plain Does.none (λ S runs z. Effects.proper_none k S.fit 38 t _)

  pub words-does : Does.Does k caller 39 t b c messages (read_refusal th) (words_effect k t)
  unfolding words_effect
  words-does = Does.plain Does.none (λ S runs z. Effects.proper_none k S.fit 39 t _)
