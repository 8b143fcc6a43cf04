-- What the calls of objects share, for every kind: who waits there, who is first, and the effects that close, give, take and store.
use mathlib.Core.Path.{◌≡◌, refl, sym, ap, ◌∙◌}
use mathlib.Core.List.{List, [], ◌∷◌}
use mathlib.Core.Bool.{true, false, ◌&&◌, ◌||◌, not}
use Prim.Native.Nat.{ℕ, ◌<◌}
use native.Mathlib.Omega.{arith}
use lib.Dec.{eqb, ltb}
use borrow.Author.Tests.{eqb-true, eq-eqb, ne_eqb, lt-ltb, ltb-true, ltb-false, not-true}
use Rattle.lines.specs.Logic.{one_if, implies}
use Rattle.lines.specs.Lists.{count}
use Rattle.lines.proofs.Laws.Logic.{by_test, by_choice, never, and_left, and_right, and_in}
use Rattle.scheduler.specs.declared.thread.Thread.{Thread}
use Rattle.scheduler.specs.Threads.{readyb, waitsb, standsb, number_of, placedb}
use Rattle.scheduler.specs.Orders.{line_at, first_at}
use Rattle.scheduler.proofs.Laws.Orders
use Rattle.scheduler.proofs.Laws.States
use Rattle.scheduler.proofs.Laws.Fairness.{first_placed}
use Rattle.calls.specs.declared.held.Held.{Held}
use Rattle.calls.specs.Held.{no_words, held_waiting}
use Rattle.calls.specs.Statuses as Statuses
use Rattle.calls.specs.Chains.{unless, first_of}
use Rattle.waiting.specs.Fit.{waits_onb, semaphore_waitb, pool_waitb}
use Rattle.waiting.proofs.Laws.Held
use Rattle.kernel.specs.declared.Kernel.{Kernel}
use Rattle.kernel.specs.Tables.{thread_of, runner_of, held_at}
use Rattle.kernel.specs.Kinds.{Kind, Object, size_of, state_on, place_of, object_at, no_object, createdb, record_fitb, waitb}
use Rattle.kernel.specs.Kinds.Kind.{semaphore, queue, group, pool}
use Rattle.kernel.specs.Sound.{Fit, Sound}
use Rattle.kernel.specs.Edits.{Cause, Effect}
use Rattle.kernel.specs.Edits.Cause.{served, deleted}
use Rattle.kernel.specs.Edits.Move.{ends}
use Rattle.kernel.specs.Edits.Edit.{ranks, stores}
use Rattle.kernel.specs.Edits.Success.{done, waits}
use Rattle.kernel.specs.Roles.{may_moveb, mayb}
use Rattle.kernel.specs.Effects.{store_effect, close_effect, remove_effect, rank_effect, waitedb, serve_effect, give_effect, amount_of, one_less, take_effect}
use Rattle.kernel.specs.Uses.{Taker, accountedb, new_of, one_given, may_giveb, given_words, Creates, Takes, Gives, Role}
use Rattle.kernel.proofs.Laws.Answers.{second_none, unless_none}
use Rattle.kernel.proofs.Laws.Objects
use Rattle.kernel.proofs.Laws.Fits
use Rattle.kernel.proofs.Laws.Changes
use Rattle.kernel.proofs.Laws.Does
use Rattle.kernel.proofs.Laws.Effects

module _ (d : Kind) (k : Kernel) (F : Fit k) (i : ℕ) where
  abbrev line : List ℕ
  line = line_at k.scheduler (place_of d i)

  abbrev first : ℕ
  first = first_at k.scheduler (place_of d i)

  -- ---- who waits there
  -- who waits on the object stands in its line
  pub waits_placed : (th : Thread) → waits_onb (state_on d) th ≡ true → th.object ≡ i → placedb (place_of d i) th ≡ true
  unfolding waits_onb placedb standsb readyb waitsb number_of
  waits_placed th w o =
      let made = and_left th.created (eqb th.state (state_on d)) w in
      let e = eqb-true th.state (state_on d) (and_right th.created (eqb th.state (state_on d)) w) in
      let low = Objects.state_low d in
      rw (made, e, ne_eqb (state_on d) 0 (λ q. omega (arith, q, low)), lt-ltb 4 (state_on d) low, eq-eqb (state_on d) (state_on d) refl) (eq-eqb th.object i o)

  -- who does not stand in the line does not wait there
  pub line_others : {P : Type 0} (u : ℕ) → count u line ≡ 0 → waits_onb (state_on d) (thread_of k u) ≡ true → (thread_of k u).object ≡ i → P
  unfolding one_if
  line_others u c w o = absurd (let z = Orders.line-count k.scheduler F.steady u (place_of d i) ∙ ap one_if (waits_placed (thread_of k u) w o) in omega (arith, c, z))

  -- with nobody first nobody waits there
  pub nobody-waits : {P : Type 0} → waitedb k d i ≡ false → (t : ℕ) → waits_onb (state_on d) (thread_of k t) ≡ true → (thread_of k t).object ≡ i → P
  nobody-waits q t w o = never (waits_placed (thread_of k t) w o) (States.none_placed_there k.scheduler F.steady (place_of d i) q t)

  -- who waits to take is behind somebody who is first
  pub taker_waited : (t : ℕ) → Taker d k i t → waitedb k d i ≡ true
  taker_waited t T = by_test (waitedb k d i) (λ q. q) (λ q. never T.0 (States.none_placed_there k.scheduler F.steady (place_of d i) q t))

  -- and waits on the object, which lets it
  pub taker_may : (t : ℕ) → Taker d k i t → waitb d (held_at k t) (object_at d k i) ≡ true
  unfolding waits_onb placedb number_of
  taker_may t T =
      let th = thread_of k t in
      let p = T.0 in
      let low = Objects.state_low d in
      let made = Fits.placed-made (place_of d i) th p in
      let state = Fits.placed-state (place_of d i) th p in
      Objects.waits_here d k F i t (States.created_small k.scheduler F.steady t made) (and_in th.created _ made (eq-eqb th.state (state_on d) state)) (Fits.placed-object (place_of d i) (Objects.state_low d) th p)

  -- who is first waits there
  pub first-waits : waitedb k d i ≡ true → placedb (place_of d i) (thread_of k first) ≡ true
  first-waits q = first_placed k.scheduler (place_of d i) (ltb-true first 32 q)

  -- ---- effects
  -- the first in line is served
  pub serve_proper : (n a : ℕ) (words : List ℕ) → waitedb k d i ≡ true → may_moveb n a first (ends (served d i) words) ≡ true → Does.Proper k n a (serve_effect k d i words)
  unfolding serve_effect
  serve_proper n a words q m = Effects.proper_end k F n a first (served d i) words tt (first-waits q) m

  -- a record on which nobody waits, and the record of a new object
  pub unwaited : (x : Object d) → i < size_of d → record_fitb d x ≡ true → waitedb k d i ≡ false → Fits.Stored d k i x
  unwaited x small fit q = record { small = small; fit = fit; free = λ t l. nobody-waits q t }

  pub new-stored : (x : Object d) → (ltb i (size_of d) && not (createdb d (object_at d k i))) ≡ true → record_fitb d x ≡ true → Fits.Stored d k i x
  new-stored x new fit =
      record {
        small = ltb-true i (size_of d) (and_left (ltb i (size_of d)) _ new);
        fit = fit;
        free = λ t l w o. never (Objects.waits-created d k F i t l w o) (not-true _ (and_right (ltb i (size_of d)) _ new));
      }

  -- all waits on it end, and it gets another record
  pub close_proper : (n a : ℕ) (c : Cause) (x : Object d) → ((th : Thread) → placedb (place_of d i) th ≡ true → Fits.Was (ends c no_words) th) → i < size_of d → record_fitb d x ≡ true
      → ((t : ℕ) → may_moveb n a t (ends c no_words) ≡ true) → mayb n a (stores d i x) ≡ true → Does.Proper k n a (close_effect k c d i x)
  unfolding close_effect
  close_proper n a c x was small fit m s =
      let once : (u : ℕ) → _ = λ u. Orders.line_once k.scheduler F.steady u (place_of d i) in
      let wait : (u : ℕ) → 0 < count u line → Fits.Was (ends c no_words) (thread_of k u) = λ u q. was (thread_of k u) (Fits.line_placed k.scheduler F.steady (place_of d i) u q) in
      Effects.proper-each c no_words (Fits.blank_none c) k F line once wait n a d i x no_words
      (record {
        small = small;
        fit = fit;
        free = λ t l w o. (let e = Effects.each_left c no_words (Fits.blank_none c) k F line once wait d t w in
            line_others t e.0 (Changes.kept-waits k _ t 0 e.1 (state_on d) ∙ w) (Changes.kept-object k _ t 0 e.1 ∙ o));
      })
      m s

  -- something is given: the first in line is served, or it is stored
  pub give_proper : (number a : ℕ) (words : List ℕ) (x : Object d) → i < size_of d → record_fitb d x ≡ true → may_moveb number a first (ends (served d i) words) ≡ true → mayb number a (stores d i x) ≡ true
      → Does.Proper k number a (give_effect k d i words x)
  unfolding give_effect store_effect
  give_proper number a words x small fit m s =
      by_choice (Does.Proper k number a) (waitedb k d i) _ _
      (λ q. serve_proper number a words q m)
      (λ q. Effects.proper-store k F number a d i x no_words (record { small = small; fit = fit; free = λ t l. nobody-waits q t }) s)

-- ---- calls that are alike for every kind: create, delete, prioritise
module _ (k : Kernel) (b c : ℕ) (messages : List ℕ) (caller number n : ℕ) (d : Kind) where
  -- a new object has a fit record, and its number is free
  pub create-does : (status rest : ℕ) → 0 < status → (rest ≡ 0 → record_fitb d (new_of d b c) ≡ true) → mayb number n (stores d n (new_of d b c)) ≡ true → (Creates d k n b c (store_effect d n (new_of d b c)) → Role k number n b c messages (store_effect d n (new_of d b c)))
      → Does.Does k caller number n b c messages (first_of (unless (ltb n (size_of d) && not (createdb d (object_at d k n))) status) rest) (store_effect d n (new_of d b c))
  unfolding store_effect
  create-does status rest pos fit m role =
      let new : first_of _ rest ≡ 0 → (ltb n (size_of d) && not (createdb d (object_at d k n))) ≡ true = λ z. Effects.is_true _ status rest pos z in
      record {
        proper = λ S runs z. Effects.proper-store k S.fit number n d n (new_of d b c) no_words (new-stored d k S.fit n (new_of d b c) (new z) (fit (second_none _ rest z))) m;
        role = λ S z. role (record { free = not-true _ (and_right (ltb n (size_of d)) _ (new z)); small = ltb-true n (size_of d) (and_left (ltb n (size_of d)) _ (new z)); stored = refl });
      }

  -- the waiters get 0x01 in line order, the record is zero
  pub delete-does : (status rest : ℕ) → 0 < status → record_fitb d (no_object d) ≡ true → ((t : ℕ) → may_moveb number n t (ends (deleted d n) no_words) ≡ true) → mayb number n (stores d n (no_object d)) ≡ true → Role k number n b c messages (remove_effect k d n)
      → Does.Does k caller number n b c messages (first_of (unless (createdb d (object_at d k n)) status) rest) (remove_effect k d n)
  delete-does status rest pos fit m s role =
      Does.plain role (λ S runs z. close_proper d k S.fit n number n (deleted d n) (no_object d) (λ th p. p) (Objects.object_small d k S.fit n (Effects.is_true _ status rest pos z)) fit m s)

  pub prioritize-does : (reason : ℕ) → mayb number n (ranks d n) ≡ true → Role k number n b c messages (rank_effect d n) → Does.Does k caller number n b c messages reason (rank_effect d n)
  unfolding rank_effect
  prioritize-does reason m role = Does.plain role (λ S runs z. Effects.proper_rank k S.fit number n d n m)

  -- ---- calls of objects with an account
  module _ (counted : accountedb d ≡ true) where
    abbrev x : Object d
    x = object_at d k n

    -- whoever waits, waits where there is nothing to take
    waits_none : (d : Kind) → accountedb d ≡ true → (h : Held) (y : Object d) → waitb d h y ≡ (createdb d y && eqb (amount_of d y) 0)
    unfolding semaphore_waitb pool_waitb
    waits_none semaphore e h y = refl
    waits_none queue e h y = never e refl
    waits_none group e h y = never e refl
    waits_none pool e h y = refl

    other-state : (d : Kind) → accountedb d ≡ true → (state_on d ≡ 5 → ⊥) × (state_on d ≡ 7 → ⊥)
    other-state semaphore e = (λ z. omega (arith, z), λ z. omega (arith, z))
    other-state queue e = never e refl
    other-state group e = never e refl
    other-state pool e = (λ z. omega (arith, z), λ z. omega (arith, z))

    -- one is taken at once, or the caller waits
    module _ (wait : ℕ) (words : List ℕ) (status none : ℕ) (pos : 0 < status) (some : 0 < none) (fit : Sound k → createdb d x ≡ true → record_fitb d (one_less d x) ≡ true) (m : mayb number n (stores d n (one_less d x)) ≡ true) where
      abbrev reason : ℕ
      reason = first_of (unless (createdb d x) status) (first_of (unless (eqb wait 0 || eqb caller 2) Statuses.wait_error) (unless (ltb 0 wait || ltb 0 (amount_of d x)) none))

      take_proper : Sound k → (eqb caller 2 ≡ true → runner_of k < 32) → reason ≡ 0 → Does.Proper k number n (take_effect k d n words wait)
      unfolding take_effect may_moveb implies
      take_proper S runs z =
          let made = Effects.is_true _ status _ pos z in
          let may = Effects.is_true _ Statuses.wait_error _ (omega arith) (second_none _ _ z) in
          let w = unless_none _ none some (second_none _ _ (second_none _ _ z)) in
          let other = other-state d counted in
          let low = Objects.state_low d in
          by_choice (Does.Proper k number n) (ltb 0 (amount_of d x)) _ _
          (λ q. let l = ltb-true 0 (amount_of d x) q in
          Effects.proper-store k S.fit number n d n _ words
          (record {
            small = Objects.object_small d k S.fit n made;
            fit = fit S made;
            free = λ t. Objects.waits-not d k S.fit n t (waits_none d counted (held_at k t) x ∙ rw (made, ne_eqb (amount_of d x) 0 (λ y. omega (arith, l, y))));
          }) m)
          (λ q. let l = ltb-false 0 (amount_of d x) q in
          let v = Effects.waiter_runs k caller wait runs may (ltb 0 (amount_of d x)) w q in
          Effects.proper_wait k S.fit number n S v.1 d false n wait held_waiting v.0 (λ th i e. Held.held-waiting th i (omega (arith, e, low)) (λ y. other.0 (sym e ∙ y)) (λ y. other.1 (sym e ∙ y)))
          (waits_none d counted held_waiting x ∙ and_in (createdb d x) _ made (eq-eqb (amount_of d x) 0 (omega (arith, l)))) refl)

      takes : Sound k → Takes d k n (take_effect k d n words wait)
      unfolding take_effect
      takes S =
          record {
            served = λ a. by_choice (λ (e : Effect). e.success ≡ done → (0 < amount_of d x) × (e.edits ≡ stores d n (one_less d x) ∷ [])) (ltb 0 (amount_of d x)) _ _ (λ q s. (ltb-true 0 (amount_of d x) q, refl)) (λ q s. Does.waits-not_done s);
            waits = λ a t T. (let nothing = eqb-true (amount_of d x) 0 (and_right (createdb d x) _ (sym (waits_none d counted (held_at k t) x) ∙ taker_may d k S.fit n t T)) in
                by_choice (λ (e : Effect). e.success ≡ waits) (ltb 0 (amount_of d x)) _ _ (λ q. absurd (let l = ltb-true 0 (amount_of d x) q in omega (arith, l, nothing))) (λ q. refl));
          }

      pub take-does : (Takes d k n (take_effect k d n words wait) → Role k number n b c messages (take_effect k d n words wait)) → Does.Does k caller number n b c messages reason (take_effect k d n words wait)
      take-does role = record { proper = take_proper; role = λ S z. role (takes S) }

    -- one is given
    abbrev given : Effect
    given = give_effect k d n (given_words d k n b c messages) (one_given d x b)

    pub give-does : (reason : ℕ) → (reason ≡ 0 → createdb d x ≡ true) → (Sound k → reason ≡ 0 → (record_fitb d (one_given d x b) ≡ true) × (may_giveb d x b ≡ true)) → ((t : ℕ) → may_moveb number n t (ends (served d n) (given_words d k n b c messages)) ≡ true) → mayb number n (stores d n (one_given d x b)) ≡ true
        → (Gives d k n b c messages given → Role k number n b c messages given) → Does.Does k caller number n b c messages reason given
    unfolding give_effect serve_effect store_effect
    give-does reason made fit m s role =
        record {
          proper = λ S runs z. give_proper d k S.fit n number n _ _ (Objects.object_small d k S.fit n (made z)) (fit S z).0 (m _) s;
          role = λ S z. role (record { first = λ a t T. rw (taker_waited d k S.fit n t T) refl; stored = λ a q. rw q refl; may = (fit S z).1 });
        }
