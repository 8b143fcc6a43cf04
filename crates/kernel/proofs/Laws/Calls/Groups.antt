-- Calls 29 to 32: what each does.
use mathlib.Core.Path.{◌≡◌, refl, ap, ◌∙◌}
use mathlib.Core.List.{List}
use mathlib.Core.Bool.{Bool, true, false, not}
use Prim.Native.Nat.{ℕ, ◌<◌, ◌≤◌}
use Prim.{tt}
use native.Mathlib.Omega.{arith}
use lib.Bits.{bit_and, bit_or}
use lib.Dec.{eqb, leb}
use borrow.Author.Tests.{not-true}
use Rattle.lines.specs.Logic.{implies, one_if}
use Rattle.lines.specs.Lists.{count, filter}
use Rattle.lines.proofs.Laws.Logic.{by_test, by_choice, never, and_right, and_in}
use Rattle.lines.proofs.Laws.Lists
use Rattle.scheduler.specs.Threads.{placedb}
use Rattle.scheduler.specs.Orders.{line_at}
use Rattle.scheduler.proofs.Laws.Orders
use Rattle.calls.specs.declared.held.Held.{Held}
use Rattle.calls.specs.Held.{no_words, one_word, requesting}
use Rattle.calls.specs.Statuses as Statuses
use Rattle.calls.specs.Chains.{group_create_refusal, group_delete_refusal, set_refusal, get_refusal}
use Rattle.waiting.specs.Fit.{group_waitb}
use Rattle.waiting.proofs.Laws.Held
use Rattle.objects.specs.Groups.{group_with, group_fitb, metb, clear_of, less_flags}
use Rattle.objects.proofs.Laws.Groups as Records
use Rattle.kernel.specs.declared.Kernel.{Kernel}
use Rattle.kernel.specs.Tables.{thread_of, held_at, group_at}
use Rattle.kernel.specs.Kinds.{place_of}
use Rattle.kernel.specs.Kinds.Kind.{group}
use Rattle.kernel.specs.Sound.{Sound}
use Rattle.kernel.specs.Edits.Cause.{served}
use Rattle.kernel.specs.Roles.{may_moveb, mayb}
use Rattle.kernel.specs.Effects.{store_effect, remove_effect}
use Rattle.kernel.specs.Groups.{woken_by, clears_by, set_or_effect, set_effect, flags_get_effect}
use Rattle.kernel.proofs.Laws.Answers.{second_none, unless_none}
use Rattle.kernel.proofs.Laws.Objects
use Rattle.kernel.proofs.Laws.Fits
use Rattle.kernel.proofs.Laws.Changes
use Rattle.kernel.proofs.Laws.Does
use Rattle.kernel.proofs.Laws.Effects
use Rattle.kernel.proofs.Laws.Uses

-- ---- who waits for flags
-- one whom the flags do not meet
unmet-waits : (h : Held) (flags : ℕ) → metb flags h.request h.option ≡ false → group_waitb h (group_with flags) ≡ true
unfolding group_waitb group_with
unmet-waits h flags e = rw e

-- part of the flags does not meet whom the flags do not meet
less_unmet : (flags others request option : ℕ) → metb flags request option ≡ false → metb (less_flags flags others) request option ≡ false
less_unmet flags others request option e = by_test (metb (less_flags flags others) request option) (λ m. never (Records.met_less flags others request option m) e) (λ m. m)

part_unmet : (flags other request option : ℕ) → metb flags request option ≡ false → metb (bit_and flags other) request option ≡ false
part_unmet flags other request option e = by_test (metb (bit_and flags other) request option) (λ m. never (Records.met-part flags other request option m) e) (λ m. m)

with_fit : (flags : ℕ) → group_fitb (group_with flags) ≡ true
unfolding group_with
with_fit flags = refl

module _ (k : Kernel) (b c : ℕ) (messages : List ℕ) (caller n : ℕ) where
  abbrev flags_of : ℕ
  flags_of = (group_at k n).flags

  -- flags that meet nobody who waits
  flags-stored : (flags : ℕ) → Sound k → (group_at k n).created ≡ true → ((h : Held) → metb flags_of h.request h.option ≡ false → metb flags h.request h.option ≡ false) → Fits.Stored group k n (group_with flags)
  unfolding group_waitb
  flags-stored flags S made less =
      record {
        small = Objects.object_small group k S.fit n made;
        fit = with_fit flags;
        free = λ t l w o. unmet-waits (held_at k t) flags (less (held_at k t) (not-true _ (and_right (group_at k n).created _ (Objects.waits_here group k S.fit n t l w o))));
      }

  -- ---- 29, 30
  pub create-does : Does.Does k caller 29 n b c messages (group_create_refusal n (group_at k n) caller) (store_effect group n (group_with 0))
  unfolding group_create_refusal mayb
  create-does = Uses.create-does k b c messages caller 29 n group Statuses.group_error _ (omega arith) (λ z. with_fit 0) (Effects.here n) (λ C. (C, tt, tt, tt, tt, tt, tt))

  pub delete-does : Does.Does k caller 30 n b c messages (group_delete_refusal (group_at k n) caller) (remove_effect k group n)
  unfolding group_delete_refusal may_moveb mayb
  delete-does = Uses.delete-does k b c messages caller 30 n group Statuses.group_error _ (omega arith) Records.none_fit (λ t. Effects.here n) (Effects.here n) Does.none

  -- ---- 31
  -- those whose requests the flags meet are served, and who is left is not met
  set-or : (flags : ℕ) → Sound k → (group_at k n).created ≡ true → Does.Proper k 31 n (set_or_effect k n flags)
  unfolding set_or_effect woken_by may_moveb mayb one_if
  set-or flags S made =
      let F = S.fit in
      let met : ℕ → Bool = λ t. metb flags (held_at k t).request (held_at k t).option in
      let line = line_at k.scheduler (place_of group n) in
      let woken = filter met line in
      let left = less_flags flags (clears_by k n flags) in
      let once : (u : ℕ) → count u woken ≤ 1 = λ u. (let p = Lists.count-part met u line in let o = Orders.line_once k.scheduler F.steady u (place_of group n) in omega (arith, p, o)) in
      let was : (u : ℕ) → 0 < count u woken → placedb (place_of group n) (thread_of k u) ≡ true = λ u l. Fits.line_placed k.scheduler F.steady (place_of group n) u (let p = Lists.count-part met u line in omega (arith, p, l)) in
      Effects.proper-each (served group n) (one_word flags) tt k F woken once was 31 n group n (group_with left) no_words
      (record {
        small = Objects.object_small group k S.fit n made;
        fit = with_fit left;
        free = λ t l w o. (let e = Effects.each_left (served group n) (one_word flags) tt k F woken once was group t w in
            let v = Changes.kept-waits k _ t 0 e.1 7 ∙ w in
            let i = Changes.kept-object k _ t 0 e.1 ∙ o in
            let unmet : met t ≡ false = by_test (met t)
            (λ m. absurd (let a = Lists.count_kept met t line m in
            let z = Orders.line-count k.scheduler F.steady t (place_of group n) ∙ ap one_if (Uses.waits_placed group k F n (thread_of k t) v i) in let y = e.0 in omega (arith, a, z, y)))
            (λ m. m) in
            ap (λ (h : Held). group_waitb h (group_with left)) e.1.held ∙ unmet-waits (held_at k t) left (less_unmet flags (clears_by k n flags) (held_at k t).request (held_at k t).option unmet));
      })
      (λ t. Effects.here n) (Effects.here n)

  pub set_does : (flags option : ℕ) → Does.Does k caller 31 n b c messages (set_refusal (group_at k n) option) (set_effect k n flags option)
  unfolding set_refusal set_effect store_effect mayb
  set_does flags option =
      record {
        proper = λ S runs z. (let made = Effects.is_true _ Statuses.group_error _ (omega arith) z in
            by_choice (Does.Proper k 31 n) (eqb option 0) _ _
            (λ q. set-or (bit_or flags_of flags) S made)
            (λ q. Effects.proper-store k S.fit 31 n group n _ no_words (flags-stored _ S made (λ h m. part_unmet flags_of flags h.request h.option m)) (Effects.here n)));
        role = λ S z. (tt, tt, record { first = λ a. never a refl; stored = λ a. never a refl; may = refl }, tt, tt, tt, tt);
      }

  -- ---- 32
  pub get-does : (request option wait : ℕ) → Does.Does k caller 32 n b c messages (get_refusal (group_at k n) request option wait caller) (flags_get_effect k n request option wait)
  unfolding get_refusal flags_get_effect group_waitb requesting may_moveb mayb implies
  get-does request option wait =
      record {
        proper = λ S runs z. (let made = Effects.is_true _ Statuses.group_error _ (omega arith) z in
            let known = Effects.is_true (leb option 3) Statuses.option_error _ (omega arith) (second_none _ _ z) in
            let may = Effects.is_true _ Statuses.wait_error _ (omega arith) (second_none _ _ (second_none _ _ z)) in
            let some = unless_none _ Statuses.no_events (omega arith) (second_none _ _ (second_none _ _ (second_none _ _ z))) in
            by_choice (Does.Proper k 32 n) (metb flags_of request option) _ _
            (λ m. Effects.proper-store k S.fit 32 n group n _ _ (flags-stored _ S made (λ h u. less_unmet flags_of (clear_of request option) h.request h.option u)) (Effects.here n))
            (λ m. let w = Effects.waiter_runs k caller wait runs may (metb flags_of request option) some m in
            Effects.proper_wait k S.fit 32 n S w.1 group false n wait (requesting request option) w.0 (Held.held-requesting request option known) (and_in (group_at k n).created _ made (ap not m)) refl));
        role = λ S z. (tt, record { served = λ a. never a refl; waits = λ a. never a refl }, tt, tt, tt, tt, tt);
      }
