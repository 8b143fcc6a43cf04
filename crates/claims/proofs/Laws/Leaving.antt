-- How a member leaves by the call that strikes it off the roll.
use mathlib.Core.Path.{◌≡◌, refl, sym, ap, ◌∙◌, subst}
use mathlib.Core.List.{List, [], ◌∷◌}
use mathlib.Core.Bool.{Bool, true, false, ◌&&◌, ◌||◌}
use Prim.Native.Nat.{ℕ, ◌<◌}
use native.Mathlib.Omega.{arith}
use lib.Dec.{eqb}
use lib.Seq.{get_or-set_same}
use borrow.Author.Tests.{eqb-true, eq-eqb, ne_eqb, ltb-true}
use Rattle.std.specs.Prelude.{if◌then◌else◌}
use Rattle.lines.specs.Logic.{one_if}
use Rattle.lines.specs.Lists.{count, first, Begins}
use Rattle.lines.proofs.Laws.Logic.{by_test, by_eq, by_choice, and_left, and_right, or-rest}
use Rattle.lines.proofs.Laws.Lists
use Rattle.lines.proofs.Laws.Less
use Rattle.scheduler.specs.declared.thread.Thread.{Thread}
use Rattle.scheduler.specs.declared.thread.Place.{Place}
use Rattle.scheduler.specs.Threads.{pausedb, placedb, in_state, awake, finishedb}
use Rattle.scheduler.proofs.Laws.States
use Rattle.scheduler.proofs.Laws.Orders
use Rattle.scheduler.specs.Orders.{first_at}
use Rattle.calls.specs.declared.held.Held.{Held}
use Rattle.calls.specs.Held.{no_words, no_held, holding, held_words, message_of}
use Rattle.calls.specs.Statuses as Statuses
use Rattle.waiting.specs.Fit.{queue_waitb, blank_from}
use Rattle.waiting.proofs.Laws.Held as Waiting
use Rattle.objects.specs.declared.queue.Queue.{Queue}
use Rattle.objects.specs.Queues.{capacity_of, emptyb, fullb, roomb, queue_fitb}
use Rattle.objects.proofs.Laws.Queues as Records
use Rattle.kernel.proofs.Laws.Objects
use Rattle.kernel.proofs.Laws.Fits
use Rattle.kernel.proofs.Laws.Does
use Rattle.kernel.proofs.Laws.Ended.{ended}
use Rattle.kernel.specs.Ended.{endedb, wait_call, last_reason, unservedb, end_status}
use Rattle.kernel.specs.Refusals.{refusals}
use Rattle.calls.specs.Services.{semaphore_get, queue_receive, event_flags_get, block_allocate}
use Rattle.kernel.specs.declared.Kernel.{Kernel}
use Rattle.kernel.specs.Tables.{thread_of, held_at, with_scheduler, with_held}
use Rattle.kernel.specs.Kinds.{Kind, state_on, place_of, object_at, waitb, record_fitb}
use Rattle.kernel.specs.Kinds.Kind.{semaphore, queue, group, pool}
use Rattle.kernel.specs.Edits.{Cause, status_by, Move, record_by, held_by, frontb, Edit, edited, applied, status_of, Effect, carried_out}
use Rattle.kernel.specs.Edits.Cause.{served, aborted}
use Rattle.kernel.specs.Edits.Move.{ends, stops}
use Rattle.kernel.specs.Edits.Edit.{moves}
use Rattle.kernel.specs.Roles.{limit_of}
use Rattle.kernel.specs.Threads.{terminate_effect, abort_effect}
use Rattle.kernel.specs.Uses.{rolledb, given_words, Role}
use Rattle.claims.specs.Lists.{Made, answer, next}
use Rattle.claims.specs.Rolls.{Entry, names, each, rest, unnamed, givesb, prioritises_or_deletesb, succeedsb, waiters_of, strike_out, rolled, Ends, nothing_there, Left, Kept}
use Rattle.claims.proofs.Laws.Steps.{target, next_sound, by-step}
use Rattle.claims.proofs.Laws.Served.{waiter_takes}
use Rattle.claims.proofs.Laws.Rolls

-- ---- whom a call strikes off
-- a giving call the first
struck-first : (r : List Entry) (l : List ℕ) → Begins (names r) l → (u : ℕ) → 0 < count u (names r) → count u (names (rest r)) ≡ 0 → first l ≡ u
unfolding names rest
struck-first [] l b u c z = absurd (let y = Less.count_none u in omega (arith, c, y))
struck-first (e ∷ es) l b u c z =
    Lists.begins-first e.thread (names es) l b
    ∙ by_eq e.thread u (λ q. q) (λ q. absurd (let y = Lists.count_there u e.thread (names es) q in omega (arith, c, z, y)))

-- terminate and abort the thread that they name
kept-unnamed : (a u : ℕ) → (a ≡ u → ⊥) → (r : List Entry) → count u (names (each (unnamed a) r)) ≡ count u (names r)
unfolding names each unnamed
kept-unnamed a u n [] = refl
kept-unnamed a u n (e ∷ es) =
    by_eq e.thread a
    (λ q. rw (eq-eqb e.thread a q) (kept-unnamed a u n es ∙ sym (Lists.count_there u e.thread (names es) (λ y. n (sym q ∙ y)))))
    (λ q. rw (ne_eqb e.thread a q) (counted_too e.thread (names (each (unnamed a) es)) (names es) (kept-unnamed a u n es)))
  where
    counted_too : (v : ℕ) (xs ys : List ℕ) → count u xs ≡ count u ys → count u (v ∷ xs) ≡ count u (v ∷ ys)
    counted_too v xs ys q = let a = Lists.count-append u (v ∷ []) xs in let b = Lists.count-append u (v ∷ []) ys in omega (arith, a, b, q)

struck-named : (a u : ℕ) (r : List Entry) → 0 < count u (names r) → count u (names (each (unnamed a) r)) ≡ 0 → a ≡ u
struck-named a u r c z = by_eq a u (λ q. q) (λ q. absurd (let y = kept-unnamed a u q r in omega (arith, c, z, y)))

-- ---- those who wait to take
-- senders and receivers never share a line
receives_too : (q : Queue) → queue_fitb q ≡ true → (g h : Held) → queue_waitb g q ≡ true → g.sending ≡ false → queue_waitb h q ≡ true → h.sending ≡ false
unfolding queue_waitb emptyb roomb fullb
receives_too q fit g h a receives b =
    by_test h.sending
    (λ s. let made = and_left q.created _ a in
    let empty : emptyb q ≡ true = sym (ap (λ (i : Bool). if i then (fullb q && blank_from q.words (message_of g)) else emptyb q) receives) ∙ and_right q.created _ a in
    let full = and_left (fullb q) (blank_from q.words (message_of h)) (sym (ap (λ (i : Bool). if i then (fullb q && blank_from q.words (message_of h)) else emptyb q) s) ∙ and_right q.created _ b) in
    let room = ltb-true q.stored (capacity_of q) (Records.empty_room q fit made empty) in
    let same = eqb-true q.stored (capacity_of q) full in
    absurd (omega (arith, room, same)))
    (λ s. s)

-- ---- what a tick leaves whoever waits to take
-- the call that it made
take_of : Kind → ℕ
take_of semaphore = semaphore_get
take_of queue = queue_receive
take_of group = event_flags_get
take_of pool = block_allocate

last_row : (d : Kind) → last_reason refusals (take_of d) ≡ nothing_there d
unfolding take_of last_reason refusals
last_row semaphore = refl
last_row queue = refl
last_row group = refl
last_row pool = refl

took : (d : Kind) (th : Thread) (h : Held) → th.state ≡ state_on d → h.sending ≡ false → wait_call th h ≡ take_of d
unfolding wait_call take_of
took semaphore th h s f = rw s
took queue th h s f = rw (s, f)
took group th h s f = rw s
took pool th h s f = rw s

time_out : (d : Kind) (th : Thread) (h : Held) → th.state ≡ state_on d → h.sending ≡ false → end_status 15 th h ≡ nothing_there d
unfolding end_status
time_out d th h s f =
    ap (λ (b : Bool). if b then Statuses.success else last_reason refusals (wait_call th h)) (ne_eqb th.state 4 (λ z. let low = Objects.state_low d in omega (arith, s, z, low)))
    ∙ ap (last_reason refusals) (took d th h s f) ∙ last_row d

-- a thread in the same state on the same object stands at the same place
same_place : (p : Place) → 4 < p.state → (a b : Thread) → a.created ≡ b.created → a.state ≡ b.state → a.object ≡ b.object → placedb p a ≡ placedb p b
unfolding Fits.seen
same_place p waiters a b c s o =
    sym (Fits.placed_seen p waiters a)
    ∙ ap (placedb p) (λ i. record { created = c i; state = s i; priority = 0; threshold = 0; marked = false; suspending = false; object = o i; ticks = 0 })
    ∙ Fits.placed_seen p waiters b

module _ (d : Kind) (o : rolledb d ≡ true) (n t : ℕ) (k : Kernel) (r : List Entry) (L : Rolls.Lasts d n t k r) (m : Made) where
  -- all on the roll wait to take
  take_all : (u : ℕ) → 0 < count u (names r) → (held_at k u).sending ≡ false
  take_all u c =
      let F = L.sound.fit in
      let p = place_of d n in
      let waits : (v : ℕ) → 0 < count v (names r) → waitb d (held_at k v) (object_at d k n) ≡ true = λ v i. (let y = Rolls.placed d o n t k r L m v i in
      Objects.waits_here d k F n v (Rolls.small d o n t k r L m v i) (Waiting.in-state (state_on d) (thread_of k v) (Fits.placed-made p (thread_of k v) y) (Fits.placed-state p (thread_of k v) y)) (Fits.placed-object p (Objects.state_low d) (thread_of k v) y)) in
      by_eq (state_on d) 5
      (λ z. let q = Objects.same_kind d queue z in
      subst (λ (b : Kind). waitb b (held_at k t) (object_at b k n) ≡ true → waitb b (held_at k u) (object_at b k n) ≡ true → record_fitb b (object_at b k n) ≡ true → (held_at k u).sending ≡ false) (sym q)
      (λ a b fit. receives_too (object_at queue k n) fit (held_at k t) (held_at k u) a L.takes b) (waits t L.stands) (waits u c) (Objects.object_fit d k F n (Rolls.made d o n t k r L m)))
      (λ z. waiter_takes d n k F z u (Rolls.placed d o n t k r L m u c))

  abbrev words : List ℕ
  words = given_words d k n m.request.b m.request.c m.messages

  -- ---- by a call that is carried out
  module _ (e : Effect) (P : Does.Proper k m.request.number (target m) e) (R : Role k m.request.number (target m) m.request.b m.request.c m.messages e) where
    abbrev x : Kernel
    x = (carried_out k e).kernel

    -- of one who moves alone
    alone : (u : ℕ) (w : Move) → u < 32 → e.edits ≡ moves u w ∷ [] → (held_at x u ≡ held_by w (thread_of k u) (held_at k u)) × ((thread_of x u).state ≡ (record_by w (thread_of k u)).state)
    unfolding applied edited with_held with_scheduler held_at Fits.seen
    alone u w small q =
        let K = Does.chosen_kept k m.request.number (target m) e P u in
        let F = L.sound.fit in
        let after = ap (λ (es : List Edit). applied k es) q in (
          K.held ∙ ap (λ (y : Kernel). held_at y u) after ∙ get_or-set_same k.held u _ no_held (let h = F.held_sized in omega (arith, small, h)),
          ap (λ (th : Thread). th.state) K.seen ∙ ap (λ (y : Kernel). (thread_of y u).state) after
              ∙ ap (λ (th : Thread). th.state) (Fits.joined_self k.scheduler F.steady (frontb w) u (record_by w (thread_of k u)) small),
        )

    -- of one whose wait alone ends
    ends_alone : (u : ℕ) (c : Cause) (ws : List ℕ) → u < 32 → e.edits ≡ moves u (ends c ws) ∷ [] → count u (waiters_of d n x) ≡ 0 → Ends d n u k x (status_by c (thread_of k u) (held_at k u)) ws
    unfolding record_by held_by awake in_state holding held_words
    ends_alone u c ws small q gone =
        let (held, state) = alone u (ends c ws) small q in
        record { gone = gone; state = state; status = ap (λ (h : Held). h.status) held; words = ap held_words held }

    module _ (u : ℕ) (c : 0 < count u (names r)) (gone : count u (waiters_of d n x) ≡ 0) where
      small : u < 32
      small = Rolls.small d o n t k r L m u c

      left-served : givesb d n m ≡ true → count u (names (rest r)) ≡ 0 → Left d n u k x m
      unfolding status_by first_at
      left-served g z =
          Left.served g
          (ends_alone u (served d n) words small
          (ap (λ (f : Effect). f.edits) (Rolls.first-served d o n t k r L m e P R g) ∙ ap (λ (v : ℕ). moves v (ends (served d n) words) ∷ []) (struck-first r (waiters_of d n k) L.rolls.begins u c z)) gone)

      -- the thread that is named
      named : limit_of m.request.number ≡ 32 → m.request.a ≡ u → target m ≡ u
      named l q = let s = small in omega (arith, l, q, s)

      left-named : (eqb m.request.number 5 || eqb m.request.number 10) ≡ true → count u (names (each (unnamed m.request.a) r)) ≡ 0 → Left d n u k x m
      unfolding status_by record_by held_by in_state limit_of terminate_effect abort_effect
      left-named g z =
          let a = struck-named m.request.a u r c z in
          by_test (eqb m.request.number 5)
          (λ y. let i = eqb-true m.request.number 5 y in
          let v = named (ap limit_of i) a in
          let q = ap (λ (f : Effect). f.edits) (Does.when R.4 y) in
          let alive : finishedb (thread_of k (target m)) ≡ false = by_test (finishedb (thread_of k (target m))) (λ f. absurd (Rolls.finished-not d o n t k r L m u (ap (λ (w : ℕ). finishedb (thread_of k w)) (sym v) ∙ f) c)) (λ f. f) in
          let (held, state) = alone u stops small (q ∙ rw alive (ap (λ (w : ℕ). moves w stops ∷ []) v)) in
          Left.stopped i a (record { gone = gone; state = state; held = held }))
          (λ y. let i = eqb-true m.request.number 10 (or-rest (eqb m.request.number 5) (eqb m.request.number 10) g y) in
          let v = named (ap limit_of i) a in
          Left.aborted i a (ends_alone u aborted no_words small (ap (λ (f : Effect). f.edits) (Does.when R.5 (eq-eqb m.request.number 10 i)) ∙ ap (λ (w : ℕ). moves w (ends aborted no_words) ∷ []) v) gone))

      left_done : (m.request.number ≡ 15 → ⊥) → count u (names (strike_out d n m r)) ≡ 0 → Left d n u k x m
      unfolding strike_out
      left_done no-tick =
          by_choice (λ (s : List Entry). count u (names s) ≡ 0 → Left d n u k x m) (givesb d n m) _ _ left-served
          (λ g. by_choice (λ (s : List Entry). count u (names s) ≡ 0 → Left d n u k x m) (eqb m.request.number 5 || eqb m.request.number 10) _ _ left-named
          (λ i. by_choice (λ (s : List Entry). count u (names s) ≡ 0 → Left d n u k x m) (eqb m.request.number 15) _ _ (λ j z. absurd (no-tick (eqb-true m.request.number 15 j))) (λ j z. absurd (omega (arith, c, z)))))

  -- ---- by a tick
  module _ (u : ℕ) (c : 0 < count u (names r)) (gone : count u (waiters_of d n (next k m)) ≡ 0) (i : m.request.number ≡ 15) where
    there : placedb (place_of d n) (thread_of k u) ≡ true
    there = Rolls.placed d o n t k r L m u c

    waited : pausedb (thread_of k u) ≡ true
    waited = Fits.placed_paused (place_of d n) (Objects.state_low d) (thread_of k u) there

    -- it waits no more, since it would stand in the line
    not-waiting : pausedb (thread_of (next k m) u) ≡ false
    unfolding next answer one_if
    not-waiting =
        by_test (pausedb (thread_of (next k m) u))
        (λ w. let stays = ended.stays k L.sound m.request m.messages u waited w in
        let same = same_place (place_of d n) (Objects.state_low d) (thread_of (next k m) u) (thread_of k u) (States.paused-made (thread_of (next k m) u) w ∙ sym (States.paused-made (thread_of k u) waited)) stays.state stays.object in
        let here = Orders.line-count (next k m).scheduler (next_sound k L.sound m).fit.steady u (place_of d n) ∙ ap one_if (same ∙ there) in
        absurd (omega (arith, here, gone)))
        (λ w. w)

    -- and no tick terminates
    not-terminated : eqb (thread_of (next k m) u).state 2 ≡ false
    unfolding next answer
    not-terminated =
        by_test (eqb (thread_of (next k m) u).state 2)
        (λ w. absurd (let (j, a) = ended.stops k L.sound m.request m.messages u waited (eqb-true (thread_of (next k m) u).state 2 w) in omega (arith, i, j)))
        (λ w. w)

    left-ticked : Left d n u k (next k m) m
    unfolding next answer endedb
    left-ticked =
        let w = ended.wakes k L.sound m.request m.messages u (rw (waited, not-waiting, not-terminated) refl) in
        Left.timed_out i
        (record {
          gone = gone;
          state = w.state;
          status = w.status ∙ ap (λ (j : ℕ). end_status j (thread_of k u) (held_at k u)) i ∙ time_out d (thread_of k u) (held_at k u) (Fits.placed-state (place_of d n) (thread_of k u) there) (take_all u c);
          words = w.words (ap (λ (j : ℕ). unservedb j) i);
        })

  -- ---- by any call
  pub kept : (prioritises_or_deletesb d n m && succeedsb (answer k m)) ≡ false → Kept d n k r m
  unfolding rolled succeedsb
  kept kept-order =
      let N = Rolls.next_passes d o n t k r L m kept-order in
      record {
        begins = N.rolls.begins;
        left = λ u c z. by_eq m.request.number 15 (left-ticked u c (N.gone u c z)) (λ j. by-step k L.sound m (λ s y. count u (names (if eqb s 0 then strike_out d n m r else r)) ≡ 0 → count u (waiters_of d n y) ≡ 0 → Left d n u k y m)
            (λ s f w gone. absurd (let q : count u (names r) ≡ 0 = rw f at w in omega (arith, c, q)))
            (λ e P R w gone. by_test (eqb (status_of e.success) 0) (λ y. left_done e P R u c gone j (rw y at w)) (λ y. absurd (let q : count u (names r) ≡ 0 = rw y at w in omega (arith, c, q))))
            z (N.gone u c z));
      }
