-- Calls 22 to 28: what each does.
use mathlib.Core.Path.{◌≡◌, refl, sym, ap, ◌∙◌}
use mathlib.Core.List.{List, [], ◌∷◌}
use mathlib.Core.Bool.{Bool, true, false, ◌&&◌, ◌||◌, not}
use Prim.Native.Nat.{ℕ, ◌<◌, ◌≤◌}
use Prim.{tt}
use native.Mathlib.Omega.{arith}
use lib.ListN.{length, take, drop, length-take, get_or, get_or-eq_default}
use lib.Dec.{eqb, ltb}
use borrow.Author.Tests.{ltb-false, eq-eqb}
use Rattle.std.specs.Prelude.{if◌then◌else◌}
use Rattle.lines.specs.Logic.{implies}
use Rattle.lines.specs.Lines.{pad}
use Rattle.lines.specs.Lists.{count}
use Rattle.lines.proofs.Laws.Logic.{by_test, by_choice, never, and_left, and_right, and_in, or_left, or_right, all_in}
use Rattle.lines.proofs.Laws.Lines.{get_d-pad}
use Rattle.scheduler.specs.Threads.{placedb}
use Rattle.scheduler.specs.Orders.{first_at}
use Rattle.calls.specs.declared.held.Held.{Held}
use Rattle.calls.specs.Held.{no_words, holding, held_waiting, sending, message_of}
use Rattle.calls.specs.Messages.{message_in}
use Rattle.calls.specs.Statuses as Statuses
use Rattle.calls.specs.Chains.{queue_create_refusal, queue_delete_refusal, send_refusal, receive_refusal, queue_refusal}
use Rattle.waiting.specs.Fit.{blank_from, queue_waitb}
use Rattle.waiting.proofs.Laws.Held
use Rattle.objects.specs.declared.queue.Queue.{Queue}
use Rattle.objects.specs.Queues.{emptyb, fullb, roomb, sizes_fitb, empty_queue, with_sent, left_past, flushed}
use Rattle.objects.proofs.Laws.Queues as Records
use Rattle.kernel.specs.declared.Kernel.{Kernel}
use Rattle.kernel.specs.Tables.{thread_of, runner_of, held_at, queue_at}
use Rattle.kernel.specs.Kinds.{place_of}
use Rattle.kernel.specs.Kinds.Kind.{queue}
use Rattle.kernel.specs.Sound.{Sound}
use Rattle.kernel.specs.Edits.Cause.{served}
use Rattle.kernel.specs.Edits.Move.{ends, starts}
use Rattle.kernel.specs.Edits.Edit.{stores}
use Rattle.kernel.specs.Roles.{may_moveb, mayb}
use Rattle.kernel.specs.Effects.{store_effect, remove_effect, rank_effect, waitedb, serve_effect, give_effect}
use Rattle.kernel.specs.Queues.{send_effect, past_effect, receive_effect, flush_effect}
use Rattle.kernel.specs.Uses.{Taker, Gives}
use Rattle.kernel.proofs.Laws.Answers.{second_none, unless_none}
use Rattle.kernel.proofs.Laws.Objects
use Rattle.kernel.proofs.Laws.Changes
use Rattle.kernel.proofs.Laws.Does
use Rattle.kernel.proofs.Laws.Effects
use Rattle.kernel.proofs.Laws.Uses

-- the words of a message past its size are zero
blank_message : (area : List ℕ) (index words : ℕ) → blank_from words (message_in area index words) ≡ true
unfolding blank_from message_in
blank_message area index words =
    all_in 16 (λ i. ltb i words || eqb (get_or (pad 16 (take words (drop index area))) i 0) 0)
    (λ i l. by_test (ltb i words)
    (λ q. or_left (ltb i words) (eqb (get_or (pad 16 (take words (drop index area))) i 0) 0) q)
    (λ q. or_right (ltb i words) (eqb (get_or (pad 16 (take words (drop index area))) i 0) 0)
    (eq-eqb (get_or (pad 16 (take words (drop index area))) i 0) 0
    (get_d-pad 16 (take words (drop index area)) i l
    ∙ get_or-eq_default (take words (drop index area)) 0 (let e = length-take words (drop index area) in let h = ltb-false i words q in omega (arith, e, h))))))

-- ---- who waits on a queue
module _ (h : Held) (q : Queue) where
  -- a sender waits where there is no room, and its message is clean
  sender-waits : q.created ≡ true → h.sending ≡ true → fullb q ≡ true → blank_from q.words (message_of h) ≡ true → queue_waitb h q ≡ true
  unfolding queue_waitb
  sender-waits made s f b =
      and_in q.created _ made
      (ap (λ (z : Bool). if z then (fullb q && blank_from q.words (message_of h)) else emptyb q) s ∙ and_in (fullb q) (blank_from q.words (message_of h)) f b)

  receiver-waits : q.created ≡ true → h.sending ≡ false → emptyb q ≡ true → queue_waitb h q ≡ true
  unfolding queue_waitb
  receiver-waits made s e = and_in q.created _ made (rw s e)

  module _ (w : queue_waitb h q ≡ true) where
    wait_one : (if h.sending then (fullb q && blank_from q.words (message_of h)) else emptyb q) ≡ true
    unfolding queue_waitb
    wait_one = and_right q.created _ w

    wait_empty : h.sending ≡ false → emptyb q ≡ true
    wait_empty s = sym (ap (λ (b : Bool). if b then (fullb q && blank_from q.words (message_of h)) else emptyb q) s) ∙ wait_one

    -- with messages in the store it is a sender
    wait_sends : emptyb q ≡ false → h.sending ≡ true
    wait_sends e = by_test h.sending (λ s. s) (λ s. never (wait_empty s) e)

    wait_sender : h.sending ≡ true → (fullb q && blank_from q.words (message_of h)) ≡ true
    wait_sender s = sym (ap (λ (b : Bool). if b then (fullb q && blank_from q.words (message_of h)) else emptyb q) s) ∙ wait_one

module _ (k : Kernel) (b c : ℕ) (messages : List ℕ) (caller n : ℕ) where
  abbrev q : Queue
  q = queue_at k n

  -- ---- who waits to receive waits at an empty queue, which has room
  empty : Sound k → (t : ℕ) → Taker queue k n t → emptyb q ≡ true
  empty S t T = wait_empty (held_at k t) q (Uses.taker_may queue k S.fit n t T) T.1

  room : Sound k → (t : ℕ) → Taker queue k n t → q.created ≡ true → roomb q ≡ true
  room S t T made = Records.empty_room q (Objects.object_fit queue k S.fit n made) made (empty S t T)

  -- ---- 22, 23, 28
  pub create-does : Does.Does k caller 22 n b c messages (queue_create_refusal n q b c caller) (store_effect queue n (empty_queue b c))
  unfolding queue_create_refusal mayb
  create-does = Uses.create-does k b c messages caller 22 n queue Statuses.queue_error _ (omega arith) (λ z. Records.of_fit b c (Effects.is_true (sizes_fitb b c) Statuses.size_error _ (omega arith) z)) (Effects.here n) (λ C. (C, tt, tt, tt, tt, tt, tt))

  pub delete-does : Does.Does k caller 23 n b c messages (queue_delete_refusal q caller) (remove_effect k queue n)
  unfolding queue_delete_refusal may_moveb mayb
  delete-does = Uses.delete-does k b c messages caller 23 n queue Statuses.queue_error _ (omega arith) Records.none_fit (λ t. Effects.here n) (Effects.here n) Does.none

  pub prioritize-does : Does.Does k caller 28 n b c messages (queue_refusal q) (rank_effect queue n)
  unfolding mayb
  prioritize-does = Uses.prioritize-does k b c messages caller 28 n queue _ (Effects.here n) Does.none

  -- ---- 24 and 25: one law for both numbers
  module _ (wait : ℕ) (front : Bool) where
    abbrev message : List ℕ
    message = message_in messages c q.words

    send-made : send_refusal q c (length messages) wait caller ≡ 0 → q.created ≡ true
    unfolding send_refusal
    send-made z = Effects.is_true _ Statuses.queue_error _ (omega arith) z

    send_proper : (number : ℕ) → Sound k → (eqb caller 2 ≡ true → runner_of k < 32) → send_refusal q c (length messages) wait caller ≡ 0 → may_moveb number n (first_at k.scheduler (place_of queue n)) (ends (served queue n) message) ≡ true
        → mayb number n (stores queue n (with_sent q front message)) ≡ true → may_moveb number n (runner_of k) (starts front 5 n wait (sending front message)) ≡ true → Does.Proper k number n (send_effect k n wait front message)
    unfolding send_effect send_refusal sending message_of
    send_proper number S runs z first store wait-there =
        let made = Effects.is_true _ Statuses.queue_error _ (omega arith) z in
        let fit = Objects.object_fit queue k S.fit n made in
        let may = Effects.is_true _ Statuses.wait_error _ (omega arith) (second_none _ _ (second_none _ _ z)) in
        let some = unless_none _ Statuses.queue_full (omega arith) (second_none _ _ (second_none _ _ (second_none _ _ z))) in
        by_choice (Does.Proper k number n) (roomb q) _ _
        (λ r. Uses.give_proper queue k S.fit n number n message _ (Objects.object_small queue k S.fit n made) (Records.sent_fit q fit made front message) first store)
        (λ r. let w = Effects.waiter_runs k caller wait runs may (roomb q) some r in
        Effects.proper_wait k S.fit number n S w.1 queue front n wait (sending front message) w.0 (Held.held-sending front message)
        (sender-waits (sending front message) q made refl (Records.no_room_full q fit made r) (blank_message messages c q.words)) wait-there)

    send-gives : Sound k → send_refusal q c (length messages) wait caller ≡ 0 → Gives queue k n b c messages (send_effect k n wait front message)
    unfolding send_effect give_effect serve_effect
    send-gives S z = record { first = λ a t T. rw (room S t T (send-made z), Uses.taker_waited queue k S.fit n t T) refl; stored = λ a y. never a refl; may = refl }

  pub send-does : (wait : ℕ) → Does.Does k caller 24 n b c messages (send_refusal q c (length messages) wait caller) (send_effect k n wait false (message_in messages c q.words))
  unfolding may_moveb mayb implies
  send-does wait = record { proper = λ S runs z. send_proper wait false 24 S runs z (Effects.here n) (Effects.here n) refl; role = λ S z. (tt, tt, send-gives wait false S z, tt, tt, tt, tt) }

  pub front-does : (wait : ℕ) → Does.Does k caller 25 n b c messages (send_refusal q c (length messages) wait caller) (send_effect k n wait true (message_in messages c q.words))
  unfolding may_moveb mayb implies
  front-does wait = record { proper = λ S runs z. send_proper wait true 25 S runs z (Effects.here n) (Effects.here n) (eq-eqb n n refl); role = λ S z. (tt, tt, send-gives wait true S z, tt, tt, tt, tt) }

  -- ---- 26
  -- a sender's wait ends while the others wait on: the queue stays full
  past : (f : ℕ) → Sound k → q.created ≡ true → emptyb q ≡ false → placedb (place_of queue n) (thread_of k f) ≡ true → Does.Proper k 26 n (past_effect k n f)
  unfolding past_effect may_moveb mayb
  past f S made some p =
      let front = (held_at k f).front in
      let message = message_of (held_at k f) in
      let x = left_past q front message in
      let a = Records.past_alike q front message in
      let F = S.fit in
      let fit = Objects.object_fit queue k F n made in
      let once : (u : ℕ) → count u (f ∷ []) ≤ 1 = Effects.once_only f in
      let was : (u : ℕ) → 0 < count u (f ∷ []) → placedb (place_of queue n) (thread_of k u) ≡ true = λ u l. ap (λ (v : ℕ). placedb (place_of queue n) (thread_of k v)) (Effects.only_one f u l) ∙ p in
      Effects.proper-each (served queue n) no_words tt k F (f ∷ []) once was 26 n queue n x _
      (record {
        small = Objects.object_small queue k F n made;
        fit = Records.past_fit q fit made front message;
        free = λ t l w o. (let e = (Effects.each_left (served queue n) no_words tt k F (f ∷ []) once was queue t w).1 in
            let v = Objects.waits_here queue k F n t l (Changes.kept-waits k _ t 0 e 5 ∙ w) (Changes.kept-object k _ t 0 e ∙ o) in
            let s = wait_sends (held_at k t) q v some in
            let bl = wait_sender (held_at k t) q v s in
            let full = and_left (fullb q) (blank_from q.words (message_of (held_at k t))) bl in
            ap (λ (y : Held). queue_waitb y x) e.held
            ∙ sender-waits (held_at k t) x (a.0 ∙ made) s (Records.past_full q fit made front message some full)
            (ap (λ (m : ℕ). blank_from m (message_of (held_at k t))) a.1 ∙ and_right (fullb q) (blank_from q.words (message_of (held_at k t))) bl));
      })
      (λ t. Effects.here n) (Effects.here n)

  pub receive-does : (wait : ℕ) → Does.Does k caller 26 n b c messages (receive_refusal q wait caller) (receive_effect k n wait)
  unfolding receive_refusal receive_effect holding implies may_moveb mayb
  receive-does wait =
      record {
        proper = λ S runs z. (let made = Effects.is_true _ Statuses.queue_error _ (omega arith) z in
            let may = Effects.is_true _ Statuses.wait_error _ (omega arith) (second_none _ _ z) in
            let some = unless_none _ Statuses.queue_empty (omega arith) (second_none _ _ (second_none _ _ z)) in
            by_choice (Does.Proper k 26 n) (emptyb q) _ _
            (λ e. let w = Effects.waiter_runs k caller wait runs may (not (emptyb q)) some (ap not e) in
            Effects.proper_wait k S.fit 26 n S w.1 queue false n wait held_waiting w.0 Held.held_receiving (receiver-waits held_waiting q made refl e) refl)
            (λ e. by_choice (Does.Proper k 26 n) (waitedb k queue n) _ _
            (λ y. past _ S made e (Uses.first-waits queue k S.fit n y))
            (λ y. Effects.proper-store k S.fit 26 n queue n _ _
            (record { small = Objects.object_small queue k S.fit n made; fit = Records.without_fit q (Objects.object_fit queue k S.fit n made) made; free = λ t l. Uses.nobody-waits queue k S.fit n y t }) (Effects.here n))));
        role = λ S z. (tt, record { served = λ a. never a refl; waits = λ a t T. rw (empty S t T) refl }, tt, tt, tt, tt, tt);
      }

  -- ---- 27
  pub flush-does : Does.Does k caller 27 n b c messages (queue_refusal q) (flush_effect k n)
  unfolding queue_refusal flush_effect may_moveb mayb
  flush-does =
      record {
        proper = λ S runs z. (let made = unless_none q.created Statuses.queue_error (omega arith) z in
            by_choice (Does.Proper k 27 n) (emptyb q) _ _
            (λ e. Effects.proper_none k S.fit 27 n no_words)
            (λ e. Uses.close_proper queue k S.fit n 27 n (served queue n) (flushed q) (λ th p. p) (Objects.object_small queue k S.fit n made) (Records.flushed_fit q (Objects.object_fit queue k S.fit n made) made) (λ t. Effects.here n) (Effects.here n)));
        role = λ S z. (tt, tt, tt, λ t T. rw (empty S t T) refl, tt, tt, tt);
      }
