-- Every call's effect has words for data, where the tables, the arguments and the message words are words.
use Rattle.std.specs.Prelude.{Option, Some, None}
use mathlib.Core.Path.{◌≡◌, refl}
use mathlib.Core.List.{List, [], ◌∷◌, ◌++◌}
use mathlib.Core.Bool.{Bool, false}
use Prim.Native.Nat.{ℕ, ◌+◌, ◌-◌, ◌<◌, min}
use Prim.{tt}
use native.Mathlib.Omega.{arith}
use native.Mathlib.Nat.{mod-lt}
use lib.ListN.{take, drop}
use lib.Bits.{bit_or, bit_xor, or_lt, and_le_l}
use lib.Dec.{eqb, ltb}
use Rattle.numbers.specs.Numbers.{message_words, slots}
use Rattle.lines.proofs.Laws.Logic.{by_choice}
use Rattle.lines.proofs.Laws.Lines.{length-pad}
use Rattle.scheduler.specs.declared.thread.Thread.{Thread}
use Rattle.scheduler.specs.Threads.{asleep, uncreated, readyb, pausedb, finishedb, in_state, with_suspension, created}
use Rattle.scheduler.specs.Changes.{with_levels}
use Rattle.scheduler.specs.Orders.{first_at}
use Rattle.objects.specs.declared.queue.Queue.{Queue}
use Rattle.objects.specs.Semaphores.{largest_count}
use Rattle.objects.specs.Queues.{emptyb, roomb, empty_queue, used_words, stored_words, storing, without_oldest, with_last, with_first, with_sent, left_past, flushed}
use Rattle.objects.specs.Groups.{group_with, metb, less_flags}
use Rattle.blocks.specs.declared.pool.Pool.{Pool}
use Rattle.blocks.specs.Pools.{listing, fresh_pool, without_next, with_free}
use Rattle.calls.specs.declared.call.Call.{Call}
use Rattle.calls.specs.declared.held.Held.{Held}
use Rattle.calls.specs.Held.{no_words, one_word, held_waiting, sending, requesting, message_of}
use Rattle.calls.specs.Messages.{message_in}
use Rattle.calls.specs.Calls.{known_call}
use Rattle.calls.proofs.Laws.Calls.{by_number}
use Rattle.waiting.specs.Ticks.{next_time, timedb, at_zerob}
use Rattle.kernel.specs.declared.Kernel.{Kernel}
use Rattle.kernel.specs.Tables.{thread_of, runner_of, held_at, semaphore_at, queue_at, group_at, pool_at}
use Rattle.kernel.specs.Kinds.{Kind, Object, state_on, place_of, object_at, no_object}
use Rattle.kernel.specs.Kinds.Kind.{semaphore, queue, group, pool}
use Rattle.kernel.specs.Edits.{Cause, applied, Effect}
use Rattle.kernel.specs.Edits.Cause.{served, deleted, timed_out}
use Rattle.kernel.specs.Edits.Edit.{stores}
use Rattle.kernel.specs.Effects.{gives, begins, ends_each, store_effect, close_effect, remove_effect, rank_effect, serve_effect, waitedb, give_effect, counting, amount_of, one_less, take_effect}
use Rattle.kernel.specs.Threads.{keeps, clears, create_effect, delete_effect, resume_effect, suspend_effect, terminate_effect, rest_effect, relinquish_effect, sleep_effect, abort_effect, priority_effect, preemption_effect, state_effect, words_effect}
use Rattle.kernel.specs.Clock.{clock_effect, clock_set_effect, threads_with, counts_each, ticks_taken, timeouts, tick_effect}
use Rattle.kernel.specs.Semaphores.{semaphore_get_effect, put_effect}
use Rattle.kernel.specs.Queues.{send_effect, past_effect, receive_effect, flush_effect}
use Rattle.kernel.specs.Groups.{set_or_effect, set_effect, flags_get_effect}
use Rattle.kernel.specs.Pools.{allocate_effect, release_effect}
use Rattle.kernel.specs.Chains.{chain_of, chained}
use Rattle.kernel.specs.General.{effect_of}
use Rattle.kernel.proofs.Laws.Answers.{put_low, ceiling_low}
use Rattle.kernel.proofs.Laws.Refusals.{not-refused}
use Rattle.kernel.proofs.Laws.Objects.{by_kind}
use Rattle.words.specs.Words.{Word}
use Rattle.codec.specs.Restored.{All, Array}
use Rattle.codec.proofs.Laws.Arrays.{all_append, all_take, all_drop, all_replicate}
use Rattle.boundary.proofs.Laws.Worded.{words_padded, no_words_lem, HeldWords, ObjectWords, holding-words, none-held, none-object, Worded, held-words, object-words, KeepsTicks, KeepsHeld, EditWords}

-- the edits of an effect have words for data
abbrev pub EffectWords : Effect → Type 0
EffectWords e = All EditWords e.edits

-- ---- data
one-word : (w : ℕ) → Word w → Array Word message_words (one_word w)
one-word w h = record { size = refl; each = (h, all_replicate Word (message_words - 1) 0 (omega arith)) }

held-waiting : HeldWords held_waiting
held-waiting = holding-words _ no_words (omega arith) no_words_lem

held-sending : (front : Bool) (message : List ℕ) → Array Word message_words message → HeldWords (sending front message)
unfolding sending
held-sending front message w = record { status = omega arith; words = w; request = omega arith }

held-requesting : (request option : ℕ) → Word request → HeldWords (requesting request option)
unfolding requesting
held-requesting request option h = record { status = omega arith; words = no_words_lem; request = h }

message-words : (h : Held) → HeldWords h → Array Word message_words (message_of h)
unfolding message_of
message-words h w = by_choice (Array Word message_words) h.sending h.words no_words (λ e. w.words) (λ e. no_words_lem)

lent-words : (area : List ℕ) (index n : ℕ) → All Word area → Array Word message_words (message_in area index n)
unfolding message_in
lent-words area index n f = words_padded message_words (take n (drop index area)) (all_take Word n (drop index area) (all_drop Word index area f))

-- queues
module _ (q : Queue) (w : ObjectWords queue q) where
  stored-words : All Word (stored_words q)
  unfolding stored_words
  stored-words = all_take Word (used_words q) q.store w.each

  storing-words : (n : ℕ) (ws : List ℕ) → All Word ws → ObjectWords queue (storing q n ws)
  unfolding storing
  storing-words n ws f = words_padded slots ws f

module _ (q : Queue) (w : ObjectWords queue q) where
  without-oldest : ObjectWords queue (without_oldest q)
  unfolding without_oldest
  without-oldest = storing-words q w (q.stored - 1) (drop q.words (stored_words q)) (all_drop Word q.words (stored_words q) (stored-words q w))

  module _ (message : List ℕ) (f : Array Word message_words message) where
    with_last_lem : ObjectWords queue (with_last q message)
    unfolding with_last
    with_last_lem = by_choice (ObjectWords queue) (roomb q) _ q (λ e. storing-words q w (q.stored + 1) (stored_words q ++ take q.words message) (all_append Word (stored_words q) (take q.words message) (stored-words q w) (all_take Word q.words message f.each))) (λ e. w)

    with_first_lem : ObjectWords queue (with_first q message)
    unfolding with_first
    with_first_lem = by_choice (ObjectWords queue) (roomb q) _ q (λ e. storing-words q w (q.stored + 1) (take q.words message ++ stored_words q) (all_append Word (take q.words message) (stored_words q) (all_take Word q.words message f.each) (stored-words q w))) (λ e. w)

    with_sent_lem : (front : Bool) → ObjectWords queue (with_sent q front message)
    unfolding with_sent
    with_sent_lem front = by_choice (ObjectWords queue) front (with_first q message) (with_last q message) (λ e. with_first_lem) (λ e. with_last_lem)

left_past_lem : (q : Queue) → ObjectWords queue q → (front : Bool) (message : List ℕ) → Array Word message_words message → ObjectWords queue (left_past q front message)
unfolding left_past
left_past_lem q w front message f = by_choice (ObjectWords queue) front q (with_last (without_oldest q) message) (λ e. w) (λ e. with_last_lem (without_oldest q) (without-oldest q w) message f)

-- pools
listing-words : (p : Pool) (xs : List ℕ) → Word p.total → ObjectWords pool (listing p xs)
unfolding listing
listing-words p xs h = (h, length-pad slots xs)

-- flags
or_word : (a b : ℕ) → Word a → Word b → Word (bit_or a b)
or_word a b h g = or_lt 32 a b h g

less-word : (flags others : ℕ) → Word flags → Word (less_flags flags others)
unfolding less_flags
less-word flags others h = let l = and_le_l flags (bit_xor 0xFFFFFFFF others) in omega (arith, h, l)

time-word : (time : ℕ) → Word (next_time time)
unfolding next_time
time-word time = mod-lt (time + 1) (omega arith)

-- ---- effects that many calls share
module _ (k : Kernel) where
  begins-words : (front : Bool) (state object ticks : ℕ) (h : Held) → Word ticks → HeldWords h → EffectWords (begins k front state object ticks h)
  begins-words front state object ticks h t w = ((t, w), tt)

  each-words : (c : Cause) (words ts : List ℕ) → Array Word message_words words → All EditWords (ends_each c words ts)
  unfolding ends_each
  each-words c words [] w = tt
  each-words c words (t ∷ ts) w = (w, each-words c words ts w)

  close-words : (c : Cause) (d : Kind) (n : ℕ) (x : Object d) → ObjectWords d x → EffectWords (close_effect k c d n x)
  unfolding close_effect
  close-words c d n x w = all_append EditWords (ends_each c no_words _) (stores d n x ∷ []) (each-words c no_words _ no_words_lem) (w, tt)

  store_words : (d : Kind) (n : ℕ) (x : Object d) → ObjectWords d x → EffectWords (store_effect d n x)
  unfolding store_effect
  store_words d n x w = (w, tt)

  remove-words : (d : Kind) (n : ℕ) → EffectWords (remove_effect k d n)
  remove-words d n = close-words (deleted d n) d n (no_object d) (none-object d)

  rank-words : (d : Kind) (n : ℕ) → EffectWords (rank_effect d n)
  unfolding rank_effect
  rank-words d n = (tt, tt)

  give-words : (d : Kind) (n : ℕ) (words : List ℕ) (x : Object d) → Array Word message_words words → ObjectWords d x → EffectWords (give_effect k d n words x)
  unfolding give_effect serve_effect
  give-words d n words x w o = by_choice EffectWords (waitedb k d n) (serve_effect k d n words) (store_effect d n x) (λ e. (w, tt)) (λ e. store_words d n x o)

  -- one less of a kind
  less-words : (d : Kind) (x : Object d) → ObjectWords d x → ObjectWords d (one_less d x)
  unfolding counting without_next
  less-words = by_kind (λ d. (x : Object d) → ObjectWords d x → ObjectWords d (one_less d x)) (λ x w. omega (arith, w)) (λ x w. w) (λ x w. w) (λ p w. listing-words p _ w.0)

  module _ (W : Worded k) where
    take_words : (d : Kind) (n : ℕ) (words : List ℕ) (wait : ℕ) → Word wait → EffectWords (take_effect k d n words wait)
    unfolding take_effect
    take_words d n words wait h =
        by_choice EffectWords (ltb 0 (amount_of d (object_at d k n))) (gives words (stores d n (one_less d (object_at d k n)) ∷ [])) (begins k false (state_on d) n wait held_waiting)
        (λ e. (less-words d (object_at d k n) (object-words k W d n), tt)) (λ e. begins-words false (state_on d) n wait held_waiting h held-waiting)

-- ---- threads
keeps-held : KeepsHeld keeps
keeps-held h w = w

clears-held : KeepsHeld clears
clears-held h w = none-held

rests : (state : ℕ) → KeepsTicks (in_state state 0 0)
unfolding in_state
rests state th w = omega arith

module _ (k : Kernel) where
  create-words : (t p h start : ℕ) → EffectWords (create_effect t p h start)
  unfolding create_effect created
  create-words t p h start = (((λ th w. omega arith), clears-held), tt)

  delete-words : (t : ℕ) → EffectWords (delete_effect t)
  unfolding delete_effect uncreated
  delete-words t = (((λ th w. omega arith), clears-held), tt)

  resume-words : (t : ℕ) → EffectWords (resume_effect k t)
  unfolding resume_effect with_suspension
  resume-words t = by_choice EffectWords (thread_of k t).suspending _ _ (λ e. ((λ th w. w), tt)) (λ e. ((rests _, keeps-held), tt))

  suspend-words : (t : ℕ) → EffectWords (suspend_effect k t)
  unfolding suspend_effect with_suspension
  suspend-words t =
      by_choice EffectWords (pausedb (thread_of k t)) _ _ (λ e. ((λ th w. w), tt)) (λ e. by_choice EffectWords (readyb (thread_of k t)) _ _ (λ f. ((rests _, keeps-held), tt)) (λ f. tt))

  terminate-words : (t : ℕ) → EffectWords (terminate_effect k t)
  unfolding terminate_effect
  terminate-words t = by_choice EffectWords (finishedb (thread_of k t)) _ _ (λ e. tt) (λ e. (tt, tt))

  rest-words : (t state : ℕ) → EffectWords (rest_effect t state)
  unfolding rest_effect
  rest-words t state = ((rests state, clears-held), tt)

  relinquish-words : EffectWords (relinquish_effect k)
  unfolding relinquish_effect
  relinquish-words = (((λ th w. w), keeps-held), tt)

  sleep-words : (ticks : ℕ) → Word ticks → EffectWords (sleep_effect k ticks)
  unfolding sleep_effect
  sleep-words ticks h = by_choice EffectWords (eqb ticks 0) _ _ (λ e. tt) (λ e. begins-words k false asleep 0 ticks held_waiting h held-waiting)

  abort-words : (t : ℕ) → EffectWords (abort_effect t)
  unfolding abort_effect
  abort-words t = (no_words_lem, tt)

  levels : (p h : Thread → ℕ) → KeepsTicks (λ th. with_levels (p th) (h th) th)
  unfolding with_levels
  levels p h th w = w

  priority-words : (t p : ℕ) → EffectWords (priority_effect k t p)
  unfolding priority_effect
  priority-words t p =
      by_choice (All EditWords) (readyb (thread_of k t)) _ _ (λ e. ((levels (λ th. p) (λ th. p), keeps-held), tt)) (λ e. (levels (λ th. p) (λ th. p), tt))

  preemption-words : (t h : ℕ) → EffectWords (preemption_effect k t h)
  unfolding preemption_effect
  preemption-words t h = (levels (λ th. th.priority) (λ th. h), tt)

  state-words : (t : ℕ) → EffectWords (state_effect k t)
  unfolding state_effect
  state-words t = tt

  words-words : (t : ℕ) → EffectWords (words_effect k t)
  unfolding words_effect
  words-words t = tt

  -- ---- the clock
  get-words : EffectWords (clock_effect k)
  unfolding clock_effect
  get-words = tt

  set_words : (time : ℕ) → Word time → EffectWords (clock_set_effect time)
  unfolding clock_set_effect
  set_words time h = (h, tt)

  counts-words : (ts : List ℕ) → All EditWords (counts_each ts)
  unfolding counts_each
  counts-words [] = tt
  counts-words (t ∷ ts) = (tt, counts-words ts)

  tick-words : EffectWords (tick_effect k)
  unfolding tick_effect ticks_taken timeouts
  tick-words =
      all_append EditWords (ticks_taken k) _ (counts-words (threads_with timedb k))
      (all_append EditWords (timeouts (applied k (ticks_taken k))) _ (each-words k timed_out no_words (threads_with at_zerob (applied k (ticks_taken k))) no_words_lem) (time-word _, tt))

-- ---- objects
module _ (k : Kernel) (W : Worded k) where
  put-words : (n : ℕ) → (semaphore_at k n).count < largest_count → EffectWords (put_effect k n)
  unfolding put_effect counting
  put-words n low = give-words k semaphore n no_words _ no_words_lem (omega (arith, low))

  send-words : (n wait : ℕ) (front : Bool) (message : List ℕ) → Word wait → Array Word message_words message → EffectWords (send_effect k n wait front message)
  unfolding send_effect
  send-words n wait front message h f =
      by_choice EffectWords (roomb (queue_at k n)) _ _ (λ e. give-words k queue n message _ f (with_sent_lem (queue_at k n) (object-words k W queue n) message f front)) (λ e. begins-words k front (state_on queue) n wait (sending front message) h (held-sending front message f))

  past_words : (n t : ℕ) → EffectWords (past_effect k n t)
  unfolding past_effect
  past_words n t =
      all_append EditWords (ends_each (served queue n) no_words (t ∷ [])) _ (each-words k (served queue n) no_words (t ∷ []) no_words_lem)
      (left_past_lem (queue_at k n) (object-words k W queue n) (held_at k t).front (message_of (held_at k t)) (message-words (held_at k t) (held-words k W t)), tt)

  receive-words : (n wait : ℕ) → Word wait → EffectWords (receive_effect k n wait)
  unfolding receive_effect
  receive-words n wait h =
      by_choice EffectWords (emptyb (queue_at k n)) _ _ (λ e. begins-words k false (state_on queue) n wait held_waiting h held-waiting)
      (λ e. by_choice EffectWords (waitedb k queue n) _ _ (λ f. past_words n (first_at k.scheduler (place_of queue n))) (λ f. (without-oldest (queue_at k n) (object-words k W queue n), tt)))

  flush-words : (n : ℕ) → EffectWords (flush_effect k n)
  unfolding flush_effect flushed
  flush-words n = by_choice EffectWords (emptyb (queue_at k n)) _ _ (λ e. tt) (λ e. close-words k (served queue n) queue n _ (storing-words (queue_at k n) (object-words k W queue n) 0 [] tt))

  group-set-words : (n flags option : ℕ) → Word flags → EffectWords (set_effect k n flags option)
  unfolding set_effect set_or_effect group_with
  group-set-words n flags option h =
      let old = object-words k W group n in
      let all = or_word (group_at k n).flags flags old h in
      by_choice EffectWords (eqb option 0) _ _
      (λ e. all_append EditWords (ends_each (served group n) (one_word (bit_or (group_at k n).flags flags)) _) _ (each-words k (served group n) _ _ (one-word _ all)) (less-word _ _ all, tt))
      (λ e. store_words k group n _ (let l = and_le_l (group_at k n).flags flags in omega (arith, l, old)))

  flags_get-words : (n request option wait : ℕ) → Word request → Word wait → EffectWords (flags_get_effect k n request option wait)
  unfolding flags_get_effect group_with
  flags_get-words n request option wait h w =
      by_choice EffectWords (metb (group_at k n).flags request option) _ _ (λ e. (less-word (group_at k n).flags _ (object-words k W group n), tt))
      (λ e. begins-words k false (state_on group) n wait (requesting request option) w (held-requesting request option h))

  release-words : (n block : ℕ) → Word block → EffectWords (release_effect k n block)
  unfolding release_effect with_free
  release-words n block h = give-words k pool n (one_word block) _ (one-word block h) (listing-words (pool_at k n) _ (object-words k W pool n).0)

  -- ---- every call
  module _ (caller a b c d : ℕ) (ha : Word a) (hb : Word b) (hc : Word c) (hd : Word d) (messages : List ℕ) (f : All Word messages) where
    -- the edits of a call that is not refused
    abbrev pub KnownWords : ℕ → Option Call → Type 0
    KnownWords n (Some call) = chained k caller call messages ≡ 0 → EffectWords (effect_of k call messages)
    KnownWords n None = Unit {0}

    pub known-words : (n : ℕ) → KnownWords n (known_call n a b c d)
    unfolding known_call effect_of chained chain_of semaphore_get_effect allocate_effect counting empty_queue group_with fresh_pool
    known-words n =
        by_number KnownWords n 1 _ _ (λ z. create-words k (min a 32) b c d) (
        by_number KnownWords n 2 _ _ (λ z. delete-words k (min a 32)) (
        by_number KnownWords n 3 _ _ (λ z. resume-words k (min a 32)) (
        by_number KnownWords n 4 _ _ (λ z. suspend-words k (min a 32)) (
        by_number KnownWords n 5 _ _ (λ z. terminate-words k (min a 32)) (
        by_number KnownWords n 6 _ _ (λ z. rest-words k (min a 32) 3) (
        by_number KnownWords n 7 _ _ (λ z. rest-words k (runner_of k) 1) (
        by_number KnownWords n 8 _ _ (λ z. relinquish-words k) (
        by_number KnownWords n 9 _ _ (λ z. sleep-words k a ha) (
        by_number KnownWords n 10 _ _ (λ z. abort-words k (min a 32)) (
        by_number KnownWords n 11 _ _ (λ z. priority-words k (min a 32) b) (
        by_number KnownWords n 12 _ _ (λ z. preemption-words k (min a 32) b) (
        by_number KnownWords n 13 _ _ (λ z. get-words k) (
        by_number KnownWords n 14 _ _ (λ z. set_words k a ha) (
        by_number KnownWords n 15 _ _ (λ z. tick-words k) (
        by_number KnownWords n 16 _ _ (λ z. store_words k semaphore (min a 16) _ hb) (
        by_number KnownWords n 17 _ _ (λ z. remove-words k semaphore (min a 16)) (
        by_number KnownWords n 18 _ _ (λ z. take_words k W semaphore (min a 16) no_words b hb) (
        by_number KnownWords n 19 _ _ (λ z. put-words (min a 16) (put_low (semaphore_at k (min a 16)) (not-refused k caller _ z))) (
        by_number KnownWords n 20 _ _ (λ z. put-words (min a 16) (ceiling_low (semaphore_at k (min a 16)) b hb (not-refused k caller _ z))) (
        by_number KnownWords n 21 _ _ (λ z. rank-words k semaphore (min a 16)) (
        by_number KnownWords n 22 _ _ (λ z. store_words k queue (min a 8) _ (record { size = refl; each = all_replicate Word slots 0 (omega arith) })) (
        by_number KnownWords n 23 _ _ (λ z. remove-words k queue (min a 8)) (
        by_number KnownWords n 24 _ _ (λ z. send-words (min a 8) b _ _ hb (lent-words messages c _ f)) (
        by_number KnownWords n 25 _ _ (λ z. send-words (min a 8) b _ _ hb (lent-words messages c _ f)) (
        by_number KnownWords n 26 _ _ (λ z. receive-words (min a 8) b hb) (
        by_number KnownWords n 27 _ _ (λ z. flush-words (min a 8)) (
        by_number KnownWords n 28 _ _ (λ z. rank-words k queue (min a 8)) (
        by_number KnownWords n 29 _ _ (λ z. store_words k group (min a 8) _ (omega arith)) (
        by_number KnownWords n 30 _ _ (λ z. remove-words k group (min a 8)) (
        by_number KnownWords n 31 _ _ (λ z. group-set-words (min a 8) b c hb) (
        by_number KnownWords n 32 _ _ (λ z. flags_get-words (min a 8) b c d hb hd) (
        by_number KnownWords n 33 _ _ (λ z. store_words k pool (min a 4) _ (listing-words _ _ hc)) (
        by_number KnownWords n 34 _ _ (λ z. remove-words k pool (min a 4)) (
        by_number KnownWords n 35 _ _ (λ z. take_words k W pool (min a 4) _ b hb) (
        by_number KnownWords n 36 _ _ (λ z. release-words (min a 4) (min b 64) (omega (arith, hb))) (
        by_number KnownWords n 37 _ _ (λ z. rank-words k pool (min a 4)) (
        by_number KnownWords n 38 _ _ (λ z. state-words k (min a 32)) (
        by_number KnownWords n 39 _ _ (λ z. words-words k (min a 32)) (
        tt)))))))))))))))))))))))))))))))))))))))
