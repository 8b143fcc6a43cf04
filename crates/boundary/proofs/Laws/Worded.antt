-- Tables whose words are words, as far as soundness does not bound them: ticks, what is held, counts, stores, flags, sizes of pools, the clock; and
-- the lengths of the arrays in records. Every edit whose data are words keeps that, and so does the choice of the next thread.
use mathlib.Core.Path.{◌≡◌, refl, sym, subst}
use mathlib.Core.List.{List, [], ◌∷◌}
use mathlib.Core.Bool.{Bool, ◌&&◌}
use Prim.Native.Nat.{ℕ, zero, suc}
use native.Mathlib.Omega.{arith}
use lib.ListN.{length}
use Rattle.numbers.specs.Numbers.{threads, message_words, slots}
use Rattle.lines.specs.Lines.{pad, line_of}
use Rattle.std.specs.Prelude.{if◌then◌else◌}
use Rattle.lines.proofs.Laws.Lines.{length-pad}
use Rattle.lines.proofs.Laws.Logic.{by_choice}
use Rattle.scheduler.specs.declared.thread.Thread.{Thread}
use Rattle.scheduler.specs.declared.Scheduler.{Scheduler}
use Rattle.scheduler.specs.Threads.{uncreated, in_state, awake}
use Rattle.scheduler.specs.Orders.{thread_at, runner, with_thread, with_order, with_runner, moved, moved_front, joined, prioritised_at}
use Rattle.scheduler.specs.Choice.{staysb, overtakesb, next_of, with_mark, replaced, dispatched, rescheduled}
use Rattle.objects.specs.Semaphores.{no_semaphore}
use Rattle.objects.specs.Queues.{no_queue}
use Rattle.objects.specs.Groups.{no_group}
use Rattle.blocks.specs.Pools.{no_pool}
use Rattle.calls.specs.declared.held.Held.{Held}
use Rattle.calls.specs.Held.{no_words, holding, no_held}
use Rattle.waiting.specs.Ticks.{with_ticks}
use Rattle.kernel.specs.declared.Kernel.{Kernel}
use Rattle.kernel.specs.Tables.{thread_of, held_at, with_scheduler, with_held, with_semaphore, with_queue, with_group, with_pool, with_clock}
use Rattle.kernel.specs.Kinds.{Kind, Object, table_of, object_at, with_object, no_object}
use Rattle.kernel.specs.Kinds.Kind.{semaphore, queue, group, pool}
use Rattle.kernel.specs.Edits.{Cause, status_by, Move, record_by, held_by, frontb, Edit, edited, applied}
use Rattle.kernel.specs.Edits.Cause.{served, deleted, timed_out, aborted}
use Rattle.kernel.specs.Edits.Move.{ends, starts, stops, turns}
use Rattle.kernel.specs.Edits.Edit.{moves, alters, counts, ranks, stores, sets}
use Rattle.kernel.proofs.Laws.Objects.{by_kind, object_is}
use Rattle.kernel.proofs.Laws.Fits.{by_timeout}
use Rattle.words.specs.Words.{Word}
use Rattle.codec.specs.Restored.{All, Array}
use Rattle.codec.proofs.Laws.Arrays.{all_get, all_set, all_replicate}

-- ---- words in arrays
pub words_padded : (n : ℕ) (xs : List ℕ) → All Word xs → Array Word n (pad n xs)
unfolding pad
words_padded n xs f = record { size = length-pad n xs; each = go n xs f }
  where
    go : (n : ℕ) (xs : List ℕ) → All Word xs → All Word (pad n xs)
    go zero xs f = tt
    go (suc n) [] f = (omega arith, go n [] tt)
    go (suc n) (x ∷ xs) f = (f.0, go n xs f.1)

pub no_words_lem : Array Word message_words no_words
no_words_lem = record { size = refl; each = all_replicate Word message_words 0 (omega arith) }

-- ---- records
abbrev pub TicksWord : Thread → Type 0
TicksWord th = Word th.ticks

pub record HeldWords (h : Held) : Type 0 where
  pub status : Word h.status
  pub words : Array Word message_words h.words
  pub request : Word h.request

abbrev pub ObjectWords : (d : Kind) → Object d → Type 0
ObjectWords semaphore x = Word x.count
ObjectWords queue x = Array Word slots x.store
ObjectWords group x = Word x.flags
ObjectWords pool x = Word x.total × (length x.list ≡ slots)

pub holding-words : (status : ℕ) (words : List ℕ) → Word status → Array Word message_words words → HeldWords (holding status words)
unfolding holding
holding-words status words s w = record { status = s; words = w; request = omega arith }

pub none-held : HeldWords no_held
none-held = holding-words 0 no_words (omega arith) no_words_lem

pub none-object : (d : Kind) → ObjectWords d (no_object d)
unfolding no_semaphore no_queue no_group no_pool
none-object = by_kind (λ d. ObjectWords d (no_object d)) (omega arith) (record { size = refl; each = all_replicate Word slots 0 (omega arith) }) (omega arith) (omega arith, refl)

-- ---- tables
pub record SchedulerWords (s : Scheduler) : Type 0 where
  pub ids : length s.order.ids ≡ threads
  pub threads : All TicksWord s.threads

pub record Worded (k : Kernel) : Type 0 where
  pub scheduler : SchedulerWords k.scheduler
  pub held : All HeldWords k.held
  pub objects : (d : Kind) → All (ObjectWords d) (table_of d k)
  pub clock : Word k.clock

-- ---- reads
pub thread-words : (s : Scheduler) → SchedulerWords s → (t : ℕ) → TicksWord (thread_at s t)
unfolding thread_at uncreated
thread-words s W t = all_get TicksWord s.threads t uncreated W.threads (omega arith)

module _ (k : Kernel) (W : Worded k) where
  pub held-words : (t : ℕ) → HeldWords (held_at k t)
  unfolding held_at
  held-words t = all_get HeldWords k.held t no_held W.held none-held

  pub object-words : (d : Kind) (n : ℕ) → ObjectWords d (object_at d k n)
  object-words d n = subst (ObjectWords d) (sym (object_is d k n)) (all_get (ObjectWords d) (table_of d k) n (no_object d) (W.objects d) (none-object d))

-- ---- the scheduler
module _ (s : Scheduler) (W : SchedulerWords s) where
  store-thread : (t : ℕ) (th : Thread) → TicksWord th → SchedulerWords (with_thread s t th)
  unfolding with_thread
  store-thread t th w = record { ids = W.ids; threads = all_set TicksWord s.threads t th W.threads w }

  store-order : (xs : List ℕ) → SchedulerWords (with_order s xs)
  unfolding with_order line_of
  store-order xs = record { ids = length-pad threads xs; threads = W.threads }

  store-runner : (t : ℕ) → SchedulerWords (with_runner s t)
  unfolding with_runner
  store-runner t = record { ids = W.ids; threads = W.threads }

module _ (s : Scheduler) (W : SchedulerWords s) where
  joined_words : (front : Bool) (t : ℕ) (th : Thread) → TicksWord th → SchedulerWords (joined s front t th)
  unfolding joined moved moved_front
  joined_words front t th w =
      by_choice SchedulerWords front (moved_front s t th) (moved s t th) (λ e. store-order _ (store-thread s W t th w) _) (λ e. store-order _ (store-thread s W t th w) _)

  marked-words : (t : ℕ) (b : Bool) → SchedulerWords (with_thread s t (with_mark b (thread_at s t)))
  unfolding with_mark
  marked-words t b = store-thread s W t (with_mark b (thread_at s t)) (thread-words s W t)

pub chosen-words : (s : Scheduler) → SchedulerWords s → (relinquished : Bool) → SchedulerWords (rescheduled s relinquished)
unfolding rescheduled dispatched replaced
chosen-words s W r =
    let x : Scheduler = if staysb s r && overtakesb s (runner s) then replaced s else s in
    let X : SchedulerWords x = by_choice SchedulerWords (staysb s r && overtakesb s (runner s)) (replaced s) s (λ e. marked-words s W (runner s) _) (λ e. W) in
    store-runner _ (marked-words x X (next_of s r) _) (next_of s r)

-- ---- the tables with another part
module _ (k : Kernel) (W : Worded k) where
  pub with-scheduler : (s : Scheduler) → SchedulerWords s → Worded (with_scheduler k s)
  unfolding with_scheduler
  with-scheduler s w =
      record { scheduler = w; held = W.held; objects = by_kind (λ d. All (ObjectWords d) (table_of d (with_scheduler k s))) (W.objects semaphore) (W.objects queue) (W.objects group) (W.objects pool); clock = W.clock }

  with-held : (t : ℕ) (h : Held) → HeldWords h → Worded (with_held k t h)
  unfolding with_held
  with-held t h w =
      record { scheduler = W.scheduler; held = all_set HeldWords k.held t h W.held w; objects = by_kind (λ d. All (ObjectWords d) (table_of d (with_held k t h))) (W.objects semaphore) (W.objects queue) (W.objects group) (W.objects pool); clock = W.clock }

  with-clock : (c : ℕ) → Word c → Worded (with_clock k c)
  unfolding with_clock
  with-clock c w =
      record { scheduler = W.scheduler; held = W.held; objects = by_kind (λ d. All (ObjectWords d) (table_of d (with_clock k c))) (W.objects semaphore) (W.objects queue) (W.objects group) (W.objects pool); clock = w }

  with-object : (d : Kind) (n : ℕ) (x : Object d) → ObjectWords d x → Worded (with_object d k n x)
  unfolding with_semaphore with_queue with_group with_pool
  with-object semaphore n x w =
      record { scheduler = W.scheduler; held = W.held; objects = by_kind (λ d. All (ObjectWords d) (table_of d (with_semaphore k n x))) (all_set (ObjectWords semaphore) k.semaphores n x (W.objects semaphore) w) (W.objects queue) (W.objects group) (W.objects pool); clock = W.clock }
  with-object queue n x w =
      record { scheduler = W.scheduler; held = W.held; objects = by_kind (λ d. All (ObjectWords d) (table_of d (with_queue k n x))) (W.objects semaphore) (all_set (ObjectWords queue) k.queues n x (W.objects queue) w) (W.objects group) (W.objects pool); clock = W.clock }
  with-object group n x w =
      record { scheduler = W.scheduler; held = W.held; objects = by_kind (λ d. All (ObjectWords d) (table_of d (with_group k n x))) (W.objects semaphore) (W.objects queue) (all_set (ObjectWords group) k.groups n x (W.objects group) w) (W.objects pool); clock = W.clock }
  with-object pool n x w =
      record { scheduler = W.scheduler; held = W.held; objects = by_kind (λ d. All (ObjectWords d) (table_of d (with_pool k n x))) (W.objects semaphore) (W.objects queue) (W.objects group) (all_set (ObjectWords pool) k.pools n x (W.objects pool) w); clock = W.clock }

-- ---- edits whose data are words
-- another record, or something else held, with words where there were words
abbrev pub KeepsTicks : (Thread → Thread) → Type 0
KeepsTicks f = (th : Thread) → TicksWord th → TicksWord (f th)

abbrev pub KeepsHeld : (Held → Held) → Type 0
KeepsHeld g = (h : Held) → HeldWords h → HeldWords (g h)

abbrev pub MoveWords : Move → Type 0
MoveWords (ends c words) = Array Word message_words words
MoveWords (starts front state object ticks h) = Word ticks × HeldWords h
MoveWords stops = Unit {0}
MoveWords (turns f g) = KeepsTicks f × KeepsHeld g

abbrev pub EditWords : Edit → Type 0
EditWords (moves t m) = MoveWords m
EditWords (alters t f) = KeepsTicks f
EditWords (counts t) = Unit {0}
EditWords (ranks d n) = Unit {0}
EditWords (stores d n x) = ObjectWords d x
EditWords (sets c) = Word c

-- the record and what is held after a move
status-word : (c : Cause) (th : Thread) (h : Held) → Word (status_by c th h)
unfolding status_by
status-word (served d n) th h = omega arith
status-word (deleted d n) th h = omega arith
status-word timed_out th h = by_timeout Word th h (λ e. omega arith) (omega arith) (omega arith) (omega arith) (omega arith) (omega arith)
status-word aborted th h = omega arith

record-words : (m : Move) → MoveWords m → (th : Thread) → TicksWord th → TicksWord (record_by m th)
unfolding record_by awake in_state
record-words (ends c words) w th p = omega arith
record-words (starts front state object ticks h) w th p = w.0
record-words stops w th p = omega arith
record-words (turns f g) w th p = w.0 th p

held_after : (m : Move) → MoveWords m → (th : Thread) (h : Held) → HeldWords h → HeldWords (held_by m th h)
unfolding held_by
held_after (ends c words) w th h p = holding-words (status_by c th h) words (status-word c th h) w
held_after (starts front state object ticks new) w th h p = w.1
held_after stops w th h p = none-held
held_after (turns f g) w th h p = w.1 h p

edited-words : (k : Kernel) → Worded k → (e : Edit) → EditWords e → Worded (edited k e)
unfolding edited with_ticks prioritised_at
edited-words k W (moves t m) w =
    let s = joined_words k.scheduler W.scheduler (frontb m) t (record_by m (thread_of k t)) (record-words m w (thread_of k t) (thread-words k.scheduler W.scheduler t)) in
    with-held _ (with-scheduler k W _ s) t _ (held_after m w (thread_of k t) (held_at k t) (held-words k W t))
edited-words k W (alters t f) w = with-scheduler k W _ (store-thread k.scheduler W.scheduler t (f (thread_of k t)) (w (thread_of k t) (thread-words k.scheduler W.scheduler t)))
edited-words k W (counts t) w = with-scheduler k W _ (store-thread k.scheduler W.scheduler t _ (let h = thread-words k.scheduler W.scheduler t in omega (arith, h)))
edited-words k W (ranks d n) w = with-scheduler k W _ (store-order k.scheduler W.scheduler _)
edited-words k W (stores d n x) w = with-object k W d n x w
edited-words k W (sets c) w = with-clock k W c w

pub applied-words : (k : Kernel) → Worded k → (es : List Edit) → All EditWords es → Worded (applied k es)
unfolding applied
applied-words k W [] f = W
applied-words k W (e ∷ es) f = applied-words (edited k e) (edited-words k W e f.0) es f.1
