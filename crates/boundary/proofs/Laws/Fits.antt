-- Sound tables whose words are words fit a block, and so a call leaves tables that fit.
use Rattle.std.specs.Prelude.{Option, Some, None}
use mathlib.Core.Path.{◌≡◌, refl, sym, ◌∙◌}
use mathlib.Core.List.{List, []}
use mathlib.Core.Bool.{Bool, true, ◌&&◌, ◌||◌, not}
use Prim.Native.Nat.{ℕ, ◌<◌, ◌≤◌}
use Prim.{tt}
use native.Mathlib.Omega.{arith}
use native.Mathlib.Nat.{div-le_self}
use lib.ListN.{length, take, get_or, length-take}
use lib.Dec.{eqb, ltb, leb}
use lib.Seq.{get_or-take}
use borrow.Author.Tests.{eqb-true, ltb-true, leb-true}
use Rattle.numbers.specs.Numbers.{threads, nobody, semaphores, queues, groups, pools}
use Rattle.lines.specs.Logic.{all_below}
use Rattle.lines.specs.Lists.{below}
use Rattle.lines.specs.Lines.{members, line_of, cleanb}
use Rattle.lines.specs.Slots.{zero_from}
use Rattle.lines.proofs.Laws.Logic.{by_test, by_eq, by_choice, and_left, and_right, or-rest, all-at}
use Rattle.lines.proofs.Laws.Lines.{length-pad}
use Rattle.scheduler.specs.Threads.{uncreated, waitsb}
use Rattle.scheduler.specs.Orders.{thread_at, idle}
use Rattle.scheduler.specs.Sound as Scheduling
use Rattle.scheduler.specs.Sound.{limitsb, object_fitb, zerob, steadyb, runsb}
use Rattle.scheduler.proofs.Laws.Testing as Testing
use Rattle.scheduler.proofs.Laws.Threads.{fit_parts, fit-uncreated, fit_low, fit-threshold}
use Rattle.objects.specs.declared.queue.Queue.{Queue}
use Rattle.objects.specs.Semaphores.{no_semaphore}
use Rattle.objects.specs.Groups.{no_group}
use Rattle.objects.specs.Queues.{no_queue, capacity_of, queue_zerob, queue_fitb}
use Rattle.objects.proofs.Laws.Queues as Queues
use Rattle.blocks.specs.declared.pool.Pool.{Pool}
use Rattle.blocks.specs.Pools.{no_pool, blocks_of, free_blocks, pool_limitsb, listingb, list_fitb, pool_zerob, pool_fitb}
use Rattle.blocks.proofs.Laws.Listings.{below_at}
use Rattle.blocks.proofs.Laws.Pools as Pools
use Rattle.calls.specs.declared.call.Call.{Call}
use Rattle.calls.specs.Held.{no_held}
use Rattle.calls.specs.declared.call.Request.{Request}
use Rattle.calls.specs.Calls.{decoded, known_call}
use Rattle.waiting.specs.Fit.{status_fitb, words_fitb, sender_fitb, request_fitb, unheld_fitb, held_fitb}
use Rattle.waiting.proofs.Laws.Held.{in-state}
use Rattle.kernel.specs.declared.Kernel.{Kernel}
use Rattle.kernel.specs.declared.Answer.{Answer}
use Rattle.kernel.specs.Tables.{started, thread_of, held_at, semaphore_at, queue_at, group_at, pool_at}
use Rattle.kernel.specs.Kinds.{Kind, size_of, state_on, table_of}
use Rattle.kernel.specs.Kinds.Kind.{semaphore, queue, group, pool}
use Rattle.kernel.specs.Sound.{soundb, Sound}
use Rattle.kernel.specs.Answers.{Outcome, answer_of, refused}
use Rattle.kernel.specs.Edits.{applied, Effect, carried_out, guarded}
use Rattle.kernel.specs.Refusals.{reason_of}
use Rattle.kernel.specs.General.{effect_of, step_of, step, unsound, call}
use Rattle.kernel.proofs.Laws.Objects as Objects
use Rattle.kernel.proofs.Laws.Objects.{by_kind}
use Rattle.kernel.proofs.Laws.Sound as Tested
use Rattle.kernel.proofs.Laws.Claims as General
use Rattle.kernel.proofs.Laws.Refusals.{Same, same_reason}
use Rattle.words.specs.Words.{Byte}
use Rattle.codec.specs.Restored.{All, ThreadFits, HeldFits, SemaphoreFits, QueueFits, GroupFits, PoolFits, SchedulerFits, Fits}
use Rattle.codec.proofs.Laws.Arrays.{all-each, all_imply, all_replicate}
use Rattle.claims.specs.Lists.{Made, answer, next}
use Rattle.boundary.specs.Calls.{Passed}
use Rattle.boundary.proofs.Laws.Worded.{TicksWord, HeldWords, ObjectWords, SchedulerWords, Worded, none-held, none-object, thread-words, held-words, object-words, chosen-words, with-scheduler, applied-words}
use Rattle.boundary.proofs.Laws.Effects.{EffectWords, KnownWords, known-words}

-- ---- from tables that fit
fits_worded : (k : Kernel) → Fits k → Worded k
fits_worded k F =
    record {
      scheduler = record { ids = F.scheduler.ids.size; threads = all_imply ThreadFits TicksWord (λ th f. f.ticks) k.scheduler.threads F.scheduler.threads.each };
      held = all_imply HeldFits HeldWords (λ h f. record { status = f.status; words = f.words; request = f.request }) k.held F.held.each;
      objects = by_kind (λ d. All (ObjectWords d) (table_of d k))
          (all_imply SemaphoreFits (ObjectWords semaphore) (λ x f. f.count) k.semaphores F.semaphores.each)
          (all_imply QueueFits (ObjectWords queue) (λ x f. f.store) k.queues F.queues.each)
          (all_imply GroupFits (ObjectWords group) (λ x f. f.flags) k.groups F.groups.each)
          (all_imply PoolFits (ObjectWords pool) (λ x f. (f.total, f.list.size)) k.pools F.pools.each);
      clock = F.clock;
    }

pub fits_sound : (k : Kernel) → Fits k → soundb k ≡ true → Sound k
fits_sound k F e =
    Tested.tested k
    (record {
      records = F.scheduler.threads.size;
      held = F.held.size;
      objects = by_kind (λ d. length (table_of d k) ≡ size_of d) F.semaphores.size F.queues.size F.groups.size F.pools.size;
    })
    e

-- ---- slots: those in use are below a bound, those behind them zero
slots_bytes : (xs : List ℕ) (n m bound : ℕ) → length xs ≡ m → below bound (take n xs) ≡ true → bound ≤ 256 → all_below m (λ i. ltb i n || eqb (get_or xs i 0) 0) ≡ true → All Byte xs
slots_bytes xs n m bound s e l z =
    all-each Byte xs 0
    (λ i h. by_test (ltb i n)
    (λ w. let g = ltb-true i n w in
    let t = length-take n xs in
    let v = below_at bound (take n xs) e i (omega (arith, g, t, h)) in
    let r = get_or-take n xs i 0 g in omega (arith, v, r, l))
    (λ w. let v = eqb-true (get_or xs i 0) 0 (or-rest (ltb i n) _ (all-at m _ z i (omega (arith, h, s))) w) in omega (arith, v)))

-- ---- objects
queue_fits : (q : Queue) → queue_fitb q ≡ true → ObjectWords queue q → QueueFits q
unfolding capacity_of queue_zerob
queue_fits q e w =
    by_test q.created
    (λ u. let s = Queues.fit_sizes q e u in
    let a = (Queues.sizes-words q.words q.storage s).1 in
    let b = (Queues.sizes-storage q.words q.storage s).1 in
    let c = Queues.fit-stored q e u in
    let d = div-le_self q.storage q.words in
    record { words = omega (arith, a); storage = omega (arith, b); stored = omega (arith, b, c, d); store = w })
    (λ u. let z = and_left _ _ (sym (Queues.fit-uncreated q u) ∙ e) in
    let y = and_left _ _ z in
    let a = eqb-true q.words 0 (and_left _ _ y) in
    let b = eqb-true q.storage 0 (and_right (eqb q.words 0) _ y) in
    let c = eqb-true q.stored 0 (and_right (eqb q.words 0 && eqb q.storage 0) _ z) in
    record { words = omega (arith, a); storage = omega (arith, b); stored = omega (arith, c); store = w })

pool_fits : (p : Pool) → pool_fitb p ≡ true → ObjectWords pool p → PoolFits p
unfolding free_blocks list_fitb pool_zerob zero_from below
pool_fits p e w =
    by_test p.created
    (λ u. let a = (Pools.sizes-block p.block p.total (Pools.fit_sizes p e u)).2 in
    let b = (Pools.fit_blocks p e u).1 in
    let c = Pools.fit_free p e u in
    let z = and_right (leb p.free (blocks_of p) && listingb p) _ (and_right (pool_limitsb p) _ (sym (Pools.fit-created p u) ∙ e)) in
    record { block = omega (arith, a); total = w.0; free = omega (arith, b, c); list = record { size = w.1; each = slots_bytes p.list p.free 64 (blocks_of p) w.1 (Pools.fit-below p e u) (omega (arith, b)) z } })
    (λ u. let x = eqb p.block 0 in
    let y = eqb p.total 0 in
    let v = eqb p.free 0 in
    let z = sym (Pools.fit-uncreated p u) ∙ e in
    let s = and_left (x && y && v) _ z in
    let a = eqb-true p.block 0 (and_left x y (and_left (x && y) v s)) in
    let c = eqb-true p.free 0 (and_right (x && y) v s) in
    record { block = omega (arith, a); total = w.0; free = omega (arith, c); list = record { size = w.1; each = slots_bytes p.list 0 64 0 w.1 refl (omega arith) (and_right (x && y && v) _ z) } })

-- ---- threads
module _ (k : Kernel) (S : Sound k) where
  -- whoever waits does so on an object of the tables
  object_byte : (t : ℕ) → t < threads → (thread_of k t).created ≡ true → waitsb (thread_of k t) ≡ true → (thread_of k t).state ≤ 8 → Byte (thread_of k t).object
  unfolding waitsb
  object_byte t l made w known =
      let th = thread_of k t in
      let high = ltb-true 4 th.state (and_right th.created _ w) in
      let on : (d : Kind) → th.state ≡ state_on d → th.object < size_of d =
      λ d e. Objects.object_small d k S.fit th.object (Objects.waits-created d k S.fit th.object t l (in-state (state_on d) th made e) refl) in
      by_eq th.state 5
      (λ e. let h = on queue e in omega (arith, h))
      (λ a. by_eq th.state 6
      (λ e. let h = on semaphore e in omega (arith, h))
      (λ b. by_eq th.state 7
      (λ e. let h = on group e in omega (arith, h))
      (λ c. let h = on pool (let z : th.state ≡ 8 = omega (arith, high, known, a, b, c) in z) in omega (arith, h))))

  thread_fits : (t : ℕ) → t < threads → TicksWord (thread_of k t) → ThreadFits (thread_of k t)
  unfolding limitsb object_fitb zerob
  thread_fits t l ticks =
      let th = thread_of k t in
      let fit = S.fit.steady.fit t l in
      let p = fit_low th fit in
      let h = fit-threshold th fit in
      by_test th.created
      (λ e. let parts = fit_parts th e fit in
      let s = leb-true th.state 8 (and_left (leb th.state 8) _ (and_left _ _ parts.0)) in
      record {
        state = omega (arith, s);
        priority = omega (arith, p);
        threshold = omega (arith, p, h);
        object = by_test (waitsb th) (λ w. object_byte t l e w s) (λ w. let o = eqb-true th.object 0 (or-rest (waitsb th) _ parts.4 w) in omega (arith, o));
        ticks = ticks;
      })
      (λ e. let levels : Bool = eqb th.state 0 && eqb th.priority 0 && eqb th.threshold 0 in
      let z = and_left _ _ (sym (fit-uncreated th e) ∙ fit) in
      let o = eqb-true th.object 0 (and_right (levels && not th.marked && not th.suspending) _ z) in
      let y : levels ≡ true = and_left levels _ (and_left _ _ (and_left _ _ z)) in
      let s = eqb-true th.state 0 (and_left (eqb th.state 0) _ (and_left _ _ y)) in
      record { state = omega (arith, s); priority = omega (arith, p); threshold = omega (arith, p, h); object = omega (arith, o); ticks = ticks })

  held_fits : (t : ℕ) → t < threads → HeldWords (held_at k t) → HeldFits (held_at k t)
  unfolding held_fitb request_fitb
  held_fits t l w =
      let h = held_at k t in
      let th = thread_of k t in
      let before : Bool = status_fitb th h && words_fitb th h && sender_fitb th h in
      let o = leb-true h.option 3 (and_left (leb h.option 3) _ (and_right before (request_fitb th h) (and_left (before && request_fitb th h) (unheld_fitb th h) (S.fit.held t l)))) in
      record { status = w.status; words = w.words; request = w.request; option = omega (arith, o) }

  order_bytes : SchedulerWords k.scheduler → All Byte k.scheduler.order.ids
  unfolding Scheduling.soundb steadyb members cleanb
  order_bytes W =
      let s = k.scheduler in
      let e = and_left _ _ (and_left (steadyb s) (runsb s) (Testing.passes s (record { steady = S.fit.steady; runs = S.runs }))) in
      slots_bytes s.order.ids s.order.len threads nobody W.ids (and_right (cleanb s.order) _ e) (omega arith) (and_right (leb s.order.len threads) _ S.fit.steady.clean)

  scheduler_fits : SchedulerWords k.scheduler → SchedulerFits k.scheduler
  unfolding thread_at cleanb
  scheduler_fits W =
      let s = k.scheduler in
      let r = S.runs.known in
      let n = leb-true s.order.len threads (and_left (leb s.order.len threads) _ S.fit.steady.clean) in
      let m = S.fit.steady.sized in
      record {
        running = omega (arith, r);
        ids = record { size = W.ids; each = order_bytes W };
        len = omega (arith, n);
        threads = record { size = m; each = all-each ThreadFits s.threads uncreated (λ t l. thread_fits t (omega (arith, l, m)) (thread-words s W t)) };
      }

-- ---- the tables
sound_fits : (k : Kernel) → Sound k → Worded k → Fits k
unfolding held_at semaphore_at queue_at group_at pool_at
sound_fits k S W =
    let F = S.fit in
    let h = F.held_sized in
    let xs = (F.objects semaphore).sized in
    let qs = (F.objects queue).sized in
    let gs = (F.objects group).sized in
    let ps = (F.objects pool).sized in
    record {
      scheduler = scheduler_fits k S W.scheduler;
      held = record { size = h; each = all-each HeldFits k.held no_held (λ t l. held_fits k S t (omega (arith, l, h)) (held-words k W t)) };
      semaphores = record { size = xs; each = all-each SemaphoreFits k.semaphores no_semaphore (λ n l. record { count = object-words k W semaphore n }) };
      queues = record { size = qs; each = all-each QueueFits k.queues no_queue (λ n l. queue_fits (queue_at k n) ((F.objects queue).fit n (omega (arith, l, qs))) (object-words k W queue n)) };
      groups = record { size = gs; each = all-each GroupFits k.groups no_group (λ n l. record { flags = object-words k W group n }) };
      pools = record { size = ps; each = all-each PoolFits k.pools no_pool (λ n l. pool_fits (pool_at k n) ((F.objects pool).fit n (omega (arith, l, ps))) (object-words k W pool n)) };
      clock = W.clock;
    }

-- ---- nothing created
started-words : Worded started
unfolding started idle line_of uncreated no_semaphore no_queue no_group no_pool
started-words =
    record {
      scheduler = record { ids = length-pad threads []; threads = all_replicate TicksWord threads uncreated (omega arith) };
      held = all_replicate HeldWords threads no_held none-held;
      objects = by_kind (λ d. All (ObjectWords d) (table_of d started))
          (all_replicate (ObjectWords semaphore) semaphores no_semaphore (none-object semaphore))
          (all_replicate (ObjectWords queue) queues no_queue (none-object queue))
          (all_replicate (ObjectWords group) groups no_group (none-object group))
          (all_replicate (ObjectWords pool) pools no_pool (none-object pool));
      clock = omega arith;
    }

pub started_fits : Fits started
started_fits = sound_fits started Tested.started_sound started-words

-- ---- a call
module _ (k : Kernel) (W : Worded k) (q : Request) (messages : List ℕ) where
  carried-words : (e : Effect) → EffectWords e → Worded (carried_out k e).kernel
  unfolding carried_out
  carried-words e w =
      let x = applied k e.edits in
      let X = applied-words k W e.edits w in
      with-scheduler x X _ (chosen-words x.scheduler X.scheduler e.relinquishes)

  module _ (p : Passed (record { request = q; messages = messages })) where
    abbrev Words : Option Call → Type 0
    Words = KnownWords k W q.caller q.a q.b q.c q.d p.a p.b p.c p.d messages p.messages q.number

    of-decoded : (x : Option Call) → Same k q.caller q.a q.b q.c q.d messages q.number x → Words x → Worded (step_of k q x messages).kernel
    unfolding step_of guarded refused
    of-decoded (Some c) same w =
        by_choice (λ (o : Outcome). Worded o.kernel) (eqb (reason_of k q messages) 0) (carried_out k (effect_of k c messages)) (refused k (reason_of k q messages))
        (λ e. carried-words (effect_of k c messages) (w (sym same ∙ eqb-true (reason_of k q messages) 0 e))) (λ e. W)
    of-decoded None same w = W

    step_words : Worded (step k q messages).kernel
    unfolding step decoded
    step_words =
        of-decoded (decoded q) (same_reason k q messages)
        (by_choice Words (ltb 2 q.caller) None (known_call q.number q.a q.b q.c q.d) (λ e. tt)
        (λ e. known-words k W q.caller q.a q.b q.c q.d p.a p.b p.c p.d messages p.messages q.number))

pub call_fits : (k : Kernel) → Fits k → (m : Made) → Passed m → Fits (next k m)
unfolding next answer call answer_of unsound
call_fits k F m p =
    let q = m.request in
    let messages = m.messages in
    by_choice (λ (a : Answer). Fits a.kernel) (soundb k) (answer_of (step k q messages)) (unsound k)
    (λ e. let S = fits_sound k F e in
    sound_fits (step k q messages).kernel (General.step_sound k S q messages) (step_words k (fits_worded k F) q messages p))
    (λ e. F)
