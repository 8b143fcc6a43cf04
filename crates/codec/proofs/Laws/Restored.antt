-- What is read from a written block is what was written: words and flags, records, tables, the kernel.
use mathlib.Core.Path.{◌≡◌, refl, sym, ap, ◌∙◌}
use mathlib.Core.List.{List, [], ◌∷◌, ◌++◌, map, append_assoc, append-nil}
use mathlib.Core.Bool.{Bool, true, false}
use Prim.Native.Nat.{ℕ, zero, suc, ◌+◌, ◌-◌, ◌*◌, ◌/◌, ◌<◌}
use native.Mathlib.Omega.{arith}
use native.Mathlib.Nat.{mul-suc, not-suc-le-zero}
use lib.ListN.{length, take, drop, get_or, length-append, length-drop, get_or-append}
use lib.Dec.{eqb}
use lib.Seq.{take_all, take_at, drop_at, drop-drop, drop-append-le, get_or-drop}
use Rattle.lines.specs.Lists.{numbers_from}
use Rattle.lines.proofs.Laws.Logic.{and_in, all_in}
use Rattle.scheduler.specs.declared.thread.Thread.{Thread}
use Rattle.scheduler.specs.declared.Scheduler.{Scheduler}
use Rattle.calls.specs.declared.held.Held.{Held}
use Rattle.kernel.specs.declared.Kernel.{Kernel}
use Rattle.words.specs.Words.{Byte, Word, word_size, word_bytes, half_bytes}
use Rattle.words.proofs.Laws.Words.{word_spelled_lem, half_spelled_lem, low_byte}
use Rattle.codec.specs.Blocks.{part, byte_at, word_of, half_of, table_of, words_of, flag_byte, all_bytes}
use Rattle.codec.specs.Layout.{clock_at, flagged_created, flagged_size, group_count, groups_at, held_at, held_front, held_sending, held_size, held_words, list_count, pool_count, pool_created, pool_size, pools_at, queue_count, queue_created, queue_size, queues_at, scheduler_at, scheduler_ids, scheduler_len, scheduler_size, scheduler_threads, semaphore_count, semaphores_at, state_bytes, store_count, store_size, thread_count, thread_created, thread_marked, thread_size, thread_suspending, threads_at, word_count}
use Rattle.codec.specs.State.{thread_of, held_of, semaphore_of, queue_of, group_of, pool_of, scheduler_of, kernel_of, flagb, thread_flagsb, semaphore_flagsb, queue_flagsb, pool_flagsb, flags_fitb}
use Rattle.codec.specs.Bytes.{thread_bytes, held_bytes, flagged_bytes, semaphore_bytes, group_bytes, queue_bytes, pool_bytes, scheduler_bytes, bytes_of}
use Rattle.codec.specs.Restored.{All, Array, ThreadFits, HeldFits, SemaphoreFits, QueueFits, GroupFits, PoolFits, SchedulerFits, Fits, BlockClaims}
use Rattle.codec.proofs.Laws.Arrays.{all_append}
use Rattle.codec.proofs.Laws.Rewritten.{flag_byteb, kernel_fitted, kernel_rewritten}

-- ---- flags and bytes
-- a flag is read as it was written, and is 0 or 1
flag_kept : (f : Bool) → eqb (flag_byte f) 1 ≡ f
unfolding flag_byte
flag_kept true = refl
flag_kept false = refl

flag_fits : (f : Bool) → flag_byteb (flag_byte f) ≡ true
unfolding flag_byte
flag_fits true = refl
flag_fits false = refl

flag_byte_lem : (f : Bool) → Byte (flag_byte f)
unfolding flag_byte
flag_byte_lem true = omega arith
flag_byte_lem false = omega arith

-- ---- a block b of which is known what lies from byte a on
module _ (b : List ℕ) (a : ℕ) where
  -- what lies there first
  part_here : (xs ys : List ℕ) (n : ℕ) → drop a b ≡ xs ++ ys → length xs ≡ n → part a n b ≡ xs
  unfolding part
  part_here xs ys n e h = ap (take n) e ∙ take_at xs ys n h

  -- what lies behind that
  drop_on : (xs ys : List ℕ) (n : ℕ) → drop a b ≡ xs ++ ys → length xs ≡ n → drop (a + n) b ≡ ys
  drop_on xs ys n e h = sym (drop-drop n a b) ∙ ap (drop n) e ∙ drop_at xs ys n h

  length_from : (xs : List ℕ) (n : ℕ) → drop a b ≡ xs → length xs ≡ n → 0 < n → length b ≡ a + n
  length_from xs n e h p =
      let d = length-drop a b in
      let l = ap length e in
      omega (arith, d, l, h, p)

  -- a part and a byte k bytes further on
  part_on : (ys : List ℕ) (k n : ℕ) → drop a b ≡ ys → part (a + k) n b ≡ part k n ys
  unfolding part
  part_on ys k n e = ap (take n) (sym (drop-drop k a b) ∙ ap (drop k) e)

  byte_on : (ys : List ℕ) (k : ℕ) → drop a b ≡ ys → byte_at b (a + k) ≡ byte_at ys k
  byte_on ys k e = sym (get_or-drop a b k 0) ∙ ap (λ (l : List ℕ). get_or l k 0) e

-- ---- formats: a value of which P holds is written to `size` bytes and read back from them
record Format {A : Type 0} (write : A → List ℕ) (read : List ℕ → A) (size : ℕ) (P : A → Type 0) : Type 0 where
  sized : (x : A) → P x → length (write x) ≡ size
  kept : (x : A) → P x → read (write x) ≡ x
  bytes : (x : A) → P x → All Byte (write x)

module _ {A : Type 0} {write : A → List ℕ} {read : List ℕ → A} {size : ℕ} {P : A → Type 0} (k : Format write read size P) where
  -- a value that lies in a block from byte a on, and what lies behind it
  module _ (b rest : List ℕ) (a : ℕ) (x : A) (f : P x) (e : drop a b ≡ write x ++ rest) where
    here : read (part a size b) ≡ x
    here = ap read (part_here b a (write x) rest size e (k.sized x f)) ∙ k.kept x f

    behind : drop (a + size) b ≡ rest
    behind = drop_on b a (write x) rest size e (k.sized x f)

  -- records one behind the other: their bytes, and the records from number j on
  length-all : (xs : List A) → All P xs → length (all_bytes write xs) ≡ size * length xs
  unfolding all_bytes
  length-all [] f = let z : 0 ≡ size * 0 = omega arith in z
  length-all (x ∷ xs) f =
      let a = length-append (write x) (all_bytes write xs) in
      let h = k.sized x f.0 in
      let r = length-all xs f.1 in
      let m = mul-suc size (length xs) in
      omega (arith, a, h, r, m)

  bytes-all : (xs : List A) → All P xs → All Byte (all_bytes write xs)
  unfolding all_bytes
  bytes-all [] f = tt
  bytes-all (x ∷ xs) f = all_append Byte (write x) (all_bytes write xs) (k.bytes x f.0) (bytes-all xs f.1)

  records_kept : (b : List ℕ) (j : ℕ) (xs : List A) → All P xs → drop (size * j) b ≡ all_bytes write xs → map (λ i. read (part (size * i) size b)) (numbers_from j (length xs)) ≡ xs
  unfolding all_bytes numbers_from
  records_kept b j [] f e = refl
  records_kept b j (x ∷ xs) f e =
      let on : drop (size * suc j) b ≡ all_bytes write xs = ap (λ (n : ℕ). drop n b) (mul-suc size j) ∙ behind b (all_bytes write xs) (size * j) x f.0 e in
      λ i. here b (all_bytes write xs) (size * j) x f.0 e i ∷ records_kept b (suc j) xs f.1 on i

  -- a table of n records
  table : (n : ℕ) → Format (all_bytes write) (table_of read size n) (size * n) (Array P n)
  unfolding table_of
  table n =
      record {
        sized = λ xs f. length-all xs f.each ∙ ap (λ (m : ℕ). size * m) f.size;
        kept = λ xs f.
            ap (λ (m : ℕ). map (λ i. read (part (size * i) size (all_bytes write xs))) (numbers_from 0 m)) (sym f.size)
            ∙ records_kept (all_bytes write xs) 0 xs f.each (ap (λ (m : ℕ). drop m (all_bytes write xs)) (let z : size * 0 ≡ 0 = omega arith in z));
        bytes = λ xs f. bytes-all xs f.each;
      }

  -- a flag that lies at byte j of every record of a table that begins at byte a
  module _ (j : ℕ) (inside : j < size) (fits : (x : A) → P x → flagb (write x) j ≡ true) (b rest : List ℕ) where
    flags_fit : (xs : List A) (a i : ℕ) → All P xs → drop a b ≡ all_bytes write xs ++ rest → i < length xs → flagb b (a + j + size * i) ≡ true
    unfolding all_bytes
    flags_fit [] a i f e l = absurd (not-suc-le-zero l)
    flags_fit (x ∷ xs) a zero f e l =
        let h = k.sized x f.0 in
        let z : a + j + size * 0 ≡ a + j = omega arith in
        let g = e ∙ append_assoc (write x) (all_bytes write xs) rest in
        ap (λ (n : ℕ). flagb b n) z
        ∙ ap flag_byteb (byte_on b a (write x ++ (all_bytes write xs ++ rest)) j g ∙ get_or-append (write x) (all_bytes write xs ++ rest) 0 j (omega (arith, h, inside)))
        ∙ fits x f.0
    flags_fit (x ∷ xs) a (suc i) f e l =
        let h = k.sized x f.0 in
        let m = mul-suc size i in
        let z : a + j + size * suc i ≡ a + size + j + size * i = omega (arith, m) in
        let g = e ∙ append_assoc (write x) (all_bytes write xs) rest in
        ap (λ (n : ℕ). flagb b n) z
        ∙ flags_fit xs (a + size) i f.1 (drop_on b a (write x) (all_bytes write xs ++ rest) size g h) (omega (arith, l))

    -- the same with the table's length known
    table-flags : (n : ℕ) (xs : List A) (a : ℕ) → Array P n xs → drop a b ≡ all_bytes write xs ++ rest → (i : ℕ) → i < n → flagb b (a + j + size * i) ≡ true
    table-flags n xs a f e i l = flags_fit xs a i f.each e (let s = f.size in omega (arith, s, l))

-- ---- records
word : Format word_bytes word_of word_size Word
unfolding word_of word_bytes
word =
    record {
      sized = λ x h. refl;
      kept = word_spelled_lem;
      bytes = λ x h. (low_byte x, (low_byte (x / 0x100), (low_byte (x / 0x1_0000), (low_byte (x / 0x100_0000), tt))));
    }

thread : Format thread_bytes thread_of thread_size ThreadFits
unfolding thread_of thread_bytes word_bytes part
thread =
    record {
      sized = λ th f. refl;
      kept = λ th f i.
          record {
            created = flag_kept th.created i;
            state = th.state;
            priority = th.priority;
            threshold = th.threshold;
            marked = flag_kept th.marked i;
            suspending = flag_kept th.suspending i;
            object = th.object;
            ticks = word.kept th.ticks f.ticks i;
          };
      bytes = λ th f. (flag_byte_lem th.created, (f.state, (f.priority, (f.threshold, (flag_byte_lem th.marked, (flag_byte_lem th.suspending, (f.object, word.bytes th.ticks f.ticks)))))));
    }

semaphore : Format semaphore_bytes semaphore_of flagged_size SemaphoreFits
unfolding semaphore_of flagged_bytes word_bytes part
semaphore =
    record {
      sized = λ x f. refl;
      kept = λ x f i. record { created = flag_kept x.created i; count = word.kept x.count f.count i };
      bytes = λ x f. (flag_byte_lem x.created, word.bytes x.count f.count);
    }

group : Format group_bytes group_of flagged_size GroupFits
unfolding group_of flagged_bytes word_bytes part
group =
    record {
      sized = λ g f. refl;
      kept = λ g f i. record { created = flag_kept g.created i; flags = word.kept g.flags f.flags i };
      bytes = λ g f. (flag_byte_lem g.created, word.bytes g.flags f.flags);
    }

queue : Format queue_bytes queue_of queue_size QueueFits
unfolding queue_of queue_bytes part
queue =
    record {
      sized = λ q f. let s = (table word store_count).sized q.store f.store in omega (arith, s);
      kept = λ q f.
          let s = (table word store_count).sized q.store f.store in
          let t = take_all store_size (all_bytes word_bytes q.store) (omega (arith, s)) in
          λ i. record { created = flag_kept q.created i; words = q.words; storage = q.storage; stored = q.stored; store = (ap (words_of store_count) t ∙ (table word store_count).kept q.store f.store) i };
      bytes = λ q f. (flag_byte_lem q.created, (f.words, (f.storage, (f.stored, (table word store_count).bytes q.store f.store))));
    }

pool : Format pool_bytes pool_of pool_size PoolFits
unfolding pool_of pool_bytes word_bytes half_bytes half_of part
pool =
    record {
      sized = λ p f. let s = f.list.size in omega (arith, s);
      kept = λ p f.
          let s = f.list.size in
          let t = take_all list_count p.list (omega (arith, s)) in
          λ i. record { created = flag_kept p.created i; block = half_spelled_lem p.block f.block i; total = word.kept p.total f.total i; free = p.free; list = t i };
      bytes = λ p f.
          (flag_byte_lem p.created, (low_byte p.block, (low_byte (p.block / 0x100), all_append Byte (word_bytes p.total) (p.free ∷ p.list) (word.bytes p.total f.total) (f.free, f.list.each))));
    }

-- what lies behind the held words
abbrev behind_words : Held → List ℕ
behind_words h = flag_byte h.sending ∷ flag_byte h.front ∷ (word_bytes h.request ++ (h.option ∷ []))

-- where the parts of what a thread holds lie
module _ (h : Held) (f : HeldFits h) where
  words_from : drop held_words (held_bytes h) ≡ all_bytes word_bytes h.words ++ behind_words h
  unfolding held_bytes word_bytes
  words_from = refl

  flags_from : drop held_sending (held_bytes h) ≡ behind_words h
  flags_from = behind (table word word_count) (held_bytes h) (behind_words h) held_words h.words f.words words_from

  held_size_lem : length (held_bytes h) ≡ held_size
  unfolding word_bytes
  held_size_lem = length_from (held_bytes h) held_sending (behind_words h) (held_size - held_sending) flags_from refl (omega arith)

  sending_byte : byte_at (held_bytes h) held_sending ≡ flag_byte h.sending
  sending_byte = byte_on (held_bytes h) held_sending (behind_words h) 0 flags_from

  front_byte : byte_at (held_bytes h) held_front ≡ flag_byte h.front
  front_byte = byte_on (held_bytes h) held_sending (behind_words h) 1 flags_from

  held_kept : held_of (held_bytes h) ≡ h
  unfolding held_of held_bytes word_bytes part
  held_kept =
      λ i.
      record {
        status = word.kept h.status f.status i;
        words = here (table word word_count) (held_bytes h) (behind_words h) held_words h.words f.words words_from i;
        sending = (ap (λ (x : ℕ). eqb x 1) sending_byte ∙ flag_kept h.sending) i;
        front = (ap (λ (x : ℕ). eqb x 1) front_byte ∙ flag_kept h.front) i;
        request = (ap word_of (part_on (held_bytes h) held_sending (behind_words h) 2 4 flags_from) ∙ word.kept h.request f.request) i;
        option = byte_on (held_bytes h) held_sending (behind_words h) 6 flags_from i;
      }

held : Format held_bytes held_of held_size HeldFits
unfolding held_bytes
held =
    record {
      sized = held_size_lem;
      kept = held_kept;
      bytes = λ h f.
          all_append Byte (word_bytes h.status) _ (word.bytes h.status f.status)
          (all_append Byte (all_bytes word_bytes h.words) _ ((table word word_count).bytes h.words f.words)
          (flag_byte_lem h.sending, (flag_byte_lem h.front, all_append Byte (word_bytes h.request) _ (word.bytes h.request f.request) (f.option, tt))));
    }

-- ---- the scheduler
-- what lies behind the numbers of the order
abbrev behind_ids : Scheduler → List ℕ
behind_ids s = s.order.len ∷ all_bytes thread_bytes s.threads

module _ (s : Scheduler) (f : SchedulerFits s) where
  ids_from : drop scheduler_ids (scheduler_bytes s) ≡ s.order.ids ++ behind_ids s
  unfolding scheduler_bytes
  ids_from = refl

  len_from : drop scheduler_len (scheduler_bytes s) ≡ behind_ids s
  len_from = drop_on (scheduler_bytes s) scheduler_ids s.order.ids (behind_ids s) thread_count ids_from f.ids.size

  threads_from : drop scheduler_threads (scheduler_bytes s) ≡ all_bytes thread_bytes s.threads
  threads_from = drop_on (scheduler_bytes s) scheduler_len (s.order.len ∷ []) (all_bytes thread_bytes s.threads) 1 len_from refl

  threads_whole : drop scheduler_threads (scheduler_bytes s) ≡ all_bytes thread_bytes s.threads ++ []
  threads_whole = threads_from ∙ sym (append-nil _)

  scheduler_kept : scheduler_of (scheduler_bytes s) ≡ s
  unfolding scheduler_of scheduler_bytes
  scheduler_kept =
      let ids = part_here (scheduler_bytes s) scheduler_ids s.order.ids (behind_ids s) thread_count ids_from f.ids.size in
      let len = byte_on (scheduler_bytes s) scheduler_len (behind_ids s) 0 len_from in
      let threads = here (table thread thread_count) (scheduler_bytes s) [] scheduler_threads s.threads f.threads threads_whole in
      λ i. record { running = s.running; order = record { ids = ids i; len = len i }; threads = threads i }

scheduler : Format scheduler_bytes scheduler_of scheduler_size SchedulerFits
unfolding scheduler_bytes
scheduler =
    record {
      sized = λ s f. length_from (scheduler_bytes s) scheduler_threads (all_bytes thread_bytes s.threads) (thread_size * thread_count) (threads_from s f) ((table thread thread_count).sized s.threads f.threads) (omega arith);
      kept = scheduler_kept;
      bytes = λ s f. (f.running, all_append Byte s.order.ids _ f.ids.each (f.len, (table thread thread_count).bytes s.threads f.threads));
    }

-- ---- the kernel: what lies in its block from each table on
abbrev pools_on : Kernel → List ℕ
pools_on k = all_bytes pool_bytes k.pools ++ word_bytes k.clock

abbrev groups_on : Kernel → List ℕ
groups_on k = all_bytes group_bytes k.groups ++ pools_on k

abbrev queues_on : Kernel → List ℕ
queues_on k = all_bytes queue_bytes k.queues ++ groups_on k

abbrev semaphores_on : Kernel → List ℕ
semaphores_on k = all_bytes semaphore_bytes k.semaphores ++ queues_on k

abbrev held_on : Kernel → List ℕ
held_on k = all_bytes held_bytes k.held ++ semaphores_on k

module _ (k : Kernel) (f : Fits k) where
  scheduler_from : drop scheduler_at (bytes_of k) ≡ scheduler_bytes k.scheduler ++ held_on k
  unfolding bytes_of
  scheduler_from = refl

  held_from : drop held_at (bytes_of k) ≡ held_on k
  held_from = behind scheduler (bytes_of k) (held_on k) scheduler_at k.scheduler f.scheduler scheduler_from

  semaphores_from : drop semaphores_at (bytes_of k) ≡ semaphores_on k
  semaphores_from = behind (table held thread_count) (bytes_of k) (semaphores_on k) held_at k.held f.held held_from

  queues_from : drop queues_at (bytes_of k) ≡ queues_on k
  queues_from = behind (table semaphore semaphore_count) (bytes_of k) (queues_on k) semaphores_at k.semaphores f.semaphores semaphores_from

  groups_from : drop groups_at (bytes_of k) ≡ groups_on k
  groups_from = behind (table queue queue_count) (bytes_of k) (groups_on k) queues_at k.queues f.queues queues_from

  pools_from : drop pools_at (bytes_of k) ≡ pools_on k
  pools_from = behind (table group group_count) (bytes_of k) (pools_on k) groups_at k.groups f.groups groups_from

  clock_from : drop clock_at (bytes_of k) ≡ word_bytes k.clock
  clock_from = behind (table pool pool_count) (bytes_of k) (word_bytes k.clock) pools_at k.pools f.pools pools_from

  kernel_size : length (bytes_of k) ≡ state_bytes
  kernel_size = length_from (bytes_of k) clock_at (word_bytes k.clock) word_size clock_from (word.sized k.clock f.clock) (omega arith)

  kernel_kept : kernel_of (bytes_of k) ≡ k
  unfolding kernel_of
  kernel_kept =
      λ i.
      record {
        scheduler = here scheduler (bytes_of k) (held_on k) scheduler_at k.scheduler f.scheduler scheduler_from i;
        held = here (table held thread_count) (bytes_of k) (semaphores_on k) held_at k.held f.held held_from i;
        semaphores = here (table semaphore semaphore_count) (bytes_of k) (queues_on k) semaphores_at k.semaphores f.semaphores semaphores_from i;
        queues = here (table queue queue_count) (bytes_of k) (groups_on k) queues_at k.queues f.queues queues_from i;
        groups = here (table group group_count) (bytes_of k) (pools_on k) groups_at k.groups f.groups groups_from i;
        pools = here (table pool pool_count) (bytes_of k) (word_bytes k.clock) pools_at k.pools f.pools pools_from i;
        clock = here word (bytes_of k) [] clock_at k.clock f.clock (clock_from ∙ sym (append-nil _)) i;
      }

  kernel_bytes : All Byte (bytes_of k)
  unfolding bytes_of
  kernel_bytes =
      all_append Byte (scheduler_bytes k.scheduler) _ (scheduler.bytes k.scheduler f.scheduler)
      (all_append Byte (all_bytes held_bytes k.held) _ ((table held thread_count).bytes k.held f.held)
      (all_append Byte (all_bytes semaphore_bytes k.semaphores) _ ((table semaphore semaphore_count).bytes k.semaphores f.semaphores)
      (all_append Byte (all_bytes queue_bytes k.queues) _ ((table queue queue_count).bytes k.queues f.queues)
      (all_append Byte (all_bytes group_bytes k.groups) _ ((table group group_count).bytes k.groups f.groups)
      (all_append Byte (all_bytes pool_bytes k.pools) _ ((table pool pool_count).bytes k.pools f.pools) (word.bytes k.clock f.clock))))))

  -- ---- its flags
  -- the threads lie at the end of the scheduler
  threads_in : drop threads_at (bytes_of k) ≡ all_bytes thread_bytes k.scheduler.threads ++ held_on k
  unfolding bytes_of
  threads_in =
      let s = scheduler.sized k.scheduler f.scheduler in
      drop-append-le threads_at (scheduler_bytes k.scheduler) (held_on k) (omega (arith, s))
      ∙ ap (λ (l : List ℕ). l ++ held_on k) (threads_from k.scheduler f.scheduler)

  -- flags of threads and of what they hold, by their place in the record
  thread_flag : (j : ℕ) → j < thread_size → ((th : Thread) → ThreadFits th → flagb (thread_bytes th) j ≡ true) → (i : ℕ) → i < thread_count → flagb (bytes_of k) (threads_at + j + thread_size * i) ≡ true
  thread_flag j h fits = table-flags thread j h fits (bytes_of k) (held_on k) thread_count k.scheduler.threads threads_at f.scheduler.threads threads_in

  held_flag : (j : ℕ) → j < held_size → ((h : Held) → HeldFits h → flagb (held_bytes h) j ≡ true) → (i : ℕ) → i < thread_count → flagb (bytes_of k) (held_at + j + held_size * i) ≡ true
  held_flag j h fits = table-flags held j h fits (bytes_of k) (semaphores_on k) thread_count k.held held_at f.held held_from

  threads-flags : thread_flagsb (bytes_of k) ≡ true
  unfolding thread_flagsb thread_bytes
  threads-flags =
      all_in thread_count _
      (λ i l.
      let created = thread_flag thread_created (omega arith) (λ th g. flag_fits th.created) i l in
      let marked = thread_flag thread_marked (omega arith) (λ th g. flag_fits th.marked) i l in
      let suspending = thread_flag thread_suspending (omega arith) (λ th g. flag_fits th.suspending) i l in
      let sending = held_flag held_sending (omega arith) (λ h g. ap flag_byteb (sending_byte h g) ∙ flag_fits h.sending) i l in
      let front = held_flag held_front (omega arith) (λ h g. ap flag_byteb (front_byte h g) ∙ flag_fits h.front) i l in
      and_in _ _ (and_in _ _ (and_in _ _ (and_in _ _ created marked) suspending) sending) front)

  semaphores-flags : semaphore_flagsb (bytes_of k) ≡ true
  unfolding semaphore_flagsb flagged_bytes
  semaphores-flags = all_in semaphore_count _ (table-flags semaphore flagged_created (omega arith) (λ x g. flag_fits x.created) (bytes_of k) (queues_on k) semaphore_count k.semaphores semaphores_at f.semaphores semaphores_from)

  queues-flags : queue_flagsb (bytes_of k) ≡ true
  unfolding queue_flagsb queue_bytes flagged_bytes
  queues-flags =
      all_in queue_count _
      (λ i l.
      and_in _ _
      (table-flags queue queue_created (omega arith) (λ q g. flag_fits q.created) (bytes_of k) (groups_on k) queue_count k.queues queues_at f.queues queues_from i l)
      (table-flags group flagged_created (omega arith) (λ g h. flag_fits g.created) (bytes_of k) (pools_on k) group_count k.groups groups_at f.groups groups_from i l))

  pools-flags : pool_flagsb (bytes_of k) ≡ true
  unfolding pool_flagsb pool_bytes
  pools-flags = all_in pool_count _ (table-flags pool pool_created (omega arith) (λ p g. flag_fits p.created) (bytes_of k) (word_bytes k.clock) pool_count k.pools pools_at f.pools pools_from)

  kernel-flags : flags_fitb (bytes_of k) ≡ true
  unfolding flags_fitb
  kernel-flags = and_in _ _ (and_in _ _ (and_in _ _ threads-flags semaphores-flags) queues-flags) pools-flags

pub block_claims : BlockClaims
block_claims = record { sized = kernel_size; bytes = kernel_bytes; flagged = kernel-flags; restored = kernel_kept; fitted = kernel_fitted; rewritten = kernel_rewritten }
