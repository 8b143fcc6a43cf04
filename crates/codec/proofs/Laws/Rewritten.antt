-- What is written from a block that was read is that block: words and flags, records, tables, the kernel.
use mathlib.Core.Path.{◌≡◌, refl, sym, ap, ◌∙◌}
use mathlib.Core.List.{List, [], ◌∷◌, ◌++◌, map}
use mathlib.Core.Bool.{Bool, true, ◌&&◌}
use Prim.Native.Nat.{ℕ, zero, suc, ◌+◌, ◌*◌, ◌≤◌, ◌<◌}
use native.Mathlib.Omega.{arith}
use native.Mathlib.Nat.{mul-suc, mul-le-mul_left}
use lib.ListN.{length, drop, length-drop, take-append-drop, drop_of_length-le}
use lib.Dec.{eqb}
use lib.Seq.{take_all, drop-cons, drop-drop, get_or-drop, get_or-take, length-take-le}
use borrow.Author.Tests.{leb-true}
use Rattle.lines.specs.Lists.{numbers_from}
use Rattle.lines.proofs.Laws.Logic.{and_left, and_right, all-at}
use Rattle.words.specs.Words.{Byte, Half, Word, word_size, half_size, word, word_bytes, half_bytes}
use Rattle.words.proofs.Laws.Words as Words
use Rattle.codec.specs.Blocks.{part, byte_at, flag_at, word_of, half_of, table_of, flag_byte, all_bytes}
use Rattle.codec.specs.Layout.{clock_at, flagged_created, flagged_size, flagged_word, group_count, groups_at, held_at, held_front, held_option, held_request, held_sending, held_size, held_status, held_words, list_count, pool_block, pool_count, pool_created, pool_free, pool_list, pool_size, pool_total, pools_at, queue_count, queue_created, queue_size, queue_storage, queue_store, queue_stored, queue_words, queues_at, scheduler_at, scheduler_ids, scheduler_len, scheduler_running, scheduler_size, scheduler_threads, semaphore_count, semaphores_at, state_bytes, store_count, store_size, thread_count, thread_created, thread_marked, thread_object, thread_priority, thread_size, thread_state, thread_suspending, thread_threshold, thread_ticks, threads_at, word_count, words_size}
use Rattle.codec.specs.State.{thread_of, held_of, semaphore_of, queue_of, group_of, pool_of, scheduler_of, kernel_of, flagb, thread_flagsb, semaphore_flagsb, queue_flagsb, pool_flagsb, flags_fitb}
use Rattle.codec.specs.Bytes.{thread_bytes, held_bytes, flagged_bytes, semaphore_bytes, group_bytes, queue_bytes, pool_bytes, scheduler_bytes, bytes_of}
use Rattle.codec.specs.Restored.{All, Array, ThreadFits, HeldFits, SemaphoreFits, QueueFits, GroupFits, PoolFits, SchedulerFits, Fits}
use Rattle.codec.proofs.Laws.Arrays.{all_take, all_drop, all_get}

-- the test of a flag, by its byte
abbrev pub flag_byteb : ℕ → Bool
flag_byteb x = flagb (x ∷ []) 0

-- ---- parts of a block
-- bytes of a part, and how many it has
module _ (b : List ℕ) (a n : ℕ) where
  part_bytes : All Byte b → All Byte (part a n b)
  unfolding part
  part_bytes f = all_take Byte n (drop a b) (all_drop Byte a b f)

  part_size : a + n ≤ length b → length (part a n b) ≡ n
  unfolding part
  part_size l = let d = length-drop a b in length-take-le n (drop a b) (omega (arith, d, l))

  byte-part : (j : ℕ) → j < n → byte_at (part a n b) j ≡ byte_at b (a + j)
  unfolding part
  byte-part j l = get_or-take n (drop a b) j 0 l ∙ get_or-drop a b j 0

  flag-part : (j : ℕ) → j < n → flagb b (a + j) ≡ true → flagb (part a n b) j ≡ true
  flag-part j l e = ap flag_byteb (byte-part j l) ∙ e

pub byte-at : (b : List ℕ) (i : ℕ) → All Byte b → Byte (byte_at b i)
byte-at b i f = all_get Byte b i 0 f (omega arith)

-- ---- a block, from byte a on, put together from what stands there and what stands behind that
module _ (b : List ℕ) (a : ℕ) where
  then_byte : (rest : List ℕ) → a < length b → rest ≡ drop (suc a) b → byte_at b a ∷ rest ≡ drop a b
  then_byte rest l e = ap (λ (r : List ℕ). byte_at b a ∷ r) e ∙ sym (drop-cons b a 0 l)

  -- a flag that is 0 or 1
  then_flag : (rest : List ℕ) → a < length b → flagb b a ≡ true → rest ≡ drop (suc a) b → flag_byte (flag_at b a) ∷ rest ≡ drop a b
  unfolding flag_byte
  then_flag rest l f e = ap (λ (x : ℕ). x ∷ rest) (flag_back (byte_at b a) (let h = leb-true (byte_at b a) _ f in omega (arith, h))) ∙ then_byte rest l e
    where
      flag_back : (x : ℕ) → x ≤ 1 → flag_byte (eqb x 1) ≡ x
      flag_back zero h = refl
      flag_back (suc zero) h = refl
      flag_back (suc (suc x)) h = absurd (omega (arith, h))

  then-part : (ys rest : List ℕ) (n : ℕ) → ys ≡ part a n b → rest ≡ drop (a + n) b → ys ++ rest ≡ drop a b
  unfolding part
  then-part ys rest n p e = (λ i. p i ++ (e ∙ sym (drop-drop n a b)) i) ∙ take-append-drop n (drop a b)

  last-part : (ys : List ℕ) (n : ℕ) → length b ≡ a + n → ys ≡ part a n b → ys ≡ drop a b
  unfolding part
  last-part ys n h p = p ∙ take_all n (drop a b) (let d = length-drop a b in omega (arith, d, h))

  nothing : length b ≡ a → [] ≡ drop a b
  nothing h = let l : length b ≤ a = omega (arith, h) in sym (drop_of_length-le b l)

-- ---- what is read from `size` bytes fits, and is written to these bytes again where its flags F are 0 or 1
record Reread {A : Type 0} (write : A → List ℕ) (read : List ℕ → A) (size : ℕ) (P : A → Type 0) (F : List ℕ → Type 0) : Type 0 where
  fitted : (b : List ℕ) → length b ≡ size → All Byte b → P (read b)
  same : (b : List ℕ) → length b ≡ size → All Byte b → F b → write (read b) ≡ b

-- no flags
abbrev None : List ℕ → Type 0
None b = Unit {0}

-- the flags of n records
abbrev Each : (List ℕ → Type 0) → ℕ → ℕ → List ℕ → Type 0
Each F size n b = (i : ℕ) → i < n → F (part (size * i) size b)

module _ {A : Type 0} {write : A → List ℕ} {read : List ℕ → A} {size : ℕ} {P : A → Type 0} {F : List ℕ → Type 0} (r : Reread write read size P F) where
  -- the same of a part of a block
  module _ (b : List ℕ) (a : ℕ) (l : a + size ≤ length b) (f : All Byte b) where
    part_fits : P (read (part a size b))
    part_fits = r.fitted (part a size b) (part_size b a size l) (part_bytes b a size f)

    part_same : F (part a size b) → write (read (part a size b)) ≡ part a size b
    part_same g = r.same (part a size b) (part_size b a size l) (part_bytes b a size f) g

  -- the records from number j on
  module _ (b : List ℕ) (f : All Byte b) where
    record_inside : (j m : ℕ) → length b ≡ size * (j + suc m) → size * j + size ≤ length b
    record_inside j m h =
        let s = mul-suc size j in
        let l = mul-le-mul_left size (let z : suc j ≤ j + suc m = omega arith in z) in
        omega (arith, s, l, h)

    records_fit : (j m : ℕ) → length b ≡ size * (j + m) → Array P m (map (λ i. read (part (size * i) size b)) (numbers_from j m))
    unfolding numbers_from
    records_fit j zero h = record { size = refl; each = tt }
    records_fit j (suc m) h =
        let rest = records_fit (suc j) m (h ∙ ap (λ (n : ℕ). size * n) (let z : j + suc m ≡ suc j + m = omega arith in z)) in
        record { size = ap suc rest.size; each = (part_fits b (size * j) (record_inside j m h) f, rest.each) }

    records_same : (j m : ℕ) → length b ≡ size * (j + m) → Each F size (j + m) b → all_bytes write (map (λ i. read (part (size * i) size b)) (numbers_from j m)) ≡ drop (size * j) b
    unfolding numbers_from all_bytes
    records_same j zero h g = nothing b (size * j) (h ∙ ap (λ (n : ℕ). size * n) (let z : j + 0 ≡ j = omega arith in z))
    records_same j (suc m) h g =
        let z : j + suc m ≡ suc j + m = omega arith in
        then-part b (size * j) (write (read (part (size * j) size b))) _ size
        (part_same b (size * j) (record_inside j m h) f (g j (omega arith)))
        (records_same (suc j) m (h ∙ ap (λ (n : ℕ). size * n) z) (λ i l. g i (omega (arith, l))) ∙ ap (λ (n : ℕ). drop n b) (mul-suc size j))

  -- a table of n records
  table : (n : ℕ) → Reread (all_bytes write) (table_of read size n) (size * n) (Array P n) (Each F size n)
  unfolding table_of
  table n =
      let z : size * n ≡ size * (0 + n) = ap (λ (m : ℕ). size * m) (let y : n ≡ 0 + n = omega arith in y) in
      record {
        fitted = λ b h f. records_fit b f 0 n (h ∙ z);
        same = λ b h f g. records_same b f 0 n (h ∙ z) (λ i l. g i (omega (arith, l))) ∙ ap (λ (m : ℕ). drop m b) (let y : size * 0 ≡ 0 = omega arith in y);
      }

-- ---- words and halves
-- what four bytes spell is a word
pub word_fits : (b0 b1 b2 b3 : ℕ) → Byte b0 → Byte b1 → Byte b2 → Byte b3 → Word (word b0 b1 b2 b3)
word_fits b0 b1 b2 b3 h0 h1 h2 h3 = omega (arith, h0, h1, h2, h3)

words : Reread word_bytes word_of word_size Word None
unfolding word_of
words =
    record {
      fitted = λ b h f. word_fits (byte_at b 0) (byte_at b 1) (byte_at b 2) (byte_at b 3) (byte-at b 0 f) (byte-at b 1 f) (byte-at b 2 f) (byte-at b 3 f);
      same = λ b h f g.
          (Words.claims).word_split (byte_at b 0) (byte_at b 1) (byte_at b 2) (byte_at b 3) (byte-at b 0 f) (byte-at b 1 f) (byte-at b 2 f) (byte-at b 3 f)
          ∙ then_byte b 0 _ (omega (arith, h)) (then_byte b 1 _ (omega (arith, h)) (then_byte b 2 _ (omega (arith, h)) (then_byte b 3 _ (omega (arith, h)) (nothing b 4 h))));
    }

halves : Reread half_bytes half_of half_size Half None
unfolding half_of
halves =
    record {
      fitted = λ b h f. let h0 = byte-at b 0 f in let h1 = byte-at b 1 f in omega (arith, h0, h1);
      same = λ b h f g.
          (Words.claims).half_split (byte_at b 0) (byte_at b 1) (byte-at b 0 f) (byte-at b 1 f)
          ∙ then_byte b 0 _ (omega (arith, h)) (then_byte b 1 _ (omega (arith, h)) (nothing b 2 h));
    }

-- ---- records
-- the flags of a thread, of what it holds, and of an object
abbrev ThreadFlags : List ℕ → Type 0
ThreadFlags b = (flagb b thread_created ≡ true) × (flagb b thread_marked ≡ true) × (flagb b thread_suspending ≡ true)

abbrev HeldFlags : List ℕ → Type 0
HeldFlags b = (flagb b held_sending ≡ true) × (flagb b held_front ≡ true)

abbrev ObjectFlags : List ℕ → Type 0
ObjectFlags b = flagb b 0 ≡ true

thread : Reread thread_bytes thread_of thread_size ThreadFits ThreadFlags
unfolding thread_of thread_bytes
thread =
    record {
      fitted = λ b h f.
          record {
            state = byte-at b thread_state f;
            priority = byte-at b thread_priority f;
            threshold = byte-at b thread_threshold f;
            object = byte-at b thread_object f;
            ticks = part_fits words b thread_ticks (omega (arith, h)) f;
          };
      same = λ b h f g.
          then_flag b thread_created _ (omega (arith, h)) g.0
          (then_byte b thread_state _ (omega (arith, h))
          (then_byte b thread_priority _ (omega (arith, h))
          (then_byte b thread_threshold _ (omega (arith, h))
          (then_flag b thread_marked _ (omega (arith, h)) g.1
          (then_flag b thread_suspending _ (omega (arith, h)) g.2
          (then_byte b thread_object _ (omega (arith, h))
          (last-part b thread_ticks _ word_size h (part_same words b thread_ticks (omega (arith, h)) f tt))))))));
    }

held : Reread held_bytes held_of held_size HeldFits HeldFlags
unfolding held_of held_bytes
held =
    record {
      fitted = λ b h f.
          record {
            status = part_fits words b held_status (omega (arith, h)) f;
            words = part_fits (table words word_count) b held_words (omega (arith, h)) f;
            request = part_fits words b held_request (omega (arith, h)) f;
            option = byte-at b held_option f;
          };
      same = λ b h f g.
          then-part b held_status _ _ word_size (part_same words b held_status (omega (arith, h)) f tt)
          (then-part b held_words _ _ words_size (part_same (table words word_count) b held_words (omega (arith, h)) f (λ i l. tt))
          (then_flag b held_sending _ (omega (arith, h)) g.0
          (then_flag b held_front _ (omega (arith, h)) g.1
          (then-part b held_request _ _ word_size (part_same words b held_request (omega (arith, h)) f tt)
          (then_byte b held_option _ (omega (arith, h)) (nothing b held_size h))))));
    }

semaphore : Reread semaphore_bytes semaphore_of flagged_size SemaphoreFits ObjectFlags
unfolding semaphore_of flagged_bytes
semaphore =
    record {
      fitted = λ b h f. record { count = part_fits words b flagged_word (omega (arith, h)) f };
      same = λ b h f g. then_flag b flagged_created _ (omega (arith, h)) g (last-part b flagged_word _ word_size h (part_same words b flagged_word (omega (arith, h)) f tt));
    }

group : Reread group_bytes group_of flagged_size GroupFits ObjectFlags
unfolding group_of flagged_bytes
group =
    record {
      fitted = λ b h f. record { flags = part_fits words b flagged_word (omega (arith, h)) f };
      same = λ b h f g. then_flag b flagged_created _ (omega (arith, h)) g (last-part b flagged_word _ word_size h (part_same words b flagged_word (omega (arith, h)) f tt));
    }

queue : Reread queue_bytes queue_of queue_size QueueFits ObjectFlags
unfolding queue_of queue_bytes
queue =
    record {
      fitted = λ b h f.
          record {
            words = byte-at b queue_words f;
            storage = byte-at b queue_storage f;
            stored = byte-at b queue_stored f;
            store = part_fits (table words store_count) b queue_store (omega (arith, h)) f;
          };
      same = λ b h f g.
          then_flag b queue_created _ (omega (arith, h)) g
          (then_byte b queue_words _ (omega (arith, h))
          (then_byte b queue_storage _ (omega (arith, h))
          (then_byte b queue_stored _ (omega (arith, h))
          (last-part b queue_store _ store_size h (part_same (table words store_count) b queue_store (omega (arith, h)) f (λ i l. tt))))));
    }

pool : Reread pool_bytes pool_of pool_size PoolFits ObjectFlags
unfolding pool_of pool_bytes
pool =
    record {
      fitted = λ b h f.
          record {
            block = part_fits halves b pool_block (omega (arith, h)) f;
            total = part_fits words b pool_total (omega (arith, h)) f;
            free = byte-at b pool_free f;
            list = record { size = part_size b pool_list list_count (omega (arith, h)); each = part_bytes b pool_list list_count f };
          };
      same = λ b h f g.
          then_flag b pool_created _ (omega (arith, h)) g
          (then-part b pool_block _ _ half_size (part_same halves b pool_block (omega (arith, h)) f tt)
          (then-part b pool_total _ _ word_size (part_same words b pool_total (omega (arith, h)) f tt)
          (then_byte b pool_free _ (omega (arith, h)) (last-part b pool_list _ list_count h refl))));
    }

-- ---- the scheduler
abbrev ThreadsFlags : List ℕ → Type 0
ThreadsFlags b = Each ThreadFlags thread_size thread_count (part scheduler_threads (thread_size * thread_count) b)

scheduler : Reread scheduler_bytes scheduler_of scheduler_size SchedulerFits ThreadsFlags
unfolding scheduler_of scheduler_bytes
scheduler =
    record {
      fitted = λ b h f.
          record {
            running = byte-at b scheduler_running f;
            ids = record { size = part_size b scheduler_ids thread_count (omega (arith, h)); each = part_bytes b scheduler_ids thread_count f };
            len = byte-at b scheduler_len f;
            threads = part_fits (table thread thread_count) b scheduler_threads (omega (arith, h)) f;
          };
      same = λ b h f g.
          then_byte b scheduler_running _ (omega (arith, h))
          (then-part b scheduler_ids _ _ thread_count refl
          (then_byte b scheduler_len _ (omega (arith, h))
          (last-part b scheduler_threads _ (thread_size * thread_count) h (part_same (table thread thread_count) b scheduler_threads (omega (arith, h)) f g))));
    }

-- ---- the kernel
-- a flag at byte j of record i of a table that begins at byte a
record_flag : (b : List ℕ) (a size n i j : ℕ) → j < size → i < n → flagb b (a + j + size * i) ≡ true → flagb (part (size * i) size (part a (size * n) b)) j ≡ true
record_flag b a size n i j l m e =
    let s = mul-suc size i in
    let k = mul-le-mul_left size m in
    let z : a + (size * i + j) ≡ a + j + size * i = omega arith in
    flag-part (part a (size * n) b) (size * i) size j l (flag-part b a (size * n) (size * i + j) (omega (arith, s, k, l)) (ap (λ (x : ℕ). flagb b x) z ∙ e))

module _ (b : List ℕ) (h : length b ≡ state_bytes) (f : All Byte b) where
  pub kernel_fitted : Fits (kernel_of b)
  unfolding kernel_of
  kernel_fitted =
      record {
        scheduler = part_fits scheduler b scheduler_at (omega (arith, h)) f;
        held = part_fits (table held thread_count) b held_at (omega (arith, h)) f;
        semaphores = part_fits (table semaphore semaphore_count) b semaphores_at (omega (arith, h)) f;
        queues = part_fits (table queue queue_count) b queues_at (omega (arith, h)) f;
        groups = part_fits (table group group_count) b groups_at (omega (arith, h)) f;
        pools = part_fits (table pool pool_count) b pools_at (omega (arith, h)) f;
        clock = part_fits words b clock_at (omega (arith, h)) f;
      }

  module _ (g : flags_fitb b ≡ true) where
    -- the flags of threads and of what they hold
    threads_fit : thread_flagsb b ≡ true
    unfolding flags_fitb
    threads_fit = and_left (thread_flagsb b) (semaphore_flagsb b) (and_left _ _ (and_left _ _ g))

    thread-flags : ThreadsFlags (part scheduler_at scheduler_size b)
    unfolding thread_flagsb
    thread-flags i l =
        let at : (j : ℕ) → j < thread_size → flagb b (threads_at + j + thread_size * i) ≡ true → flagb (part (thread_size * i) thread_size (part scheduler_threads (thread_size * thread_count) (part scheduler_at scheduler_size b))) j ≡ true =
        λ j m e. record_flag (part scheduler_at scheduler_size b) scheduler_threads thread_size thread_count i j m l (flag-part b scheduler_at scheduler_size (scheduler_threads + j + thread_size * i) (omega (arith, m, l))
        (ap (λ (x : ℕ). flagb b x) (let z : scheduler_at + (scheduler_threads + j + thread_size * i) ≡ threads_at + j + thread_size * i = omega arith in z) ∙ e)) in
        let t = and_left _ _ (and_left _ _ (all-at thread_count _ threads_fit i l)) in
        let first : Bool = flagb b (threads_at + thread_created + thread_size * i) in
        let second : Bool = flagb b (threads_at + thread_marked + thread_size * i) in
        (at thread_created (omega arith) (and_left first second (and_left _ _ t)), at thread_marked (omega arith) (and_right first second (and_left _ _ t)), at thread_suspending (omega arith) (and_right (first && second) _ t))

    held-flags : Each HeldFlags held_size thread_count (part held_at (held_size * thread_count) b)
    unfolding thread_flagsb
    held-flags i l =
        let t = all-at thread_count _ threads_fit i l in
        let threads : Bool = flagb b (threads_at + thread_created + thread_size * i) && flagb b (threads_at + thread_marked + thread_size * i) && flagb b (threads_at + thread_suspending + thread_size * i) in (
          record_flag b held_at held_size thread_count i held_sending (omega arith) l (and_right threads _ (and_left _ _ t)),
          record_flag b held_at held_size thread_count i held_front (omega arith) l (and_right (threads && flagb b (held_at + held_sending + held_size * i)) _ t),
        )

    -- those of the objects
    semaphore-flags : Each ObjectFlags flagged_size semaphore_count (part semaphores_at (flagged_size * semaphore_count) b)
    unfolding flags_fitb semaphore_flagsb
    semaphore-flags i l =
        record_flag b semaphores_at flagged_size semaphore_count i flagged_created (omega arith) l (all-at semaphore_count _ (and_right (thread_flagsb b) _ (and_left _ _ (and_left _ _ g))) i l)

    queues_fit : queue_flagsb b ≡ true
    unfolding flags_fitb
    queues_fit = and_right (thread_flagsb b && semaphore_flagsb b) (queue_flagsb b) (and_left _ _ g)

    queue-flags : Each ObjectFlags queue_size queue_count (part queues_at (queue_size * queue_count) b)
    unfolding queue_flagsb
    queue-flags i l = record_flag b queues_at queue_size queue_count i queue_created (omega arith) l (and_left _ _ (all-at queue_count _ queues_fit i l))

    group-flags : Each ObjectFlags flagged_size group_count (part groups_at (flagged_size * group_count) b)
    unfolding queue_flagsb
    group-flags i l = record_flag b groups_at flagged_size group_count i flagged_created (omega arith) l (and_right (flagb b (queues_at + queue_created + queue_size * i)) _ (all-at queue_count _ queues_fit i l))

    pool-flags : Each ObjectFlags pool_size pool_count (part pools_at (pool_size * pool_count) b)
    unfolding flags_fitb pool_flagsb
    pool-flags i l = record_flag b pools_at pool_size pool_count i pool_created (omega arith) l (all-at pool_count _ (and_right (thread_flagsb b && semaphore_flagsb b && queue_flagsb b) _ g) i l)

    pub kernel_rewritten : bytes_of (kernel_of b) ≡ b
    unfolding kernel_of bytes_of
    kernel_rewritten =
        then-part b scheduler_at _ _ scheduler_size (part_same scheduler b scheduler_at (omega (arith, h)) f thread-flags)
        (then-part b held_at _ _ (held_size * thread_count) (part_same (table held thread_count) b held_at (omega (arith, h)) f held-flags)
        (then-part b semaphores_at _ _ (flagged_size * semaphore_count) (part_same (table semaphore semaphore_count) b semaphores_at (omega (arith, h)) f semaphore-flags)
        (then-part b queues_at _ _ (queue_size * queue_count) (part_same (table queue queue_count) b queues_at (omega (arith, h)) f queue-flags)
        (then-part b groups_at _ _ (flagged_size * group_count) (part_same (table group group_count) b groups_at (omega (arith, h)) f group-flags)
        (then-part b pools_at _ _ (pool_size * pool_count) (part_same (table pool pool_count) b pools_at (omega (arith, h)) f pool-flags)
        (last-part b clock_at _ word_size h (part_same words b clock_at (omega (arith, h)) f tt)))))))
