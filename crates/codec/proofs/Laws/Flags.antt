-- Tests of every record of a table.
use mathlib.Core.Path.{◌≡◌, refl, ap, ◌∙◌}
use mathlib.Core.List.{List}
use mathlib.Core.Bool.{Bool, true, false, ◌&&◌}
use Prim.Native.Nat.{ℕ, zero, suc, ◌+◌, ◌*◌, ◌<◌}
use native.Mathlib.Nat.{mul-le-mul_left}
use native.Mathlib.Omega.{arith}
use Rattle.lines.specs.Logic.{all_below}
use Rattle.lines.proofs.Laws.Logic.{all_more}
use Rattle.codec.specs.Layout.{thread_count, semaphore_count, queue_count, group_count, pool_count, thread_created, thread_marked, thread_suspending, held_sending, held_front, flagged_created, queue_created, pool_created, thread_size, held_size, flagged_size, queue_size, pool_size, threads_at, held_at, semaphores_at, queues_at, groups_at, pools_at}
use Rattle.codec.specs.State.{flagb, thread_flagsb, semaphore_flagsb, queue_flagsb, pool_flagsb, flags_fitb}

-- before the first record
pub tested_none : (p : ℕ → Bool) → true ≡ all_below 0 p
unfolding all_below
tested_none p = refl

-- one more record
pub tested_more : (p : ℕ → Bool) (fit x : Bool) (i : ℕ) → fit ≡ all_below i p → x ≡ p i → (fit && x) ≡ all_below (i + 1) p
tested_more p fit x i e v = (λ j. e j && v j) ∙ all_more p i

-- what lies at record i, where the last of n such records ends before byte k
pub tested_within : (first size n k i : ℕ) → first + size * n < k → i < n → first + size * i < k
tested_within first size n k i h l = let m = mul-le-mul_left size (let z : i < n = l in z) in omega (arith, m)

-- what proves each need of a loop that tests a table
pub ruleset tests = (tested_none, tested_more, tested_within)

-- ---- two tests of each record
pub both : (x y v w : Bool) → x ≡ v → y ≡ w → x && y ≡ v && w
both x y v w e f = λ j. e j && f j

and_pairs : (a b c d : Bool) → ((a && b) && (c && d)) ≡ ((a && c) && (b && d))
and_pairs true true c d = refl
and_pairs true false true d = refl
and_pairs true false false d = refl
and_pairs false b c d = refl

pub all-both : (n : ℕ) (f g : ℕ → Bool) → all_below n (λ i. f i && g i) ≡ (all_below n f && all_below n g)
unfolding all_below
all-both zero f g = refl
all-both (suc n) f g = (λ j. all-both n f g j && (f n && g n)) ∙ and_pairs (all_below n f) (all_below n g) (f n) (g n)

and_assoc : (a b c : Bool) → (a && (b && c)) ≡ ((a && b) && c)
and_assoc true b c = refl
and_assoc false b c = refl

-- the flags of every table, field by field
abbrev pub Flags : List ℕ → ℕ → ℕ → ℕ → Bool
Flags b n first size = all_below n (λ i. flagb b (first + size * i))

pub flags_by_field : (b : List ℕ) → flags_fitb b ≡
    (Flags b thread_count (threads_at + thread_created) thread_size
    && Flags b thread_count (threads_at + thread_marked) thread_size
    && Flags b thread_count (threads_at + thread_suspending) thread_size
    && Flags b thread_count (held_at + held_sending) held_size
    && Flags b thread_count (held_at + held_front) held_size
    && Flags b semaphore_count (semaphores_at + flagged_created) flagged_size
    && Flags b queue_count (queues_at + queue_created) queue_size
    && Flags b group_count (groups_at + flagged_created) flagged_size
    && Flags b pool_count (pools_at + pool_created) pool_size)
unfolding flags_fitb thread_flagsb semaphore_flagsb queue_flagsb pool_flagsb
flags_by_field b =
    let f : ℕ → ℕ → ℕ → Bool = λ first size i. flagb b (first + size * i) in
    let one = f (threads_at + thread_created) thread_size in
    let two = λ (i : ℕ). one i && f (threads_at + thread_marked) thread_size i in
    let three = λ (i : ℕ). two i && f (threads_at + thread_suspending) thread_size i in
    let four = λ (i : ℕ). three i && f (held_at + held_sending) held_size i in
    let e2 = all-both thread_count one (f (threads_at + thread_marked) thread_size) in
    let e3 = all-both thread_count two (f (threads_at + thread_suspending) thread_size) ∙ ap (λ (x : Bool). x && Flags b thread_count (threads_at + thread_suspending) thread_size) e2 in
    let e4 = all-both thread_count three (f (held_at + held_sending) held_size) ∙ ap (λ (x : Bool). x && Flags b thread_count (held_at + held_sending) held_size) e3 in
    let e5 = all-both thread_count four (f (held_at + held_front) held_size) ∙ ap (λ (x : Bool). x && Flags b thread_count (held_at + held_front) held_size) e4 in
    let q = all-both queue_count (f (queues_at + queue_created) queue_size) (f (groups_at + flagged_created) flagged_size) in
    (λ j. e5 j && semaphore_flagsb b && q j && pool_flagsb b)
    ∙ ap (λ (x : Bool). x && pool_flagsb b) (and_assoc _ (Flags b queue_count (queues_at + queue_created) queue_size) (Flags b group_count (groups_at + flagged_created) flagged_size))
