-- Laws of a queue's record.
use mathlib.Core.Path.{◌≡◌, refl, sym, ap, ◌∙◌}
use mathlib.Core.List.{List, [], ◌++◌}
use mathlib.Core.Bool.{Bool, true, false, ◌&&◌, and-true, and-false}
use Prim.Native.Nat.{ℕ, zero, suc, ◌+◌, ◌-◌, ◌*◌, ◌/◌, ◌≤◌, ◌<◌, min}
use native.Mathlib.Omega.{arith}
use native.Mathlib.Nat.{div-le_self, zero-mul, suc-mul, add_comm, le_trans}
use native.Mathlib.Numerals.{add-one}
use lib.ListN.{length, take, drop, get_or, length-take, length-drop, length-append, get_or-replicate, get_or-eq_default}
use lib.Dec.{eqb, leb}
use borrow.Author.Tests.{eqb-true, eqb-false, eq-eqb, leb-true, le-leb, ltb-true, ltb-false, lt-ltb}
use Rattle.lines.specs.Logic.{all_below}
use Rattle.lines.proofs.Laws.Logic.{by_test, by_eq, by_choice, and_left, and_right, and_in}
use Rattle.lines.proofs.Laws.Lines.{get_d-pad}
use Rattle.objects.specs.declared.queue.Queue.{Queue}
use Rattle.lines.specs.Slots.{zero_from}
use Rattle.objects.specs.Queues.{no_queue, capacity_of, used_words, sizes_fitb, queue_limitsb, store_fitb, queue_zerob, queue_fitb, emptyb, fullb, roomb, empty_queue, stored_words, storing, without_oldest, with_last, with_first, with_sent, left_past, flushed}
use Rattle.lines.proofs.Laws.Slots.{none_used, zero_in}
use Rattle.std.specs.Prelude.{if◌then◌else◌}

pub none_fit : queue_fitb no_queue ≡ true
unfolding queue_fitb queue_zerob no_queue zero_from all_below
none_fit = refl

-- ---- which test a record takes
pub fit-created : (q : Queue) → q.created ≡ true → queue_fitb q ≡ (queue_limitsb q && store_fitb q)
unfolding queue_fitb
fit-created q e = rw e

pub fit-uncreated : (q : Queue) → q.created ≡ false → queue_fitb q ≡ queue_zerob q
unfolding queue_fitb
fit-uncreated q e = rw e

-- the fields of an uncreated record but its store
abbrev fields_zero : Queue → Bool
fields_zero q = eqb q.words 0 && eqb q.storage 0 && eqb q.stored 0

-- where the fields are zero, the store behind the messages is the whole store
pub zero-store : (q : Queue) → (fields_zero q && zero_from (used_words q) q.store) ≡ queue_zerob q
unfolding queue_zerob used_words
zero-store q =
    none_used (fields_zero q) (q.stored * q.words) q.store
    (λ e. ap (λ (n : ℕ). n * q.words) (eqb-true q.stored 0 (and_right (eqb q.words 0 && eqb q.storage 0) (eqb q.stored 0) e)) ∙ zero-mul q.words)

-- ---- what fit sizes say
module _ (words storage : ℕ) (e : sizes_fitb words storage ≡ true) where
  abbrev w1 : Bool
  w1 = leb 1 words

  abbrev w2 : Bool
  w2 = leb words 16

  abbrev s1 : Bool
  s1 = leb 1 storage

  abbrev s2 : Bool
  s2 = leb storage 64

  sizes : (w1 && w2 && s1 && s2) ≡ true
  unfolding sizes_fitb
  sizes = and_left (w1 && w2 && s1 && s2) (leb 1 (storage / words)) e

  pub sizes-words : (1 ≤ words) × (words ≤ 16)
  sizes-words =
      let ws = and_left (w1 && w2) s1 (and_left (w1 && w2 && s1) s2 sizes) in
      (leb-true 1 words (and_left w1 w2 ws), leb-true words 16 (and_right w1 w2 ws))

  pub sizes-storage : (1 ≤ storage) × (storage ≤ 64)
  sizes-storage = (
    leb-true 1 storage (and_right (w1 && w2) s1 (and_left (w1 && w2 && s1) s2 sizes)),
    leb-true storage 64 (and_right (w1 && w2 && s1) s2 sizes),
  )

  pub sizes_room : 1 ≤ storage / words
  unfolding sizes_fitb
  sizes_room = leb-true 1 (storage / words) (and_right (w1 && w2 && s1 && s2) (leb 1 (storage / words)) e)

  -- fit sizes are bytes
  pub words_byte : min words 255 ≡ words
  words_byte = let h = sizes-words.1 in omega (arith, h)

  pub storage_byte : min storage 255 ≡ storage
  storage_byte = let h = sizes-storage.1 in omega (arith, h)

-- ---- what a fit record of a created queue says
module _ (q : Queue) (e : queue_fitb q ≡ true) (u : q.created ≡ true) where
  both : (queue_limitsb q && store_fitb q) ≡ true
  both = sym (fit-created q u) ∙ e

  pub fit_sizes : sizes_fitb q.words q.storage ≡ true
  unfolding queue_limitsb
  fit_sizes = and_left (queue_limitsb q) (store_fitb q) both

  pub fit_room : 1 ≤ capacity_of q
  unfolding capacity_of
  fit_room = sizes_room q.words q.storage fit_sizes

  pub fit-stored : q.stored ≤ capacity_of q
  unfolding store_fitb
  fit-stored =
      leb-true q.stored (capacity_of q)
      (and_left (leb q.stored (capacity_of q)) (zero_from (used_words q) q.store) (and_right (queue_limitsb q) (store_fitb q) both))

-- ---- a further message
pub last_room : (q : Queue) (m : List ℕ) → roomb q ≡ true → with_last q m ≡ storing q (q.stored + 1) (stored_words q ++ take q.words m)
unfolding with_last
last_room q m e = rw e

pub last_full : (q : Queue) (m : List ℕ) → roomb q ≡ false → with_last q m ≡ q
unfolding with_last
last_full q m e = rw e

pub first_room : (q : Queue) (m : List ℕ) → roomb q ≡ true → with_first q m ≡ storing q (q.stored + 1) (take q.words m ++ stored_words q)
unfolding with_first
first_room q m e = rw e

pub first_full : (q : Queue) (m : List ℕ) → roomb q ≡ false → with_first q m ≡ q
unfolding with_first
first_full q m e = rw e

pub sent_room : (q : Queue) (front : Bool) (m : List ℕ) → roomb q ≡ true
    → with_sent q front m ≡ storing q (q.stored + 1) (if front then take q.words m ++ stored_words q else stored_words q ++ take q.words m)
unfolding with_sent
sent_room q true m e = first_room q m e
sent_room q false m e = last_room q m e

pub sent_full : (q : Queue) (front : Bool) (m : List ℕ) → roomb q ≡ false → with_sent q front m ≡ q
unfolding with_sent
sent_full q true m e = first_full q m e
sent_full q false m e = last_full q m e

-- with room, one more message is counted within a byte
pub room_byte : (q : Queue) → q.storage < 256 → roomb q ≡ true → q.stored + 1 < 256
unfolding roomb capacity_of
room_byte q l e =
    let a = ltb-true q.stored (q.storage / q.words) e in
    let b = div-le_self q.storage q.words in
    omega (arith, a, b)

-- ---- fit records
-- a created queue with fit sizes whose store is clean
fit_in : (q : Queue) → q.created ≡ true → sizes_fitb q.words q.storage ≡ true → q.stored ≤ capacity_of q
    → ((i : ℕ) → used_words q ≤ i → i < 64 → get_or q.store i 0 ≡ 0) → queue_fitb q ≡ true
unfolding queue_limitsb store_fitb
fit_in q u s l z =
    fit-created q u
    ∙ and_in (queue_limitsb q) (store_fitb q) s
    (and_in (leb q.stored (capacity_of q)) (zero_from (used_words q) q.store)
    (le-leb q.stored (capacity_of q) l)
    (zero_in (used_words q) q.store z))

pub of_fit : (words storage : ℕ) → sizes_fitb words storage ≡ true → queue_fitb (empty_queue words storage) ≡ true
unfolding empty_queue
of_fit words storage e = fit_in (empty_queue words storage) refl e (omega arith) (λ i l h. get_or-replicate 64 i 0 0 h)

-- ---- what stays as it is
-- two queues of the same sizes, both created or both not
abbrev pub Alike : Queue → Queue → Type 0
Alike r q = (r.created ≡ q.created) × (r.words ≡ q.words) × (r.storage ≡ q.storage)

alike_then : (a b c : Queue) → Alike a b → Alike b c → Alike a c
alike_then a b c f g = (f.0 ∙ g.0, f.1 ∙ g.1, f.2 ∙ g.2)

pub storing_alike : (q : Queue) (n : ℕ) (ws : List ℕ) → Alike (storing q n ws) q
unfolding storing
storing_alike q n ws = (refl, refl, refl)

pub without_alike : (q : Queue) → Alike (without_oldest q) q
unfolding without_oldest
without_alike q = storing_alike q _ _

module _ (q : Queue) (m : List ℕ) where
  pub last_alike : Alike (with_last q m) q
  unfolding with_last
  last_alike = by_choice (λ (r : Queue). Alike r q) (roomb q) _ _ (λ w. storing_alike q _ _) (λ w. (refl, refl, refl))

pub past_alike : (q : Queue) (front : Bool) (m : List ℕ) → Alike (left_past q front m) q
unfolding left_past
past_alike q front m =
    by_choice (λ (r : Queue). Alike r q) front _ _
    (λ w. (refl, refl, refl))
    (λ w. alike_then (with_last (without_oldest q) m) (without_oldest q) q (last_alike (without_oldest q) m) (without_alike q))

-- ---- a fit queue of a created record stays fit
one-less-words : (n w : ℕ) → n * w - w ≤ (n - 1) * w
one-less-words zero w = rw (zero-mul w) (omega arith)
one-less-words (suc n) w =
    let a = suc-mul n w in
    let b : suc n - 1 ≡ n = omega arith in
    rw b (omega (arith, a))

module _ (q : Queue) (e : queue_fitb q ≡ true) (u : q.created ≡ true) where
  storing_fit : (n : ℕ) (ws : List ℕ) → n ≤ capacity_of q → length ws ≤ n * q.words → queue_fitb (storing q n ws) ≡ true
  unfolding storing used_words capacity_of
  storing_fit n ws l h =
      fit_in (storing q n ws) u (fit_sizes q e u) l
      (λ i g k. get_d-pad 64 ws i k ∙ get_or-eq_default ws 0 (le_trans h g))

  used_most : length (stored_words q) ≤ q.stored * q.words
  unfolding stored_words used_words
  used_most = let a = length-take (q.stored * q.words) q.store in omega (arith, a)

  -- one message more
  longer : (m xs : List ℕ) → length xs ≡ length (stored_words q) + length (take q.words m) → length xs ≤ (q.stored + 1) * q.words
  longer m xs h =
      let a = length-take q.words m in
      let b : (q.stored + 1) * q.words ≡ q.stored * q.words + q.words = ap (λ (k : ℕ). k * q.words) (add-one q.stored) ∙ suc-mul q.stored q.words in
      let c = used_most in
      omega (arith, a, b, c, h)

  room_more : roomb q ≡ true → q.stored + 1 ≤ capacity_of q
  unfolding roomb
  room_more w = let a = ltb-true q.stored (capacity_of q) w in omega (arith, a)

  pub last_fit : (m : List ℕ) → queue_fitb (with_last q m) ≡ true
  last_fit m =
      by_test (roomb q)
      (λ w. ap queue_fitb (last_room q m w)
      ∙ storing_fit _ _ (room_more w) (longer m (stored_words q ++ take q.words m) (length-append (stored_words q) (take q.words m))))
      (λ w. ap queue_fitb (last_full q m w) ∙ e)

  pub first_fit : (m : List ℕ) → queue_fitb (with_first q m) ≡ true
  first_fit m =
      by_test (roomb q)
      (λ w. ap queue_fitb (first_room q m w)
      ∙ storing_fit _ _ (room_more w)
      (longer m (take q.words m ++ stored_words q) (length-append (take q.words m) (stored_words q) ∙ add_comm (length (take q.words m)) (length (stored_words q)))))
      (λ w. ap queue_fitb (first_full q m w) ∙ e)

  pub sent_fit : (front : Bool) (m : List ℕ) → queue_fitb (with_sent q front m) ≡ true
  unfolding with_sent
  sent_fit front m = by_choice (λ (r : Queue). queue_fitb r ≡ true) front _ _ (λ w. first_fit m) (λ w. last_fit m)

  pub without_fit : queue_fitb (without_oldest q) ≡ true
  unfolding without_oldest
  without_fit =
      storing_fit (q.stored - 1) (drop q.words (stored_words q))
      (let a = fit-stored q e u in omega (arith, a))
      (let a = length-drop q.words (stored_words q) in
      let b = used_most in
      let c = one-less-words q.stored q.words in
      omega (arith, a, b, c))

  pub flushed_fit : queue_fitb (flushed q) ≡ true
  unfolding flushed
  flushed_fit = storing_fit 0 [] (omega arith) (omega arith)

pub past_fit : (q : Queue) → queue_fitb q ≡ true → q.created ≡ true → (front : Bool) (m : List ℕ) → queue_fitb (left_past q front m) ≡ true
unfolding left_past
past_fit q e u front m =
    by_choice (λ (r : Queue). queue_fitb r ≡ true) front _ _
    (λ w. e)
    (λ w. last_fit (without_oldest q) (without_fit q e u) ((without_alike q).0 ∙ u) m)

-- ---- how full a fit queue is
module _ (q : Queue) (e : queue_fitb q ≡ true) (u : q.created ≡ true) where
  -- where there is no room, the queue is full
  pub no_room_full : roomb q ≡ false → fullb q ≡ true
  unfolding roomb fullb
  no_room_full w =
      let a = ltb-false q.stored (capacity_of q) w in
      let b = fit-stored q e u in
      eq-eqb q.stored (capacity_of q) (omega (arith, a, b))

  -- an empty queue has room
  pub empty_room : emptyb q ≡ true → roomb q ≡ true
  unfolding emptyb roomb
  empty_room w =
      let a = eqb-true q.stored 0 w in
      let b = fit_room q e u in
      lt-ltb q.stored (capacity_of q) (omega (arith, a, b))

  -- without its oldest message a queue has room
  pub without_room : emptyb q ≡ false → roomb (without_oldest q) ≡ true
  unfolding emptyb roomb without_oldest storing capacity_of
  without_room w =
      let a = eqb-false q.stored 0 w in
      let b : q.stored ≤ q.storage / q.words = fit-stored q e u in
      lt-ltb (q.stored - 1) (q.storage / q.words) (by_eq q.stored 0 (λ z. absurd (a z)) (λ z. omega (arith, b)))

  one_again : emptyb q ≡ false → q.stored - 1 + 1 ≡ q.stored
  unfolding emptyb
  one_again w = let a = eqb-false q.stored 0 w in omega arith

  -- a receive past a sender leaves a full queue full
  pub past_full : (front : Bool) (m : List ℕ) → emptyb q ≡ false → fullb q ≡ true → fullb (left_past q front m) ≡ true
  unfolding left_past fullb without_oldest storing capacity_of
  past_full front m w f =
      by_choice (λ (r : Queue). fullb r ≡ true) front _ _
      (λ b. f)
      (λ b. ap fullb (last_room (without_oldest q) m (without_room w)) ∙ ap (λ (n : ℕ). eqb n (q.storage / q.words)) (one_again w) ∙ f)

-- ---- a queue with no message is fit where its store is zero throughout and its sizes are
module _ (q : Queue) (w : emptyb q ≡ true) where
  none-stored : q.stored ≡ 0
  unfolding emptyb
  none-stored = eqb-true q.stored 0 w

  empty-created : q.created ≡ true → queue_fitb q ≡ (queue_limitsb q && zero_from 0 q.store)
  unfolding store_fitb used_words
  empty-created c =
      let e = none-stored in
      let room = le-leb q.stored (capacity_of q) (omega (arith, e)) in
      let none : q.stored * q.words ≡ 0 = ap (λ (n : ℕ). n * q.words) e ∙ zero-mul q.words in
      fit-created q c ∙ rw (room, none)

  empty-uncreated : q.created ≡ false → queue_fitb q ≡ (eqb q.words 0 && eqb q.storage 0 && zero_from 0 q.store)
  unfolding queue_zerob
  empty-uncreated c = fit-uncreated q c ∙ rw (eq-eqb q.stored 0 none-stored, and-true)

  pub empty_stained : zero_from 0 q.store ≡ false → queue_fitb q ≡ false
  empty_stained z =
      by_test q.created
      (λ c. empty-created c ∙ rw (z, and-false))
      (λ c. empty-uncreated c ∙ rw (z, and-false))

  pub empty_limits : zero_from 0 q.store ≡ true → q.created ≡ true → queue_fitb q ≡ queue_limitsb q
  empty_limits z c = empty-created c ∙ rw (z, and-true)

  pub empty-zero : zero_from 0 q.store ≡ true → q.created ≡ false → queue_fitb q ≡ (eqb q.words 0 && eqb q.storage 0)
  empty-zero z c = empty-uncreated c ∙ rw (z, and-true)
