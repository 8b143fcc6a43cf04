-- What becomes of each thread by any edits: its record, its ticks and what it holds.
use mathlib.Core.Path.{◌≡◌, refl, sym, ap, ◌∙◌}
use mathlib.Core.List.{List, [], ◌∷◌}
use mathlib.Core.Bool.{Bool, true, false}
use Prim.Native.Nat.{ℕ, ◌+◌, ◌-◌, ◌≤◌}
use native.Mathlib.Omega.{arith}
use lib.ListN.{length, get_or, length-set}
use lib.Seq.{get_or-set_same, get_or-set_other}
use Rattle.lines.specs.Logic.{one_if}
use Rattle.lines.specs.Lists.{count, only_if}
use Rattle.lines.proofs.Laws.Logic.{by_test, by_eq, never}
use Rattle.lines.proofs.Laws.Lists
use Rattle.lines.proofs.Laws.Less
use Rattle.scheduler.specs.declared.thread.Thread.{Thread}
use Rattle.scheduler.specs.declared.Scheduler.{Scheduler}
use Rattle.scheduler.specs.Threads.{pausedb}
use Rattle.scheduler.specs.Orders.{thread_at, with_order, with_thread, prioritised_at}
use Rattle.scheduler.specs.Sound.{Steady}
use Rattle.scheduler.proofs.Laws.Orders
use Rattle.calls.specs.declared.held.Held.{Held}
use Rattle.calls.specs.Held.{no_held}
use Rattle.waiting.specs.Ticks.{with_ticks}
use Rattle.waiting.specs.Fit.{waits_onb}
use Rattle.waiting.proofs.Laws.Fit.{waits_nowhere}
use Rattle.kernel.specs.declared.Kernel.{Kernel}
use Rattle.kernel.specs.Tables.{thread_of, held_at, with_scheduler, with_held, with_clock}
use Rattle.kernel.specs.Kinds.{Kind, state_on}
use Rattle.kernel.specs.Edits.{Move, record_by, held_by, frontb, Edit, edited, applied, gathered, mover, movers, anyb, counted_by, counted, startsb}
use Rattle.kernel.specs.Edits.Edit.{moves, alters, counts, ranks, stores, sets}
use Rattle.kernel.specs.Roles.{allb}
use Rattle.kernel.proofs.Laws.Edits
use Rattle.kernel.proofs.Laws.Objects
use Rattle.kernel.proofs.Laws.Fits

-- from tables k to tables x thread u has n ticks less, and keeps its state, its object and what it holds
pub record Kept (k x : Kernel) (u n : ℕ) : Type 0 where
  pub held : held_at x u ≡ held_at k u
  pub seen : Fits.seen (thread_of x u) ≡ Fits.seen (thread_of k u)
  pub ticks : (thread_of x u).ticks ≡ (thread_of k u).ticks - n

pub kept_then : (k x y : Kernel) (u n m : ℕ) → Kept k x u n → Kept x y u m → Kept k y u (n + m)
kept_then k x y u n m a b =
    record {
      held = b.held ∙ a.held;
      seen = b.seen ∙ a.seen;
      ticks = (let p = a.ticks in let q = b.ticks in omega (arith, p, q));
    }

pub kept_self : (k : Kernel) (u : ℕ) → Kept k k u 0
kept_self k u = record { held = refl; seen = refl; ticks = omega arith }

kept_same : (k x : Kernel) (u : ℕ) → held_at x u ≡ held_at k u → thread_of x u ≡ thread_of k u → Kept k x u 0
kept_same k x u h t = record { held = h; seen = ap Fits.seen t; ticks = (let e = ap (λ (th : Thread). th.ticks) t in omega (arith, e)) }

-- ---- an edit that does not move the thread
other_than : (u t : ℕ) (ts : List ℕ) → count u (t ∷ ts) ≡ 0 → u ≡ t → ⊥
other_than u t ts z e = let h = Lists.count_here t ts in let y = ap (λ (v : ℕ). count v (t ∷ ts)) e in omega (arith, h, y, z)

scheduler-held : (k : Kernel) (s : Scheduler) (u : ℕ) → held_at (with_scheduler k s) u ≡ held_at k u
unfolding with_scheduler held_at
scheduler-held k s u = refl

kept_altered : (k : Kernel) → Steady k.scheduler → (t : ℕ) (th : Thread) → Fits.Altered k t th → th.ticks ≡ (thread_of k t).ticks → (u : ℕ) → Kept k (with_scheduler k (with_thread k.scheduler t th)) u 0
unfolding with_scheduler
kept_altered k S t th A e u =
    record {
      held = scheduler-held k (with_thread k.scheduler t th) u;
      seen = Orders.kept-all k.scheduler S t th A.small Fits.seen A.seen u;
      ticks = (let q = Orders.kept-all k.scheduler S t th A.small (λ x. x.ticks) e u in omega (arith, q));
    }

kept-counted : (k : Kernel) → Steady k.scheduler → (t : ℕ) → Fits.Requires k (counts t) → (u : ℕ) → Kept k (edited k (counts t)) u (count u (t ∷ []))
unfolding edited with_scheduler with_ticks
kept-counted k S t G u =
    let A = Fits.one_less_lem k S t G.0 G.1 in
    let x = with_ticks ((thread_of k t).ticks - 1) (thread_of k t) in
    record {
      held = scheduler-held k (with_thread k.scheduler t x) u;
      seen = Orders.kept-all k.scheduler S t x A.small Fits.seen A.seen u;
      ticks = by_eq u t
          (λ e. let c = ap (λ (v : ℕ). count v (t ∷ [])) e in let h = Lists.count_here t [] in let z = Less.count_none t in
          let q = ap (λ (v : ℕ). (thread_at (with_thread k.scheduler t x) v).ticks) e ∙ ap (λ (y : Thread). y.ticks) (Orders.kept_self k.scheduler S t x A.small) in
          let r = ap (λ (v : ℕ). (thread_of k v).ticks) e in omega (arith, c, h, z, q, r))
          (λ e. let c = Lists.count_there u t [] (λ z. e (sym z)) in let z = Less.count_none u in
          let q = ap (λ (y : Thread). y.ticks) (Orders.kept_other k.scheduler S t x A.small u e) in omega (arith, c, z, q));
    }

pub kept-moved : (k : Kernel) → Steady k.scheduler → (t : ℕ) (m : Move) → Fits.Moved k t m → (u : ℕ) → (u ≡ t → ⊥) → Kept k (edited k (moves t m)) u 0
unfolding edited with_held with_scheduler held_at
kept-moved k S t m G u e =
    kept_same k _ u (get_or-set_other k.held t u _ no_held e) (Fits.joined_other k.scheduler S (frontb m) t (record_by m (thread_of k t)) G.small u e)

kept_edit : (k : Kernel) → Steady k.scheduler → (e : Edit) → Fits.Requires k e → (u : ℕ) → count u (movers anyb (e ∷ [])) ≡ 0 → Kept k (edited k e) u (count u (counted (e ∷ [])))
unfolding edited gathered count prioritised_at with_order with_scheduler with_clock thread_at held_at
kept_edit k S (moves t m) G u z = kept-moved k S t m G u (other_than u t [] z)
kept_edit k S (alters t f) G u z = kept_altered k S t (f (thread_of k t)) G.0 G.1 u
kept_edit k S (counts t) G u z = kept-counted k S t G u
kept_edit k S (ranks d n) G u z = kept_same k _ u refl refl
kept_edit k S (stores d n x) G u z =
    kept_same k _ u (ap (λ (l : List Held). get_or l u no_held) (Objects.stored-held d k n x)) (ap (λ (s : Scheduler). thread_at s u) (Objects.stored-scheduler d k n x))
kept_edit k S (sets c) G u z = kept_same k _ u refl refl

-- ---- edits none of which moves the thread
none-moved : (u : ℕ) → count u (counted []) ≡ 0
unfolding gathered count
none-moved u = refl

pub kept-all : (k : Kernel) → Steady k.scheduler → (es : List Edit) → Fits.RequiresAll k es → (u : ℕ) → count u (movers anyb es) ≡ 0 → Kept k (applied k es) u (count u (counted es))
unfolding applied
kept-all k S [] G u z = rw (none-moved u) (kept_self k u)
kept-all k S (e ∷ es) G u z =
    let c = Edits.gathered-count (mover anyb) e es u in
    rw (Edits.gathered-count counted_by e es u)
    (kept_then k (edited k e) (applied (edited k e) es) u _ _ (kept_edit k S e G.0 u (omega (arith, c, z)))
    (kept-all (edited k e) (Fits.steady_edit k S e G.0) es G.1 u (omega (arith, c, z))))

-- nor alters: its levels
levels_edit : (k : Kernel) → Steady k.scheduler → (e : Edit) → Fits.Requires k e → Edits.unalteredb e ≡ true → (u : ℕ) → count u (movers anyb (e ∷ [])) ≡ 0 → Fits.levels (thread_of (edited k e) u) ≡ Fits.levels (thread_of k u)
unfolding edited gathered count prioritised_at with_order with_held with_scheduler with_clock thread_at with_ticks Fits.levels
levels_edit k S (moves t m) G a u z = ap Fits.levels (Fits.joined_other k.scheduler S (frontb m) t (record_by m (thread_of k t)) G.small u (other_than u t [] z))
levels_edit k S (alters t f) G a u z = never a refl
levels_edit k S (counts t) G a u z = Orders.kept-all k.scheduler S t _ (Fits.one_less_lem k S t G.0 G.1).small Fits.levels refl u
levels_edit k S (ranks d n) G a u z = refl
levels_edit k S (stores d n x) G a u z = ap (λ (s : Scheduler). Fits.levels (thread_at s u)) (Objects.stored-scheduler d k n x)
levels_edit k S (sets c) G a u z = refl

levels-all : (k : Kernel) → Steady k.scheduler → (es : List Edit) → Fits.RequiresAll k es → allb Edits.unalteredb es ≡ true → (u : ℕ) → count u (movers anyb es) ≡ 0 → Fits.levels (thread_of (applied k es) u) ≡ Fits.levels (thread_of k u)
unfolding applied
levels-all k S [] G a u z = refl
levels-all k S (e ∷ es) G a u z =
    let c = Edits.gathered-count (mover anyb) e es u in
    levels-all (edited k e) (Fits.steady_edit k S e G.0) es G.1 (Edits.all_rest Edits.unalteredb e es a) u (omega (arith, c, z))
    ∙ levels_edit k S e G.0 (Edits.all_first Edits.unalteredb e es a) u (omega (arith, c, z))

none_there : (c : Move → Bool) (u : ℕ) → count u (movers c []) ≡ 0
unfolding gathered count
none_there c u = refl

-- who moves in some way moves
part-first : (c : Move → Bool) (e : Edit) (u : ℕ) → count u (movers c (e ∷ [])) ≤ count u (movers anyb (e ∷ []))
unfolding gathered count
part-first c e u =
    Edits.by_edit (λ e. count u (movers c (e ∷ [])) ≤ count u (movers anyb (e ∷ []))) (λ t m. by_test (c m) (λ y. rw y (omega arith)) (λ y. rw y (omega arith)))
    (λ t f. omega arith) (λ t. omega arith) (λ d n. omega arith) (λ d n x. omega arith) (λ i. omega arith) e

pub part_moves : (c : Move → Bool) (es : List Edit) (u : ℕ) → count u (movers c es) ≤ count u (movers anyb es)
part_moves c [] u = omega (arith, none_there c u)
part_moves c (e ∷ es) u =
    omega (arith, part-first c e u, part_moves c es u, Edits.gathered-count (mover c) e es u, Edits.gathered-count (mover anyb) e es u)

-- ---- a thread that moves, once
-- some edit moves u in the way m: whatever holds of every edit holds of that one
abbrev pub Among : ℕ → Move → List Edit → Type 0
Among u m es = (f : Edit → Bool) → allb f es ≡ true → f (moves u m) ≡ true

-- in tables y, where it is as it was, u moves in the way m, and so it is in tables x
pub record MovedOnce (k x : Kernel) (es : List Edit) (u : ℕ) : Type 0 where
  pub at : Kernel
  pub less : ℕ
  pub kept : Kept k at u less
  pub move : Move
  pub among : Among u move es
  pub was : Fits.Was move (thread_of at u)
  pub is : pausedb (record_by move (thread_of at u)) ≡ startsb move
  pub blank : Fits.BlankMove move
  -- by no other edit does it move
  pub alone : (c : Move → Bool) → count u (movers c es) ≡ one_if (c move)
  pub held : held_at x u ≡ held_by move (thread_of at u) (held_at at u)
  pub seen : Fits.seen (thread_of x u) ≡ Fits.seen (record_by move (thread_of at u))
  -- where no record is altered it keeps its levels up to the move, and after it
  pub before : allb Edits.unalteredb es ≡ true → Fits.levels (thread_of at u) ≡ Fits.levels (thread_of k u)
  pub after : allb Edits.unalteredb es ≡ true → Fits.levels (thread_of x u) ≡ Fits.levels (record_by move (thread_of at u))

-- what holds of an edit, in a list that begins with another
later : (u : ℕ) (m : Move) (e : Edit) (es : List Edit) → Among u m es → Among u m (e ∷ es)
later u m e es A f a = A f (Edits.all_rest f e es a)

sized_edit : (k : Kernel) (e : Edit) → length k.held ≡ 32 → length (edited k e).held ≡ 32
unfolding edited with_held with_scheduler with_clock
sized_edit k e z =
    Edits.by_edit (λ e. length (edited k e).held ≡ 32) (λ t m. length-set k.held t _ ∙ z) (λ t f. z) (λ t. z) (λ d n. z) (λ d n x. ap (λ (l : List Held). length l) (Objects.stored-held d k n x) ∙ z) (λ c. z) e

moved_self : (k : Kernel) → Steady k.scheduler → length k.held ≡ 32 → (t : ℕ) (m : Move) → Fits.Moved k t m
    → (held_at (edited k (moves t m)) t ≡ held_by m (thread_of k t) (held_at k t)) × (thread_of (edited k (moves t m)) t ≡ record_by m (thread_of k t))
unfolding edited with_held with_scheduler held_at
moved_self k S z t m G = (
  get_or-set_same k.held t _ no_held (let l = G.small in omega (arith, z, l)),
  Fits.joined_self k.scheduler S (frontb m) t (record_by m (thread_of k t)) G.small,
)

alone-first : (t u : ℕ) (m : Move) (es : List Edit) → u ≡ t → count u (movers anyb es) ≡ 0 → (c : Move → Bool) → count u (movers c (moves t m ∷ es)) ≡ one_if (c m)
unfolding gathered
alone-first t u m es e n c =
    let here = ap (λ (v : ℕ). count v (only_if (c m) t)) e ∙ Lists.count_only t (c m) in
    let all = Lists.count-append u (only_if (c m) t) (movers c es) in
    omega (arith, here, all, part_moves c es u, n)

-- the edit that moves it is the first
moved_once-first : (k : Kernel) → Steady k.scheduler → length k.held ≡ 32 → (t : ℕ) (m : Move) (es : List Edit) → Fits.RequiresAll k (moves t m ∷ es) → (u : ℕ) → u ≡ t → count u (movers anyb es) ≡ 0 → MovedOnce k (applied k (moves t m ∷ es)) (moves t m ∷ es) u
unfolding applied
moved_once-first k S z t m es G u e n =
    let x = edited k (moves t m) in
    let rest = kept-all x (Fits.steady_edit k S (moves t m) G.0) es G.1 u n in
    let self = moved_self k S z t m G.0 in
    record {
      at = k;
      less = 0;
      kept = kept_self k u;
      move = m;
      among = λ f a. ap (λ (v : ℕ). f (moves v m)) e ∙ Edits.all_first f (moves t m) es a;
      was = rw e G.0.was;
      is = rw e G.0.is;
      blank = G.0.blank;
      alone = alone-first t u m es e n;
      held = rest.held ∙ rw e self.0;
      seen = rest.seen ∙ rw e (ap Fits.seen self.1);
      before = λ a. refl;
      after = λ a. levels-all x (Fits.steady_edit k S (moves t m) G.0) es G.1 (Edits.all_rest Edits.unalteredb (moves t m) es a) u n ∙ rw e (ap Fits.levels self.1);
    }

moved_once_later : (k : Kernel) → Steady k.scheduler → (e : Edit) (es : List Edit) → Fits.Requires k e → (u : ℕ) → count u (movers anyb (e ∷ [])) ≡ 0 → MovedOnce (edited k e) (applied (edited k e) es) es u → MovedOnce k (applied k (e ∷ es)) (e ∷ es) u
unfolding applied
moved_once_later k S e es G u n W =
    record {
      at = W.at;
      less = count u (counted (e ∷ [])) + W.less;
      kept = kept_then k (edited k e) W.at u _ W.less (kept_edit k S e G u n) W.kept;
      move = W.move;
      among = later u W.move e es W.among;
      was = W.was;
      is = W.is;
      blank = W.blank;
      alone = λ c. (let s = Edits.gathered-count (mover c) e es u in let p = part-first c e u in let w = W.alone c in omega (arith, s, p, n, w));
      held = W.held;
      seen = W.seen;
      before = λ a. W.before (Edits.all_rest Edits.unalteredb e es a) ∙ levels_edit k S e G (Edits.all_first Edits.unalteredb e es a) u n;
      after = λ a. W.after (Edits.all_rest Edits.unalteredb e es a);
    }

moved-first : (t u : ℕ) (m : Move) → count u (movers anyb (moves t m ∷ [])) ≡ count u (t ∷ [])
unfolding gathered
moved-first t u m = refl

moved_once_head : (k : Kernel) → Steady k.scheduler → length k.held ≡ 32 → (e : Edit) (es : List Edit) → Fits.RequiresAll k (e ∷ es) → (u : ℕ) → (count u (movers anyb (e ∷ [])) ≡ 0 → ⊥) → count u (movers anyb (e ∷ es)) ≡ 1 → MovedOnce k (applied k (e ∷ es)) (e ∷ es) u
unfolding gathered
moved_once_head k S z e es G u n c =
    Edits.by_edit (λ e. Fits.RequiresAll k (e ∷ es) → (count u (movers anyb (e ∷ [])) ≡ 0 → ⊥) → count u (movers anyb (e ∷ es)) ≡ 1 → MovedOnce k (applied k (e ∷ es)) (e ∷ es) u)
    (λ t m G n c. by_eq u t
    (λ q. moved_once-first k S z t m es G u q (let s = Edits.gathered-count (mover anyb) (moves t m) es u in let f = moved-first t u m in let h = Lists.count_here t [] in let y = ap (λ (v : ℕ). count v (t ∷ [])) q in omega (arith, s, c, f, h, y)))
    (λ q. absurd (n (moved-first t u m ∙ Lists.count_there u t [] (λ y. q (sym y)) ∙ Less.count_none u))))
    (λ t f G n c. absurd (n (none_there anyb u))) (λ t G n c. absurd (n (none_there anyb u))) (λ d i G n c. absurd (n (none_there anyb u))) (λ d i x G n c. absurd (n (none_there anyb u))) (λ i G n c. absurd (n (none_there anyb u))) e G n c

pub moved_once : (k : Kernel) → Steady k.scheduler → length k.held ≡ 32 → (es : List Edit) → Fits.RequiresAll k es → (u : ℕ) → count u (movers anyb es) ≡ 1 → MovedOnce k (applied k es) es u
moved_once k S z [] G u c = absurd (let n = none_there anyb u in omega (arith, n, c))
moved_once k S z (e ∷ es) G u c =
    by_eq (count u (movers anyb (e ∷ []))) 0
    (λ n. moved_once_later k S e es G.0 u n
    (moved_once (edited k e) (Fits.steady_edit k S e G.0) (sized_edit k e z) es G.1 u (let s = Edits.gathered-count (mover anyb) e es u in omega (arith, s, c, n))))
    (λ n. moved_once_head k S z e es G u n c)

-- who moved and did not begin to wait waits on nothing
pub moved_once-waits : (k x : Kernel) (es : List Edit) (u : ℕ) (W : MovedOnce k x es u) → startsb W.move ≡ false → (d : Kind) → waits_onb (state_on d) (thread_of x u) ≡ false
moved_once-waits k x es u W n d =
    let th = record_by W.move (thread_of W.at u) in
    sym (Fits.waits_seen (state_on d) (thread_of x u)) ∙ ap (waits_onb (state_on d)) W.seen ∙ Fits.waits_seen (state_on d) th ∙ waits_nowhere (state_on d) th (Objects.state_low d) (W.is ∙ n)

-- who is kept waits on what it waited on
pub kept-waits : (k x : Kernel) (u n : ℕ) → Kept k x u n → (state : ℕ) → waits_onb state (thread_of k u) ≡ waits_onb state (thread_of x u)
kept-waits k x u n K state = sym (Fits.waits_seen state (thread_of k u)) ∙ ap (waits_onb state) (sym K.seen) ∙ Fits.waits_seen state (thread_of x u)

pub kept-object : (k x : Kernel) (u n : ℕ) → Kept k x u n → (thread_of k u).object ≡ (thread_of x u).object
kept-object k x u n K = sym (Fits.object_seen (thread_of k u)) ∙ ap (λ (th : Thread). th.object) (sym K.seen) ∙ Fits.object_seen (thread_of x u)
