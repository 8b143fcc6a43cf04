-- A roll beside the tables: what it says after a call by which some leave the line and others join it at the end.
use mathlib.Core.Path.{◌≡◌, refl, sym, ap, ◌∙◌}
use mathlib.Core.List.{List, [], ◌∷◌, ◌++◌, append_assoc}
use mathlib.Core.Bool.{Bool, true, ◌&&◌, not}
use Prim.Native.Nat.{ℕ, ◌<◌, ◌-◌}
use native.Mathlib.Omega.{arith}
use lib.Dec.{eqb}
use Rattle.lines.specs.Logic.{one_if}
use Rattle.lines.specs.Lists.{filter, without, count, Begins, less}
use Rattle.lines.proofs.Laws.Logic.{by_test, by_eq}
use Rattle.lines.proofs.Laws.Lists
use Rattle.lines.proofs.Laws.Less
use Rattle.scheduler.specs.declared.thread.Place.{Place}
use Rattle.scheduler.specs.Threads.{pausedb}
use Rattle.scheduler.specs.Sound.{Steady}
use Rattle.scheduler.specs.Orders.{line_at, first_at}
use Rattle.scheduler.proofs.Laws.Orders
use Rattle.waiting.specs.Ticks.{forever, timedb}
use Rattle.waiting.proofs.Laws.Ticks.{last_is}
use Rattle.kernel.proofs.Laws.Changes
use Rattle.kernel.specs.declared.Kernel.{Kernel}
use Rattle.kernel.specs.Tables.{thread_of, held_at}
use Rattle.kernel.specs.Edits.{gathered, movers, counted, leavesb, Effect}
use Rattle.kernel.specs.Uses.{Ticks}
use Rattle.claims.specs.Rolls.{Entry, names, roll_of, rest, each, unnamed, ticked}

-- the line begins with the roll, and each member's ticks are those of its wait
pub record Rolls (p : Place) (k : Kernel) (r : List Entry) : Type 0 where
  pub begins : Begins (names r) (line_at k.scheduler p)
  pub agrees : r ≡ roll_of k (names r)

-- from tables k to tables x those in ts leave the line, and who stays keeps what it holds, with one tick less where it is in cs
pub record Leaves (p : Place) (k x : Kernel) (ts cs : List ℕ) : Type 0 where
  pub line : Begins (less ts (line_at k.scheduler p)) (line_at x.scheduler p)
  pub gone : (u : ℕ) → 0 < count u ts → count u (line_at x.scheduler p) ≡ 0
  pub kept : (u : ℕ) → 0 < count u (line_at k.scheduler p) → count u ts ≡ 0 → Changes.Kept k x u (count u cs)

-- from tables k to tables x the roll r goes over into s: whom it strikes out is gone, and who stays holds what it held
pub record Passes (p : Place) (k x : Kernel) (r s : List Entry) : Type 0 where
  pub rolls : Rolls p x s
  pub gone : (u : ℕ) → 0 < count u (names r) → count u (names s) ≡ 0 → count u (line_at x.scheduler p) ≡ 0
  pub held : (u : ℕ) → 0 < count u (names s) → held_at x u ≡ held_at k u
  pub part : (ts : List ℕ) × (names s ≡ less ts (names r))

-- a member of the roll stands in the line
pub member : (p : Place) (k : Kernel) (r : List Entry) → Rolls p k r → (u : ℕ) → 0 < count u (names r) → 0 < count u (line_at k.scheduler p)
member p k r R u c = let m = Lists.begins-count (names r) (line_at k.scheduler p) R.begins u in omega (arith, c, m)

-- ---- rolls of the tables
pub names_roll : (k : Kernel) (xs : List ℕ) → names (roll_of k xs) ≡ xs
unfolding names roll_of
names_roll k [] = refl
names_roll k (u ∷ us) = ap {B = List ℕ} (λ l. u ∷ l) (names_roll k us)

pub in_tail : (u : ℕ) (us : List ℕ) (v : ℕ) → 0 < count v us → 0 < count v (u ∷ us)
unfolding count
in_tail u us v c = omega (arith, c)

pub stands_last : (xs : List ℕ) (t : ℕ) → 0 < count t (xs ++ (t ∷ []))
stands_last xs t = omega (arith, Lists.count-append t xs (t ∷ []), Lists.count_here t [])

-- in other tables, where each member has the same ticks
roll_same : (k x : Kernel) (xs : List ℕ) → ((u : ℕ) → 0 < count u xs → (thread_of x u).ticks ≡ (thread_of k u).ticks) → roll_of k xs ≡ roll_of x xs
unfolding roll_of
roll_same k x [] h = refl
roll_same k x (u ∷ us) h =
    let t = h u (omega (arith, Lists.count_here u us)) in
    let more = roll_same k x us (λ v c. h v (in_tail u us v c)) in
    λ i. record { thread = u; ticks = sym t i } ∷ more i

roll-unnamed : (k : Kernel) (t : ℕ) (xs : List ℕ) → each (unnamed t) (roll_of k xs) ≡ roll_of k (without t xs)
unfolding each unnamed roll_of without filter
roll-unnamed k t [] = refl
roll-unnamed k t (u ∷ us) =
    by_test (eqb u t) (λ q. rw q (roll-unnamed k t us)) (λ q. rw q (ap (λ (l : List Entry). record { thread = u; ticks = (thread_of k u).ticks } ∷ l) (roll-unnamed k t us)))

-- ---- the roll after those in ts have left
module _ (p : Place) (k x : Kernel) (ts cs : List ℕ) (A : Leaves p k x ts cs) (r : List Entry) (R : Rolls p k r) (s : List Entry) where
  abbrev ys : List ℕ
  ys = less ts (names r)

  -- a member that is left was one, and has not left
  stays : (u : ℕ) → 0 < count u ys → Changes.Kept k x u (count u cs)
  stays u c =
      by_eq (count u ts) 0
      (λ z. A.kept u (member p k r R u (let y = Less.less_kept ts (names r) u z in omega (arith, c, y))) z)
      (λ z. absurd (let y = Less.less_gone ts (names r) u (omega (arith, z)) in omega (arith, c, y)))

  pub passes : s ≡ roll_of x ys → Passes p k x r s
  passes q =
      let w = R.begins.0 in
      let v = A.line.0 in
      let n : names s ≡ ys = ap names q ∙ names_roll x ys in
      record {
        rolls = record {
          begins = (
            less ts w ++ v,
            A.line.1 ∙ ap (λ (l : List ℕ). less ts l ++ v) R.begins.1 ∙ ap (λ (l : List ℕ). l ++ v) (Less.less-append ts (names r) w)
                ∙ append_assoc ys (less ts w) v ∙ ap (λ (l : List ℕ). l ++ (less ts w ++ v)) (sym n),
          );
          agrees = q ∙ ap (roll_of x) (sym n);
        };
        gone = λ u c z. by_eq (count u ts) 0
            (λ i. absurd (let y = Less.less_kept ts (names r) u i in let same = ap (count u) n in omega (arith, c, z, y, same)))
            (λ i. A.gone u (omega (arith, i)));
        held = λ u c. (stays u (let same = ap (count u) n in omega (arith, c, same))).held;
        part = (ts, n);
      }

  -- where no ticks are counted
  pub passes_untimed : cs ≡ [] → s ≡ roll_of k ys → Passes p k x r s
  passes_untimed z q = passes (q ∙ roll_same k x ys (λ u c. let t = (stays u c).ticks in let i = ap (count u) z in let y = Less.count_none u in omega (arith, t, i, y)))

-- nobody leaves, or the first, or the thread named
pub passes_same : (p : Place) (k x : Kernel) (r : List Entry) → Leaves p k x [] [] → Rolls p k r → Passes p k x r r
passes_same p k x r A R = passes_untimed p k x [] [] A r R r refl (R.agrees ∙ ap (roll_of k) (sym (Less.less_none (names r))))

pub passes-first : (p : Place) (k x : Kernel) → Steady k.scheduler → (r : List Entry) (t : ℕ) → 0 < count t (names r) → Leaves p k x (first_at k.scheduler p ∷ []) [] → Rolls p k r → Passes p k x r (rest r)
unfolding names count rest roll_of first_at
passes-first p k x S [] t c A R = absurd (omega (arith, c))
passes-first p k x S (e ∷ es) t c A R =
    let u = e.thread in
    let l = line_at k.scheduler p in
    let one : count u (u ∷ names es) ≡ 1 = let y = Lists.count_here u (names es) in let w = Lists.begins-count (u ∷ names es) l R.begins u in let v = Orders.line_once k.scheduler S u p in omega (arith, y, w, v) in
    passes_untimed p k x (u ∷ []) [] (rw (Lists.begins-first u (names es) l R.begins) at A) (e ∷ es) R es refl
    (ap rest R.agrees ∙ ap (roll_of k) (sym (Less.less_one u (u ∷ names es) ∙ Lists.without-first u (names es) one)))

pub passes-named : (p : Place) (k x : Kernel) (ts : List ℕ) (t : ℕ) (r : List Entry) → Leaves p k x ts [] → Rolls p k r → without t (names r) ≡ less ts (names r) → Passes p k x r (each (unnamed t) r)
passes-named p k x ts t r A R same = passes_untimed p k x ts [] A r R _ refl (ap (each (unnamed t)) R.agrees ∙ roll-unnamed k t (names r) ∙ ap (roll_of k) same)

-- ---- a tick
module _ (p : Place) (k x : Kernel) (e : Effect) (T : Ticks k e) where
  abbrev ts : List ℕ
  ts = movers (leavesb p) e.edits

  abbrev cs : List ℕ
  cs = counted e.edits

  -- a waiter, and its ticks afterwards if it has not left
  abbrev Left : ℕ → Type 0
  Left u = (u < 32) × (pausedb (thread_of k u) ≡ true) × (count u ts ≡ 0 → (thread_of x u).ticks ≡ (thread_of k u).ticks - count u cs)

  roll-ticked : (xs : List ℕ) → ((u : ℕ) → 0 < count u xs → Left u) → each ticked (roll_of k xs) ≡ roll_of x (less ts xs)
  unfolding each ticked roll_of less filter gathered leavesb timedb one_if
  roll-ticked [] h = refl
  roll-ticked (u ∷ us) h =
      let (small, paused, left) = h u (omega (arith, Lists.count_here u us)) in
      let rest = roll-ticked us (λ v c. h v (in_tail u us v c)) in
      let n = (thread_of k u).ticks in
      let a = T.over (leavesb p) refl u small ∙ ap one_if (last_is (thread_of k u)) in
      let c = T.less u small ∙ ap (λ (b : Bool). one_if (timedb (thread_of k u) && not b)) (last_is (thread_of k u)) in
      by_test (eqb n forever)
      (λ f. let z : count u ts ≡ 0 = a ∙ rw (paused, f) in let y : count u cs ≡ 0 = c ∙ rw (paused, f) in
      let t : n ≡ (thread_of x u).ticks = omega (arith, left z, y) in
      rw (f, z) (λ i. record { thread = u; ticks = t i } ∷ rest i))
      (λ f. by_test (eqb (n - 1) 0)
      (λ g. let z : count u ts ≡ 1 = a ∙ rw (paused, f, g) in rw (f, g, z) rest)
      (λ g. let z : count u ts ≡ 0 = a ∙ rw (paused, f, g) in let y : count u cs ≡ 1 = c ∙ rw (paused, f, g) in
      let t : n - 1 ≡ (thread_of x u).ticks = omega (arith, left z, y) in
      rw (f, g, z) (λ i. record { thread = u; ticks = t i } ∷ rest i)))

  pub passes-ticked : Leaves p k x ts cs → (r : List Entry) → ((u : ℕ) → 0 < count u (names r) → (u < 32) × (pausedb (thread_of k u) ≡ true)) → Rolls p k r → Passes p k x r (each ticked r)
  passes-ticked A r W R =
      passes p k x ts cs A r R _ (ap (each ticked) R.agrees ∙ roll-ticked (names r) (λ u c. ((W u c).0, (W u c).1, λ z. (A.kept u (member p k r R u c) z).ticks)))
