-- A thread gets another record and joins the end or the front of its order, or stays: what stands in each order afterwards.
use mathlib.Core.Path.{◌≡◌, refl, sym, ap, ◌∙◌}
use mathlib.Core.List.{List, ◌++◌}
use mathlib.Core.Bool.{Bool, true, false, ◌&&◌}
use Prim.Native.Nat.{ℕ, ◌≤◌, ◌<◌}
use native.Mathlib.Omega.{arith}
use lib.ListN.{length, length-set}
use lib.Seq.{get_or-set_same, get_or-set_other, set_out}
use lib.Dec.{ltb}
use borrow.Author.Tests.{ltb-true, ltb-false}
use Rattle.lines.specs.Logic.{one_if}
use Rattle.lines.specs.Lists.{filter, without, only_if, count, best_of, fronted, prioritised}
use Rattle.lines.specs.Lines.{members}
use Rattle.lines.proofs.Laws.Logic.{by_test, by_eq, never, one_at_most}
use Rattle.lines.proofs.Laws.Lists
use Rattle.lines.proofs.Laws.Bests
use Rattle.lines.proofs.Laws.Lines.{members_short, line_of_clean}
use Rattle.scheduler.specs.declared.thread.Thread.{Thread}
use Rattle.scheduler.specs.declared.thread.Place.{Place}
use Rattle.scheduler.specs.declared.Scheduler.{Scheduler}
use Rattle.scheduler.specs.Threads.{uncreated, standsb, placedb}
use Rattle.scheduler.specs.Orders.{thread_at, priority_at, line_at, with_thread, with_order, moved, moved_front, prioritised_at}
use Rattle.scheduler.specs.Sound.{fitb, Steady}
use Rattle.scheduler.proofs.Laws.Threads.{none-at, none_stands, placed_stands, other_place}

-- ---- records
-- a record past the table is not stored
pub thread_out : (s : Scheduler) (t : ℕ) (th : Thread) → length s.threads ≤ t → with_thread s t th ≡ s
unfolding with_thread
thread_out s t th h = rw (set_out s.threads t th h)

-- ---- steady tables
module _ (s : Scheduler) (S : Steady s) where
  pub stands_small : (t : ℕ) → standsb (thread_at s t) ≡ true → t < 32
  stands_small t h =
      by_test (ltb t 32)
      (λ l. ltb-true t 32 l)
      (λ l. never h (ap standsb (none-at s t S.sized (ltb-false t 32 l)) ∙ none_stands))

  pub out_of_order : (t : ℕ) → 32 ≤ t → count t (members s.order) ≡ 0
  unfolding one_if
  out_of_order t o = S.placed t ∙ ap (λ (th : Thread). one_if (standsb th)) (none-at s t S.sized o) ∙ ap one_if none_stands

  -- a thread stands once in the order of its own place, and in no other
  pub line-count : (t : ℕ) (p : Place) → count t (line_at s p) ≡ one_if (placedb p (thread_at s t))
  unfolding line_at one_if
  line-count t p =
      by_test (placedb p (thread_at s t))
      (λ e. Lists.count_kept (λ u. placedb p (thread_at s u)) t (members s.order) e
      ∙ S.placed t ∙ ap one_if (placed_stands p (thread_at s t) e ∙ sym e))
      (λ e. Lists.count_dropped (λ u. placedb p (thread_at s u)) t (members s.order) e ∙ ap one_if (sym e))

  pub line_once : (t : ℕ) (p : Place) → count t (line_at s p) ≤ 1
  line_once t p = let e = line-count t p in let o = one_at_most (placedb p (thread_at s t)) in omega (arith, e, o)

-- ---- another order for records that are fit
module _ (s : Scheduler) (sized : length s.threads ≡ 32) (fit : (t : ℕ) → t < 32 → fitb (thread_at s t) ≡ true)
    (zs : List ℕ) (placed : (t : ℕ) → count t zs ≡ one_if (standsb (thread_at s t))) where
  order_short : length zs ≤ 32
  unfolding one_if
  order_short =
      Lists.at_most 32 zs
      (λ t. let e = placed t in let o = one_at_most (standsb (thread_at s t)) in omega (arith, e, o))
      (λ t o. placed t ∙ ap (λ (th : Thread). one_if (standsb th)) (none-at s t sized o) ∙ ap one_if none_stands)

  pub order-members : members (with_order s zs).order ≡ zs
  unfolding with_order
  order-members = members_short zs order_short

  pub order_steady : Steady (with_order s zs)
  unfolding with_order thread_at
  order_steady =
      record {
        sized = sized;
        clean = line_of_clean zs;
        placed = λ t. ap (count t) order-members ∙ placed t;
        fit = fit;
      }

  pub order-line : (p : Place) → line_at (with_order s zs) p ≡ filter (λ t. placedb p (thread_at s t)) zs
  unfolding line_at with_order thread_at
  order-line p = ap (filter (λ t. placedb p (thread_at s t))) order-members

-- ---- one record replaced
module _ (s : Scheduler) (S : Steady s) (t : ℕ) (th : Thread) (small : t < 32) where
  pub kept_self : thread_at (with_thread s t th) t ≡ th
  unfolding thread_at with_thread
  kept_self = get_or-set_same s.threads t th uncreated (omega (arith, S.sized))

  pub kept_other : (u : ℕ) → (u ≡ t → ⊥) → thread_at (with_thread s t th) u ≡ thread_at s u
  unfolding thread_at with_thread
  kept_other u n = get_or-set_other s.threads t u th uncreated n

  -- what the new record has in common with the old one, every thread keeps
  pub kept-all : {X : Type 0} (g : Thread → X) → g th ≡ g (thread_at s t) → (u : ℕ) → g (thread_at (with_thread s t th) u) ≡ g (thread_at s u)
  kept-all g h u =
      by_eq u t
      (λ e. ap (λ (x : ℕ). g (thread_at (with_thread s t th) x)) e ∙ ap g kept_self ∙ h ∙ ap (λ (x : ℕ). g (thread_at s x)) (sym e))
      (λ e. ap g (kept_other u e))

  kept_sized : length (with_thread s t th).threads ≡ 32
  unfolding with_thread
  kept_sized = simp length-set S.sized

  kept_fit : fitb th ≡ true → (u : ℕ) → u < 32 → fitb (thread_at (with_thread s t th) u) ≡ true
  kept_fit f u l =
      by_eq u t
      (λ e. ap (λ (x : ℕ). fitb (thread_at (with_thread s t th) x)) e ∙ ap fitb kept_self ∙ f)
      (λ e. ap fitb (kept_other u e) ∙ S.fit u l)

  -- ---- the record alone, where it keeps its place
  pub kept_line_lem : (p : Place) → placedb p th ≡ placedb p (thread_at s t) → line_at (with_thread s t th) p ≡ line_at s p
  unfolding line_at with_thread
  kept_line_lem p h = Lists.filter_same (λ u. placedb p (thread_at (with_thread s t th) u)) (λ u. placedb p (thread_at s u)) (members s.order) (kept-all (placedb p) h)

  pub kept_steady_lem : standsb th ≡ standsb (thread_at s t) → fitb th ≡ true → Steady (with_thread s t th)
  unfolding with_thread
  kept_steady_lem h f =
      record {
        sized = kept_sized;
        clean = S.clean;
        placed = λ u. S.placed u ∙ ap one_if (sym (kept-all standsb h u));
        fit = kept_fit f;
      }

  -- ---- another order: t as often as its record says, all others as before
  module _ (zs : List ℕ) (hit : count t zs ≡ one_if (standsb th)) (others : (u : ℕ) → (u ≡ t → ⊥) → count u zs ≡ count u (members s.order)) where
    put_placed : (u : ℕ) → count u zs ≡ one_if (standsb (thread_at (with_thread s t th) u))
    put_placed u =
        by_eq u t
        (λ e. ap (λ (x : ℕ). count x zs) e ∙ hit ∙ ap (λ (x : Thread). one_if (standsb x)) (sym kept_self ∙ ap (thread_at (with_thread s t th)) (sym e)))
        (λ e. others u e ∙ S.placed u ∙ ap (λ (x : Thread). one_if (standsb x)) (sym (kept_other u e)))

    put_steady : fitb th ≡ true → Steady (with_order (with_thread s t th) zs)
    put_steady f = order_steady (with_thread s t th) kept_sized (kept_fit f) zs put_placed

    put-line : fitb th ≡ true → (p : Place) → line_at (with_order (with_thread s t th) zs) p ≡ filter (λ u. placedb p (thread_at (with_thread s t th) u)) zs
    put-line f p = order-line (with_thread s t th) kept_sized (kept_fit f) zs put_placed p

  -- the part of the line without t, and t alone
  rest-line : (p : Place) → filter (λ u. placedb p (thread_at (with_thread s t th) u)) (without t (members s.order)) ≡ without t (line_at s p)
  unfolding line_at
  rest-line p =
      Lists.filter_agree (λ u. placedb p (thread_at (with_thread s t th) u)) (λ u. placedb p (thread_at s u)) t (members s.order) (λ u n. ap (placedb p) (kept_other u n))
      ∙ Lists.filter-without (λ u. placedb p (thread_at s u)) t (members s.order)

  only-line : (p : Place) → filter (λ u. placedb p (thread_at (with_thread s t th) u)) (only_if (standsb th) t) ≡ only_if (placedb p th) t
  only-line p =
      Lists.filter_only (λ u. placedb p (thread_at (with_thread s t th) u)) (standsb th) t
      ∙ ap (λ (x : Thread). only_if (standsb th && placedb p x) t) kept_self
      ∙ ap (λ (b : Bool). only_if b t) stands_too
    where
      stands_too : (standsb th && placedb p th) ≡ placedb p th
      stands_too = by_test (placedb p th)
          (λ e. ap (λ (b : Bool). b && placedb p th) (placed_stands p th e))
          (λ e. ap (λ (b : Bool). standsb th && b) e ∙ none (standsb th) ∙ sym e)
        where
          none : (b : Bool) → (b && false) ≡ false
          none true = refl
          none false = refl

  -- ---- to the end
  abbrev end : List ℕ
  end = without t (members s.order) ++ only_if (standsb th) t

  end-t : count t end ≡ one_if (standsb th)
  end-t = let a = Lists.count-append t (without t (members s.order)) (only_if (standsb th) t) in let w = Lists.count-without t (members s.order) in let o = Lists.count_only t (standsb th) in omega (arith, a, w, o)

  end_u : (u : ℕ) → (u ≡ t → ⊥) → count u end ≡ count u (members s.order)
  end_u u n = let a = Lists.count-append u (without t (members s.order)) (only_if (standsb th) t) in let w = Lists.count_others t u (members s.order) n in let o = Lists.count-not_only t u (standsb th) n in omega (arith, a, w, o)

  -- ---- to the front
  abbrev front : List ℕ
  front = only_if (standsb th) t ++ without t (members s.order)

  front-t : count t front ≡ one_if (standsb th)
  front-t = let a = Lists.count-append t (only_if (standsb th) t) (without t (members s.order)) in let w = Lists.count-without t (members s.order) in let o = Lists.count_only t (standsb th) in omega (arith, a, w, o)

  front_u : (u : ℕ) → (u ≡ t → ⊥) → count u front ≡ count u (members s.order)
  front_u u n = let a = Lists.count-append u (only_if (standsb th) t) (without t (members s.order)) in let w = Lists.count_others t u (members s.order) n in let o = Lists.count-not_only t u (standsb th) n in omega (arith, a, w, o)

  -- ---- what the moves leave
  pub moved_self : thread_at (moved s t th) t ≡ th
  unfolding moved with_order thread_at
  moved_self = kept_self

  pub moved_other : (u : ℕ) → (u ≡ t → ⊥) → thread_at (moved s t th) u ≡ thread_at s u
  unfolding moved with_order thread_at
  moved_other = kept_other

  pub front_self : thread_at (moved_front s t th) t ≡ th
  unfolding moved_front with_order thread_at
  front_self = kept_self

  pub front_other : (u : ℕ) → (u ≡ t → ⊥) → thread_at (moved_front s t th) u ≡ thread_at s u
  unfolding moved_front with_order thread_at
  front_other = kept_other

  module _ (f : fitb th ≡ true) where
    pub moved_steady_lem : Steady (moved s t th)
    unfolding moved
    moved_steady_lem = put_steady end end-t end_u f

    -- THE LAW OF A MOVE: t is taken out of every order, and stands at the end of its new one
    pub moved-line : (p : Place) → line_at (moved s t th) p ≡ without t (line_at s p) ++ only_if (placedb p th) t
    unfolding moved
    moved-line p =
        put-line end end-t end_u f p
        ∙ Lists.filter-append (λ u. placedb p (thread_at (with_thread s t th) u)) (without t (members s.order)) (only_if (standsb th) t)
        ∙ (λ i. rest-line p i ++ only-line p i)

    pub front_steady_lem : Steady (moved_front s t th)
    unfolding moved_front
    front_steady_lem = put_steady front front-t front_u f

    pub front-line : (p : Place) → line_at (moved_front s t th) p ≡ only_if (placedb p th) t ++ without t (line_at s p)
    unfolding moved_front
    front-line p =
        put-line front front-t front_u f p
        ∙ Lists.filter-append (λ u. placedb p (thread_at (with_thread s t th) u)) (only_if (standsb th) t) (without t (members s.order))
        ∙ (λ i. only-line p i ++ rest-line p i)

-- ---- prioritise
module _ (s : Scheduler) (S : Steady s) (p : Place) where
  -- who goes to the front
  abbrev best : ℕ
  best = best_of (priority_at s) (line_at s p)

  best_stands : best < 32 → 0 < count best (line_at s p)
  best_stands = Bests.best_stands (priority_at s) (line_at s p)

  best_placed : best < 32 → placedb p (thread_at s best) ≡ true
  unfolding one_if
  best_placed l =
      by_test (placedb p (thread_at s best)) (λ e. e)
      (λ e. absurd (let c = best_stands l in let d = line-count s S best p ∙ ap one_if e in omega (arith, c, d)))

  abbrev order : List ℕ
  order = only_if (ltb best 32) best ++ without best (members s.order)

  -- everybody as often as before
  same_count : (u : ℕ) → count u order ≡ count u (members s.order)
  unfolding one_if
  same_count u =
      let a = Lists.count-append u (only_if (ltb best 32) best) (without best (members s.order)) in
      by_eq u best
      (λ e. let w = ap (λ (x : ℕ). count x (without best (members s.order))) e ∙ Lists.count-without best (members s.order) in
      let o = ap (λ (x : ℕ). count x (only_if (ltb best 32) best)) e ∙ Lists.count_only best (ltb best 32) in
      let c = ap (λ (x : ℕ). count x (members s.order)) e in
      by_test (ltb best 32)
      (λ q. let h = ltb-true best 32 q in
      let b = best_stands h in let d = line-count s S best p in let g = one_at_most (placedb p (thread_at s best)) in
      let n = S.placed best ∙ ap one_if (placed_stands p (thread_at s best) (best_placed h)) in
      let k = ap one_if q in omega (arith, a, w, o, c, n, k))
      (λ q. let n = out_of_order s S best (ltb-false best 32 q) in let k = ap one_if q in omega (arith, a, w, o, c, n, k)))
      (λ e. let w = Lists.count_others best u (members s.order) e in let o = Lists.count-not_only best u (ltb best 32) e in omega (arith, a, w, o))

  same_placed : (u : ℕ) → count u order ≡ one_if (standsb (thread_at s u))
  same_placed u = same_count u ∙ S.placed u

  pub prioritised_steady_lem : Steady (prioritised_at s p)
  unfolding prioritised_at fronted
  prioritised_steady_lem = order_steady s S.sized S.fit order same_placed

  any-line : (q : Place) → line_at (prioritised_at s p) q ≡ only_if (ltb best 32 && placedb q (thread_at s best)) best ++ without best (line_at s q)
  unfolding prioritised_at fronted line_at
  any-line q =
      order-line s S.sized S.fit order same_placed q
      ∙ Lists.filter-append (λ t. placedb q (thread_at s t)) (only_if (ltb best 32) best) (without best (members s.order))
      ∙ (λ i. Lists.filter_only (λ t. placedb q (thread_at s t)) (ltb best 32) best i ++ Lists.filter-without (λ t. placedb q (thread_at s t)) best (members s.order) i)

  -- the place's own order: the first of the best priority goes to the front, and nothing else changes
  pub prioritised_here_lem : line_at (prioritised_at s p) p ≡ prioritised (priority_at s) (line_at s p)
  unfolding prioritised fronted
  prioritised_here_lem =
      any-line p
      ∙ ap (λ (b : Bool). only_if b best ++ without best (line_at s p)) here
    where
      here : (ltb best 32 && placedb p (thread_at s best)) ≡ ltb best 32
      here = by_test (ltb best 32)
          (λ e. ap (λ (b : Bool). b && placedb p (thread_at s best)) e ∙ best_placed (ltb-true best 32 e) ∙ sym e)
          (λ e. ap (λ (b : Bool). b && placedb p (thread_at s best)) e ∙ sym e)

  -- nobody past the table stands at a place
  out-of-line : (q : Place) → 32 ≤ best → count best (line_at s q) ≡ 0
  unfolding line_at
  out-of-line q h = let c = out_of_order s S best h in let d = Lists.count-part (λ u. placedb q (thread_at s u)) best (members s.order) in omega (arith, c, d)

  -- and every other place's order is as it was
  pub prioritised_other : (q : Place) → (q ≡ p → ⊥) → line_at (prioritised_at s p) q ≡ line_at s q
  unfolding one_if
  prioritised_other q n =
      by_test (ltb best 32)
      (λ e. let f = other_place p (thread_at s best) (best_placed (ltb-true best 32 e)) q n in
      any-line q
      ∙ (λ i. only_if (e i && f i) best ++ without best (line_at s q))
      ∙ Lists.without_none best (line_at s q) (line-count s S best q ∙ ap one_if f))
      (λ e. any-line q
      ∙ ap (λ (b : Bool). only_if (b && placedb q (thread_at s best)) best ++ without best (line_at s q)) e
      ∙ Lists.without_none best (line_at s q) (out-of-line q (ltb-false best 32 e)))
