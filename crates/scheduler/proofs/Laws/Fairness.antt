-- An order that begins with a list of threads: what each move does to that beginning, whatever the kind of place.
use mathlib.Core.Path.{◌≡◌}
use mathlib.Core.List.{List, [], ◌∷◌, append-nil}
use mathlib.Core.Bool.{true, false}
use Prim.Native.Nat.{ℕ, ◌<◌}
use native.Mathlib.Omega.{arith}
use Rattle.lines.specs.Lists.{without, only_if, count, first_with, Begins}
use Rattle.lines.specs.Lines.{members}
use Rattle.lines.proofs.Laws.Lists
use Rattle.scheduler.specs.declared.thread.Thread.{Thread}
use Rattle.scheduler.specs.declared.thread.Place.{Place}
use Rattle.scheduler.specs.declared.Scheduler.{Scheduler}
use Rattle.scheduler.specs.Threads.{placedb}
use Rattle.scheduler.specs.Orders.{thread_at, line_at, first_at, moved, moved_front}
use Rattle.scheduler.specs.Sound.{fitb, Steady}
use Rattle.scheduler.proofs.Laws.Orders

module _ (s : Scheduler) (S : Steady s) (p : Place) (r : List ℕ) (B : Begins r (line_at s p)) where
  module _ (t : ℕ) (th : Thread) (small : t < 32) where
    module _ (f : fitb th ≡ true) where
      -- a move to the end of any place, or out of every order: the beginning stays, less the moved thread
      pub moved-begins : Begins (without t r) (line_at (moved s t th) p)
      moved-begins = rw (Orders.moved-line s S t th small f p) (Lists.begins-moved r (line_at s p) t (only_if (placedb p th) t) B)

      -- a move to the front of another place
      pub front-begins : placedb p th ≡ false → Begins (without t r) (line_at (moved_front s t th) p)
      front-begins h =
          rw (Orders.front-line s S t th small f p, h, ← append-nil (without t (line_at s p)))
          (Lists.begins-moved r (line_at s p) t [] B)

      -- who leaves the place stands there no more
      pub moved_gone_lem : placedb p th ≡ false → count t (line_at (moved s t th) p) ≡ 0
      moved_gone_lem h = rw (Orders.moved-line s S t th small f p, h, append-nil) (Lists.count-without t (line_at s p))

-- the first of the beginning is the first at the place, and when it moves on the rest begins the order
module _ (s : Scheduler) (S : Steady s) (p : Place) (x : ℕ) (r : List ℕ) (B : Begins (x ∷ r) (line_at s p)) where
  pub first-of_beginning : first_at s p ≡ x
  unfolding first_at
  first-of_beginning = Lists.begins-first x r (line_at s p) B

  once : count x (x ∷ r) ≡ 1
  once =
      let a = Lists.begins-count (x ∷ r) (line_at s p) B x in
      let h = Lists.count_here x r in
      let o = Orders.line_once s S x p in
      omega (arith, a, h, o)

  pub served-begins : (th : Thread) → x < 32 → fitb th ≡ true → Begins r (line_at (moved s x th) p)
  served-begins th small f = rw (Lists.without-first x r once) at (moved-begins s S p (x ∷ r) B x th small f)

-- who is first at a place is there
pub first_placed : (s : Scheduler) (p : Place) → first_at s p < 32 → placedb p (thread_at s (first_at s p)) ≡ true
unfolding first_at line_at first_with
first_placed s p l = Lists.first_holds (λ t. placedb p (thread_at s t)) (members s.order) l
