use mathlib.Core.Path.{◌≡◌, refl, sym, ◌∙◌, subst}
use mathlib.Core.Bool.{Bool, true, false}
use mathlib.Core.List.{append-nil}
use Prim.Native.Nat.{ℕ}
use Rattle.lines.specs.Lists.{without, to_end, to_front}
use Rattle.lines.specs.Lines.{members}
use Rattle.lines.specs.declared.Line.{Line}
use Rattle.scheduler.specs.declared.thread.Thread.{Thread}
use Rattle.scheduler.specs.declared.Scheduler.{Scheduler}
use Rattle.scheduler.specs.Threads.{standsb}
use Rattle.scheduler.specs.Orders.{with_thread, with_order, moved, moved_front, joined}
use Rattle.scheduler.proofs.Scheduler.join.Goals as goal
use Rattle.scheduler.proofs.Scheduler.join.Goals.{then-not-is_standing, else-not-is_standing+then-front, else-not-is_standing+else-front}

-- the line that the record asks for
module _ (s : Scheduler) (t : ℕ) (th : Thread) where
  in_front : (front : Bool) → front ≡ true → standsb th ≡ true → with_order (with_thread s t th) (to_front t (members s.order)) ≡ joined s front t th
  unfolding joined moved moved_front to_front with_thread
  in_front front f e = rw (f, e) refl

  at_end : (front : Bool) → front ≡ false → standsb th ≡ true → with_order (with_thread s t th) (to_end t (members s.order)) ≡ joined s front t th
  unfolding joined moved moved_front to_end with_thread
  at_end front f e = rw (f, e) refl

  in_none : (front : Bool) → standsb th ≡ false → with_order (with_thread s t th) (without t (members s.order)) ≡ joined s front t th
  unfolding joined moved moved_front with_thread
  in_none true e = rw e refl
  in_none false e = rw (e, append-nil) refl

pub returns : goal.returns
unfolding with_order with_thread
returns c =
    let a = c.args in
    let s : Scheduler = a.self.now in
    let stored : ◌≡◌ {A = Scheduler} (record { running = s.running; order = s.order; threads = c.store.new.all }) (with_thread s a.t.0 a.th) = rw c.store.ensures refl in
    let ordered = λ (l : Line) (x : Scheduler). ◌≡◌ {A = Scheduler} (record { running = x.running; order = l; threads = x.threads }) (joined s a.front a.t.0 a.th) in
    subst (λ (x : Scheduler). ordered c.if-not-is_standing.self x) (sym stored)
    (elim c.if-not-is_standing.branch [
      | then-not-is_standing w ↦
          subst (λ (l : Line). ordered l (with_thread s a.t.0 a.th)) (sym (w.self-is ∙ w.without-self.ensures))
          (in_none s a.t.0 a.th a.front (sym c.is_standing.ensures ∙ w.if-not-is_standing.true))
      | else-not-is_standing+then-front w ↦
          subst (λ (l : Line). ordered l (with_thread s a.t.0 a.th)) (sym (w.self-is ∙ w.joined_front.ensures))
          (in_front s a.t.0 a.th a.front w.if-front.true (sym c.is_standing.ensures ∙ w.if-not-is_standing.false))
      | else-not-is_standing+else-front w ↦
          subst (λ (l : Line). ordered l (with_thread s a.t.0 a.th)) (sym (w.self-is ∙ w.joined_end.ensures))
          (at_end s a.t.0 a.th a.front w.if-front.false (sym c.is_standing.ensures ∙ w.if-not-is_standing.false))
    ])
