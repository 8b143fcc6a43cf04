-- Laws of the ticks that are left.
use Rattle.std.proofs.Common.{◌≡◌, ℕ, ◌-◌, true, false, not, ◌&&◌, eqb, ltb, sym, refl, ◌∙◌, arith, ltb-false, ltb-true, eq-eqb, ne_eqb, eqb-true}
use Rattle.lines.proofs.Laws.Logic.{by_test, never}
use Rattle.scheduler.specs.declared.thread.Thread.{Thread}
use Rattle.scheduler.specs.Threads.{waitsb, sleepsb, pausedb}
use Rattle.waiting.specs.Ticks.{forever, timedb, with_ticks, at_zerob, last_tickb}

-- a timed wait has no tick left after this one where it has one, or none
pub last_is : (th : Thread) → last_tickb th ≡ (timedb th && eqb (th.ticks - 1) 0)
unfolding last_tickb at_zerob timedb with_ticks pausedb waitsb sleepsb
last_is th = by_test (pausedb th) (λ p. rw p) (λ p. rw p)

pub below_two : (n : ℕ) → eqb (n - 1) 0 ≡ ltb n 2
below_two n =
    by_test (ltb n 2)
    (λ l. let h = ltb-true n 2 l in eq-eqb (n - 1) 0 (omega (arith, h)) ∙ sym l)
    (λ l. let h = ltb-false n 2 l in ne_eqb (n - 1) 0 (λ e. omega (arith, h, e)) ∙ sym l)

-- who is not timed is not at zero
pub untimed_left : (th : Thread) → timedb th ≡ false → at_zerob th ≡ false
unfolding timedb at_zerob
untimed_left th e =
    by_test (pausedb th)
    (λ p. by_test (eqb th.ticks forever)
    (λ f. rw (p, eqb-true th.ticks forever f) refl)
    (λ f. let t : (pausedb th && not (eqb th.ticks forever)) ≡ true = rw (p, f) in never t e))
    (λ p. rw p)
