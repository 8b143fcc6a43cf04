-- The scheduler's claims, each by its law.
use mathlib.Core.Path.{◌≡◌, refl}
use mathlib.Core.List.{[]}
use mathlib.Core.Bool.{true}
use Prim.Native.Nat.{◌<◌}
use Rattle.lines.specs.Logic.{one_if, all_below}
use Rattle.lines.specs.Lists.{filter, count, below, first, first_with, leastb, best_of}
use Rattle.lines.specs.Lines.{members, pad, line_of, cleanb}
use Rattle.scheduler.specs.declared.Scheduler.{Scheduler}
use Rattle.scheduler.specs.Threads.{uncreated, readyb, waitsb, standsb}
use Rattle.scheduler.specs.Orders.{thread_at, runner, line_at, idle, moved}
use Rattle.scheduler.specs.Choice.{best_among, best_ready, relinquished}
use Rattle.scheduler.specs.Sound.{zerob, fitb, countedb, steadyb, runsb, soundb, Sound}
use Rattle.scheduler.specs.Claims.{Claims}
use Rattle.scheduler.proofs.Laws.Threads.{fit_low}
use Rattle.scheduler.proofs.Laws.Orders
use Rattle.scheduler.proofs.Laws.Choosing
use Rattle.scheduler.proofs.Laws.Changing
use Rattle.scheduler.proofs.Laws.Testing
use Rattle.scheduler.proofs.Laws.Fairness

started_passes : soundb idle ≡ true
unfolding idle uncreated readyb waitsb standsb thread_at members pad line_of cleanb filter count below first first_with leastb best_of best_among best_ready one_if all_below zerob fitb countedb steadyb runsb soundb
started_passes = refl

start_sound_lem : Sound idle
unfolding idle
start_sound_lem = Testing.tested idle refl started_passes

relinquish_sound_lem : (s : Scheduler) → Sound s → runner s < 32 → Sound (relinquished s)
unfolding relinquished
relinquish_sound_lem s S l =
    let M = Orders.moved_steady_lem s S.steady (runner s) (thread_at s (runner s)) l (S.steady.fit (runner s) l) in
    Choosing.rescheduled_sound (moved s (runner s) (thread_at s (runner s))) M true

pub claims : Claims
claims =
    record {
      test_sound = Testing.tested;
      sound_test = Testing.passes;
      start_sound = start_sound_lem;
      stands_once = Orders.line-count;
      moved_steady = λ s S t th l f. Orders.moved_steady_lem s S t th l f;
      front_steady = λ s S t th l f. Orders.front_steady_lem s S t th l f;
      kept_steady = λ s S t th l f h. Orders.kept_steady_lem s S t th l h f;
      prioritised_steady = Orders.prioritised_steady_lem;
      priority_steady = λ s S t p l c h. Changing.priority_steady_lem s S t l c p h;
      preemption_steady = λ s S t h l c w. Changing.preemption_steady_lem s S t l c h w (fit_low (thread_at s t) (S.fit t l));
      choice_sound = Choosing.rescheduled_sound;
      relinquish_sound = relinquish_sound_lem;
      moved_line = Orders.moved-line;
      front_line = Orders.front-line;
      kept_line = Orders.kept_line_lem;
      prioritised_here = Orders.prioritised_here_lem;
      prioritised_elsewhere = Orders.prioritised_other;
      after_priority_change = λ s S t p l c h. Changing.after-priority_change s S t p l c h;
      preemption_line = λ s S t h l c. Changing.preemption-line s S t l c h;
      choice_line = Choosing.rescheduled-line;
      moved_begins = Fairness.moved-begins;
      front_begins = Fairness.front-begins;
      moved_gone = λ s S p t th l f h. Fairness.moved_gone_lem s S p [] (line_at s p, refl) t th l f h;
      first_served = λ s S p x r B. (Fairness.first-of_beginning s S p x r B, Fairness.served-begins s S p x r B);
    }
