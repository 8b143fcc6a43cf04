-- What a priority change does (rule 6.6), said of the general call on any sound tables.
use Rattle.std.specs.Prelude.{◌≡◌, true, ℕ}
use Rattle.scheduler.specs.Claims.{AfterPriorityChange}
use Rattle.calls.specs.Services.{thread_priority_change}
use Rattle.calls.specs.Held.{one_word}
use Rattle.kernel.specs.declared.Kernel.{Kernel}
use Rattle.kernel.specs.declared.Answer.{Answer}
use Rattle.kernel.specs.Tables.{thread_of, runner_of, with_scheduler}
use Rattle.kernel.specs.Sound.{Sound}
use Rattle.claims.specs.Lists.{Made, answer}
use Rattle.claims.specs.Rolls.{succeedsb}

-- rule 6.6: the answer to a priority change of thread t to p that is done
pub record PriorityAnswer (k : Kernel) (t p : ℕ) (r : Answer) : Type 0 where
  -- word 0 is the old priority, and no wait ends
  pub words : r.words ≡ one_word (thread_of k t).priority
  pub ended : r.ended ≡ 0
  -- no table but that of threads and orders changes
  pub rest : r.kernel ≡ with_scheduler k r.kernel.scheduler
  -- priority and threshold are p, the mark has ended, a ready thread stands last in its new order, and a lowered runner gives way to a
  -- better thread and to no other
  pub thread : AfterPriorityChange k.scheduler t p r.kernel.scheduler
  -- whoever then runs is the answer's next thread
  pub next : r.next.0 ≡ runner_of r.kernel

-- rule 6.6: of every call 11 that is done
abbrev pub PriorityClaim : Type 0
PriorityClaim =
    (k : Kernel) → Sound k → (m : Made) → m.request.number ≡ thread_priority_change → succeedsb (answer k m) ≡ true
    → PriorityAnswer k m.request.a m.request.b (answer k m)
