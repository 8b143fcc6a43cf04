use mathlib.Core.Path.{◌≡◌, refl, sym, ap, ap₂, ◌∙◌}
use mathlib.Core.Bool.{Bool}
use mathlib.Core.List.{List, [], ◌∷◌, ◌++◌, append-nil}
use Prim.Native.Nat.{ℕ, ◌<◌, ◌+◌, ◌-◌}
use native.Mathlib.Omega.{arith}
use lib.ListN.{length, get_or, length-set}
use Rattle.lines.specs.Logic.{one_if}
use Rattle.scheduler.specs.declared.thread.Thread.{Thread}
use Rattle.scheduler.specs.declared.Scheduler.{Scheduler}
use Rattle.scheduler.specs.Threads.{uncreated}
use Rattle.scheduler.specs.Orders.{thread_at, with_thread, joined, woken}
use Rattle.scheduler.proofs.Laws.Threads.{length_mapped}
use Rattle.calls.specs.Chains.{tick_refusal}
use Rattle.calls.specs.Held.{no_words, no_held}
use Rattle.waiting.specs.Ticks.{next_time, timedb, timeout_status, with_ticks, last_tickb}
use Rattle.kernel.specs.declared.Kernel.{Kernel}
use Rattle.kernel.specs.Tables.{thread_of, held_at, with_scheduler, with_held, with_clock}
use Rattle.kernel.specs.Answers.{answer_of}
use Rattle.kernel.specs.Edits.{status_by, record_by, held_by, frontb, edited, applied, gathered, mover, movers, endsb}
use Rattle.kernel.specs.Edits.Cause.{timed_out}
use Rattle.kernel.specs.Edits.Move.{ends}
use Rattle.kernel.specs.Edits.Edit.{moves, counts, sets}
use Rattle.kernel.proofs.Laws.Waits.{woken_sized}
use Rattle.kernel.proofs.Laws.Ticks.{ticks_below, one_pass, tick_same, below_other, more-below, more-ended, tick_last, tick_timed, tick_none}
use Rattle.kernel.proofs.Laws.Fits.{ticks_left}
use Rattle.kernel.proofs.Laws.Edits.{applied-append, gathered-append}
use Rattle.kernel.proofs.Laws.Answers.{is_carried}
use Rattle.kernel.proofs.Laws.Arms.{refused_for, carried_as}
use Rattle.kernel.proofs.Laws.Reads.{read_inside}
use Rattle.kernel.proofs.Kernel.tick.Goals as goal
use Rattle.kernel.proofs.Kernel.tick.Goals.{then-is_last_tick, else-is_last_tick+then-is_timed, else-is_last_tick+else-is_timed}

-- ---- a turn of the loop
-- the tables after the ticks of the threads before t
abbrev below : Kernel → ℕ → Kernel
below start t = applied start (ticks_below t start)

-- thread t, as it is read
thread : (s : Scheduler) (t : ℕ) → t < 32 → length s.threads ≡ 32 → (d : Thread) → get_or s.threads t d ≡ thread_at s t
unfolding thread_at
thread s t in-table sized d = read_inside s.threads t d uncreated in-table sized

-- a test of it is that of the thread after the ticks of those before
tested : (start k : Kernel) (s : Scheduler) (t : ℕ) → t < 32 → length s.threads ≡ 32 → with_scheduler k s ≡ below start t
    → (test : Thread → Bool) (d : Thread) {b : Bool} → test (get_or s.threads t d) ≡ b → test (thread_of (below start t) t) ≡ b
unfolding with_scheduler
tested start k s t in-table sized same test d e = ap (λ (w : Kernel). test (thread_of w t)) (sym same) ∙ sym (ap test (thread s t in-table sized d)) ∙ e

-- one more whose wait ends, or none
counted : (start : Kernel) (t ended : ℕ) → ended ≡ length (movers endsb (ticks_below t start))
    → {b : Bool} → last_tickb (thread_of (below start t) t) ≡ b → length (movers endsb (ticks_below (t + 1) start)) ≡ ended + one_if b
counted start t ended so-far x =
    let o = ap one_if (ap last_tickb (sym (below_other start t t (omega arith))) ∙ x) in
    omega (arith, so-far, more-ended start t, o)

pub returns-in-Err : goal.returns-in-Err
unfolding ticks_below applied gathered with_scheduler
returns-in-Err c = refused_for _ _ _ c.refused.ensures c.from.ensures (cc c.in-Err.ensures)

pub loop-t-init : goal.loop-t-init
unfolding ticks_below applied gathered with_scheduler
loop-t-init c = (search length_mapped, search length_mapped, refl, refl, omega arith)

pub overflow_sub-th : goal.overflow_sub-th
unfolding thread_at
overflow_sub-th c =
    let f = sym c.is_last_tick.ensures ∙ c.if-is_last_tick.false in
    let g = sym c.is_timed.ensures ∙ c.if-is_timed.true in
    let w = ticks_left _ g f in
    omega (arith, w)

pub loop-t-preserved : goal.loop-t-preserved
unfolding with_scheduler with_held edited record_by held_by frontb status_by joined woken with_thread thread_at held_at one_if
loop-t-preserved c =
    let l = c.loop-t in
    let i = l.invariant in
    let start : Kernel = with_scheduler c.args.self c.args.self.scheduler in
    let w = below start l.t in
    let th = thread l.s l.t c.loop-t-test.true i.1 in
    elim c.if-is_last_tick.branch [
      | then-is_last_tick b ↦ let x = tested start l.self l.s l.t c.loop-t-test.true i.1 i.2 last_tickb _ (sym c.is_last_tick.ensures ∙ b.if-is_last_tick.true) in
          let n = counted start l.t l.ended i.3 x in
          let h = read_inside l.self.held l.t _ no_held c.loop-t-test.true i.0 in
          let f = b.timeout_status-status.ensures ∙ ap₂ timeout_status (th _) h in
          let e = ap (λ (v : Kernel). edited v (moves l.t (ends timed_out no_words))) i.2 in (
            ap (λ (v : Kernel). length v.held) b.self-is ∙ simp length-set i.0,
            woken_sized l.s l.t _ (b.s-is ∙ b.woken-s.ensures) i.1,
            (λ j. with_scheduler (b.self-is j) (b.s-is j)) ∙ rw (b.woken-s.ensures, b.of.ensures, f) (e ∙ sym (tick_last w l.t (thread_of w l.t) x) ∙ sym (more-below start l.t)),
            omega (arith, n, b.ended-is),
            omega (arith, b.ended-is),
          )
      | else-is_last_tick+then-is_timed b ↦ let x = tested start l.self l.s l.t c.loop-t-test.true i.1 i.2 last_tickb _ (sym c.is_last_tick.ensures ∙ b.if-is_last_tick.false) in
          let g = tested start l.self l.s l.t c.loop-t-test.true i.1 i.2 timedb _ (sym b.is_timed.ensures ∙ b.if-is_timed.true) in
          let n = counted start l.t l.ended i.3 x in
          let f = b.with_ticks.ensures ∙ ap (λ (w : Thread). with_ticks (w.ticks - 1) w) (th _) in
          let e = ap (λ (v : Kernel). edited v (counts l.t)) i.2 in (
            ap (λ (v : Kernel). length v.held) b.self-is ∙ i.0,
            ap (λ (v : Scheduler). length v.threads) b.s-is ∙ simp length-set i.1,
            (λ j. with_scheduler (b.self-is j) (b.s-is j)) ∙ rw f (e ∙ sym (tick_timed w l.t (thread_of w l.t) x g) ∙ sym (more-below start l.t)),
            omega (arith, n, b.ended-is),
            omega (arith, b.ended-is),
          )
      | else-is_last_tick+else-is_timed b ↦ let x = tested start l.self l.s l.t c.loop-t-test.true i.1 i.2 last_tickb _ (sym c.is_last_tick.ensures ∙ b.if-is_last_tick.false) in
          let g = tested start l.self l.s l.t c.loop-t-test.true i.1 i.2 timedb _ (sym b.is_timed.ensures ∙ b.if-is_timed.false) in
          let n = counted start l.t l.ended i.3 x in (
            ap (λ (v : Kernel). length v.held) b.self-is ∙ i.0,
            ap (λ (v : Scheduler). length v.threads) b.s-is ∙ i.1,
            (λ j. with_scheduler (b.self-is j) (b.s-is j)) ∙ i.2 ∙ sym (tick_none w l.t (thread_of w l.t) x g) ∙ sym (more-below start l.t),
            omega (arith, n, b.ended-is),
            omega (arith, b.ended-is),
          )
    ]

pub returns : goal.returns
unfolding one_pass applied edited gathered with_scheduler with_clock
returns c =
    let a = c.args in
    let l = c.loop-t in
    let w : tick_refusal a.caller ≡ 0 = cc c.in_default.ensures in
    let i : l.t ≡ 32 = omega arith in
    let y = rw i at l.invariant.2 in
    let m = rw i at l.invariant.3 in
    let clock = sets (next_time a.self.clock) ∷ [] in
    let es = ticks_below 32 a.self in
    let e = ap (λ (x : Kernel). with_clock x (next_time a.self.clock)) y ∙ sym (applied-append a.self es clock) in
    let o = m ∙ sym (ap (λ (xs : List ℕ). length xs) (gathered-append (mover endsb) es clock ∙ append-nil (movers endsb es))) in
    rw is_carried (c.carried.ensures ∙ rw c.next_time-time.ensures (carried_as a.self _ _ (es ++ clock) e o) ∙ ap answer_of (sym (tick_same a.self)))
