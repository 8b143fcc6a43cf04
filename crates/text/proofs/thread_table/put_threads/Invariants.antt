use Rattle.std.proofs.Common.{ℕ, take, get_or}
use Rattle.scheduler.specs.declared.thread.Thread.{Thread}
use Rattle.calls.specs.Held.{no_held}
use Rattle.output.specs.Texts.{Puts}
use Rattle.text.specs.Texts.{each_text}
use Rattle.text.specs.Threads.{record_text}
use Rattle.text.proofs.thread_table.put_threads.Given as goal

abbrev pub invariant-loop-t : goal.invariant-loop-t
invariant-loop-t g l =
    Puts l.fn.w (each_text (λ (m : ℕ) (th : Thread). record_text m th (get_or l.held m no_held)) 0 (take l.t l.threads)) l.w
