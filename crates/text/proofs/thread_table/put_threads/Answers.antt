use Rattle.std.proofs.Common.{◌≡◌, ℕ, ◌<◌, [], length, get_or, arith, false}
use lib.Seq.{take_all}
use Rattle.lines.proofs.Laws.Lists.{get_d_any}
use Rattle.scheduler.specs.declared.thread.Thread.{Thread}
use Rattle.scheduler.proofs.Laws.Threads.{length_mapped}
use Rattle.calls.specs.declared.held.Held.{Held}
use Rattle.calls.specs.Held.{no_held}
use Rattle.text.specs.Texts.{each_text}
use Rattle.text.specs.Threads.{record_text, threads_text}
use Rattle.text.proofs.Laws.Texts.{puts_more}
use Rattle.text.proofs.thread_table.put_threads.Goals as goal

pub loop-t-init : goal.loop-t-init
unfolding each_text
loop-t-init g c = c.put_nothing.ensures

pub loop-t-preserved : goal.loop-t-preserved
loop-t-preserved g c =
    let held = c.args.held.now in
    let z : length c.args.threads.now ≡ 32 = search length_mapped in
    let w : length held ≡ 32 = search length_mapped in
    let h : c.loop-t.t < length c.args.threads.now = omega arith in
    let d : Held = record { status = 0; request = 0; words = []; sending = false; front = false; option = 0 } in
    puts_more (λ (m : ℕ) (th : Thread). record_text m th (get_or held m no_held)) c.args.threads.now _ h c.loop-t.invariant
    (rw (get_d_any held c.loop-t.t d no_held (omega arith)) at c.put_record.ensures)

pub returns : goal.returns
unfolding threads_text
returns g c =
    let z : length c.args.threads.now ≡ 32 = search length_mapped in
    rw (take_all c.loop-t.t c.args.threads.now (omega arith)) at c.loop-t.invariant
