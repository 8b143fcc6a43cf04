-- The tables as text: what is created, by number, and the orders in which somebody stands.
use Rattle.std.specs.Prelude.{List, ◌++◌, ℕ}
use Rattle.scheduler.specs.declared.Scheduler.{Scheduler}
use Rattle.scheduler.specs.Orders.{runner}
use Rattle.calls.specs.declared.held.Held.{Held}
use Rattle.kernel.specs.declared.Kernel.{Kernel}
use Rattle.output.specs.Texts.{ascii}
use Rattle.text.specs.Texts.{field_text, thread_text}
use Rattle.text.specs.Threads.{threads_text, orders_text}
use Rattle.text.specs.Objects.{semaphores_text, queues_text, groups_text, pools_text}

-- the clock and who runs
unfoldable pub start_text : ℕ → ℕ → List ℕ
start_text clock running = field_text (ascii "clock ") clock ++ ascii "\nrunning " ++ thread_text running ++ ascii "\n"

-- the clock, who runs, the threads and the orders of the ready ones
unfoldable pub scheduler_text : ℕ → Scheduler → List Held → List ℕ
scheduler_text clock s held = start_text clock (runner s) ++ threads_text s.threads held ++ orders_text s

-- all tables, and a dot behind them
unfoldable pub tables_text : Kernel → List ℕ
tables_text k =
    scheduler_text k.clock k.scheduler k.held
    ++ semaphores_text k.semaphores k.scheduler
    ++ queues_text k.queues k.scheduler
    ++ groups_text k.groups k.scheduler
    ++ pools_text k.pools k.scheduler
    ++ ascii ".\n"
