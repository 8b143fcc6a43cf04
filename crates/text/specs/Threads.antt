-- Threads and the orders of the ready ones as text.
use Rattle.std.specs.Prelude.{if◌then◌else◌, List, [], ◌++◌, ℕ, length, get_or, eqb}
use Prim.Native.Char.{code}
use Rattle.numbers.specs.Numbers.{priorities}
use Rattle.lines.specs.Logic.{one_if}
use Rattle.lines.specs.Lists.{numbers_from}
use Rattle.scheduler.specs.declared.thread.Thread.{Thread}
use Rattle.scheduler.specs.declared.Scheduler.{Scheduler}
use Rattle.scheduler.specs.Threads.{ready_at}
use Rattle.scheduler.specs.Orders.{line_at}
use Rattle.calls.specs.declared.held.Held.{Held}
use Rattle.calls.specs.Held.{no_held, held_words, message_of}
use Rattle.waiting.specs.Ticks.{forever}
use Rattle.output.specs.Texts.{ascii}
use Rattle.text.specs.Texts.{field_text, each_text, separated, line_text}

-- the kind of a wait or sleep, and the ticks left of one that ends
unfoldable pub wait_text : ℕ → List ℕ
wait_text ticks =
    if eqb ticks 0 then ascii " wait=none ticks=0"
    else if eqb ticks forever then ascii " wait=forever ticks=0"
    else field_text (ascii " wait=timed ticks=") ticks

-- a thread's number, state and levels
unfoldable pub levels_text : ℕ → Thread → List ℕ
levels_text t th =
    field_text (ascii "thread ") t
    ++ field_text (ascii " state=") th.state
    ++ field_text (ascii " prio=") th.priority
    ++ field_text (ascii " thr=") th.threshold

-- its mark, whether a suspension is held, and the status that it holds
unfoldable pub marks_text : Thread → Held → List ℕ
marks_text th h =
    field_text (ascii " mark=") (one_if th.marked)
    ++ field_text (ascii " held=") (one_if th.suspending)
    ++ field_text (ascii " status=") h.status

-- what it waits for
unfoldable pub request_text : Thread → Held → List ℕ
request_text th h =
    field_text (ascii " obj=") th.object
    ++ field_text (ascii " front=") (one_if h.front)
    ++ field_text (ascii " req=") h.request
    ++ field_text (ascii " opt=") h.option

-- the words that it holds, what it waits for, and the message that it would send
unfoldable pub held_text : Thread → Held → List ℕ
held_text th h =
    ascii " words="
    ++ separated (code ",") (held_words h)
    ++ request_text th h
    ++ ascii " msg="
    ++ separated (code ",") (message_of h)

-- a thread's line, nothing where it is not created
unfoldable pub record_text : ℕ → Thread → Held → List ℕ
record_text t th h =
    if th.created then levels_text t th ++ marks_text th h ++ wait_text th.ticks ++ held_text th h ++ ascii "\n" else []

-- all threads by number
unfoldable pub threads_text : List Thread → List Held → List ℕ
threads_text threads held = each_text (λ t th. record_text t th (get_or held t no_held)) 0 threads

-- the order of a priority, nothing where nobody stands in it
unfoldable pub order_text : ℕ → List ℕ → List ℕ
order_text priority ts = if eqb (length ts) 0 then [] else field_text (ascii "ready ") priority ++ line_text ts

-- the orders of the ready threads, the best priority first
unfoldable pub orders_text : Scheduler → List ℕ
orders_text s = each_text (λ i p. order_text p (line_at s (ready_at p))) 0 (numbers_from 0 priorities)
