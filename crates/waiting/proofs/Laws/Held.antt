-- What a thread of a known state may hold.
use Rattle.std.proofs.Common.{◌≡◌, ℕ, ◌<◌, ◌≤◌, Bool, true, false, not, ◌&&◌, ◌||◌, eqb, leb, List, sym, refl, ◌∙◌, arith, eq-eqb, ne_eqb}
use Rattle.lines.specs.Logic.{implies, all_below}
use Rattle.lines.proofs.Laws.Logic.{and_in}
use Rattle.scheduler.specs.declared.thread.Thread.{Thread}
use Rattle.scheduler.specs.Threads.{uncreated, sleepsb, waitsb, pausedb}
use Rattle.scheduler.proofs.Laws.States
use Rattle.calls.specs.declared.held.Held.{Held}
use Rattle.calls.specs.Held.{no_words, no_held, holding, held_waiting, sending, requesting, held_words, message_of}
use Rattle.calls.specs.Statuses as Statuses
use Rattle.waiting.specs.Fit.{blank_from, waits_onb, sendsb, status_fitb, words_fitb, sender_fitb, request_fitb, unheld_fitb, held_fitb}

-- the test of what is held, by what it reads of the record
held_test : Bool → Bool → Bool → Bool → Held → Bool
held_test paused on_queue on_flags created h =
    (implies paused (eqb h.status Statuses.waiting) && (paused || not (eqb h.status Statuses.waiting)))
    && implies paused (blank_from 0 (held_words h))
    && (implies h.sending on_queue && implies h.front (on_queue && h.sending) && ((on_queue && h.sending) || blank_from 0 (message_of h)))
    && (leb h.option 3 && (on_flags || (eqb h.request 0 && eqb h.option 0)))
    && (created || (eqb h.status 0 && blank_from 0 (held_words h)))

held_by_lem : (th : Thread) (h : Held) → held_fitb th h ≡ held_test (pausedb th) (waits_onb 5 th) (waits_onb 7 th) th.created h
unfolding held_test held_fitb status_fitb words_fitb sender_fitb sendsb request_fitb unheld_fitb
held_by_lem th h = refl

-- who is in another state
other-state : (n : ℕ) (th : Thread) → (th.state ≡ n → ⊥) → waits_onb n th ≡ false
unfolding waits_onb
other-state n th o = (λ i. th.created && ne_eqb th.state n o i) ∙ none th.created
  where
    none : (b : Bool) → (b && false) ≡ false
    none true = refl
    none false = refl

-- a thread that neither waits nor sleeps
held-rest : (th : Thread) → th.created ≡ true → th.state < 4 → (h : Held) → held_fitb th h ≡ held_test false false false true h
held-rest th made rests h =
    let p = States.rest-not_paused th rests in
    let q = other-state 5 th (λ e. omega (arith, e, rests)) in
    let f = other-state 7 th (λ e. omega (arith, e, rests)) in
    held_by_lem th h ∙ (λ i. held_test (p i) (q i) (f i) (made i) h)

-- it holds any status but that of waiters
pub held-status : (th : Thread) → th.created ≡ true → th.state < 4 → (status : ℕ) (words : List ℕ) → eqb status Statuses.waiting ≡ false → held_fitb th (holding status words) ≡ true
unfolding held_test holding held_words message_of implies blank_from all_below
held-status th made rests status words e = held-rest th made rests (holding status words) ∙ rw e

-- and whatever it held in another such state
pub held_same : (th old : Thread) → th.created ≡ true → th.state < 4 → old.created ≡ true → old.state < 4 → (h : Held) → held_fitb old h ≡ true → held_fitb th h ≡ true
held_same th old made rests was rested h e = held-rest th made rests h ∙ sym (held-rest old was rested h) ∙ e

-- a waiter or sleeper on no queue and for no flags
pub held-waiting : (th : Thread) → th.created ≡ true → 4 ≤ th.state → (th.state ≡ 5 → ⊥) → (th.state ≡ 7 → ⊥) → held_fitb th (holding Statuses.waiting no_words) ≡ true
unfolding held_test holding held_words message_of implies blank_from all_below
held-waiting th made waits q f =
    let p = States.paused_in th made waits in
    let a = other-state 5 th q in
    let b = other-state 7 th f in
    held_by_lem th (holding Statuses.waiting no_words) ∙ (λ i. held_test (p i) (a i) (b i) (made i) (holding Statuses.waiting no_words))

-- a thread in a state waits there
pub in-state : (n : ℕ) (th : Thread) → th.created ≡ true → th.state ≡ n → waits_onb n th ≡ true
unfolding waits_onb
in-state n th made e = and_in th.created (eqb th.state n) made (eq-eqb th.state n e)

-- a waiter on a queue, and one for flags
held_queue : (th : Thread) → th.created ≡ true → th.state ≡ 5 → (h : Held) → held_fitb th h ≡ held_test true true false true h
held_queue th made e h =
    let p = States.paused_in th made (omega (arith, e)) in
    let q = in-state 5 th made e in
    let f = other-state 7 th (λ z. omega (arith, e, z)) in
    held_by_lem th h ∙ (λ i. held_test (p i) (q i) (f i) (made i) h)

pub held_receiving : (th : Thread) → th.created ≡ true → th.state ≡ 5 → held_fitb th held_waiting ≡ true
unfolding held_test holding held_words message_of implies blank_from all_below
held_receiving th made e = held_queue th made e held_waiting

pub held-sending : (front : Bool) (message : List ℕ) (th : Thread) → th.created ≡ true → th.state ≡ 5 → held_fitb th (sending front message) ≡ true
unfolding held_test sending held_words message_of implies blank_from all_below
held-sending true message th made e = held_queue th made e (sending true message)
held-sending false message th made e = held_queue th made e (sending false message)

pub held-requesting : (request option : ℕ) → leb option 3 ≡ true → (th : Thread) → th.created ≡ true → th.state ≡ 7 → held_fitb th (requesting request option) ≡ true
unfolding held_test requesting held_words message_of implies blank_from all_below
held-requesting request option known th made e =
    let p = States.paused_in th made (omega (arith, e)) in
    let q = other-state 5 th (λ z. omega (arith, e, z)) in
    let f = in-state 7 th made e in
    held_by_lem th (requesting request option) ∙ (λ i. held_test (p i) (q i) (f i) (made i) (requesting request option)) ∙ rw known

pub held_none : held_fitb uncreated no_held ≡ true
unfolding held_fitb status_fitb words_fitb sender_fitb sendsb request_fitb unheld_fitb waits_onb pausedb waitsb sleepsb uncreated holding held_words message_of implies blank_from all_below
held_none = refl
