-- Laws of what a thread holds, by what it does: which of its fields are zero.
use Rattle.std.proofs.Common.{◌≡◌, ℕ, ◌<◌, Bool, true, false, not, ◌&&◌, ◌||◌, eqb, ltb, leb, sym, refl, ap, ◌∙◌, arith, lt-ltb, eq-eqb, ne_eqb, eqb-true, le-leb}
use mathlib.Core.Bool.{and-true, and-false}
use Rattle.lines.specs.Logic.{implies, all_below}
use Rattle.lines.proofs.Laws.Logic.{by_test, never, and_left, and_right, and_in, or_left}
use Rattle.scheduler.specs.declared.thread.Thread.{Thread}
use Rattle.scheduler.specs.Threads.{waitsb, sleepsb, pausedb}
use Rattle.scheduler.proofs.Laws.States.{paused-made}
use Rattle.calls.specs.declared.held.Held.{Held}
use Rattle.calls.specs.Held.{no_words, held_words, message_of}
use Rattle.calls.specs.Statuses as Statuses
use Rattle.waiting.specs.Fit.{blank_from, waits_onb, sendsb, status_fitb, words_fitb, sender_fitb, request_fitb, unheld_fitb, held_fitb, resting_fitb, held_zerob, paused_fitb}

-- who does not wait or sleep waits on nothing
pub waits_nowhere : (n : ℕ) (th : Thread) → 4 < n → pausedb th ≡ false → waits_onb n th ≡ false
unfolding waits_onb pausedb waitsb
waits_nowhere n th l p =
    by_test (th.created && eqb th.state n)
    (λ e. let s = eqb-true th.state n (and_right th.created (eqb th.state n) e) in
    never
    (or_left (waitsb th) (sleepsb th) (and_in th.created (ltb 4 th.state) (and_left th.created (eqb th.state n) e) (lt-ltb 4 th.state (omega (arith, s, l)))))
    p)
    (λ e. e)

-- an option of 0 is at most 3
zero-option : (n : ℕ) (a : Bool) → (leb n 3 && (a && eqb n 0)) ≡ (a && eqb n 0)
zero-option n a =
    by_test (eqb n 0)
    (λ e. ap (λ (b : Bool). b && (a && eqb n 0)) (le-leb n 3 (let z = eqb-true n 0 e in omega (arith, z))))
    (λ e. rw (e, and-false, and-false))

-- ---- the words of a record, through its two views
none-held : blank_from 0 no_words ≡ true
unfolding blank_from all_below
none-held = refl

module _ (h : Held) where
  abbrev blank : Bool
  blank = blank_from 0 h.words

  abbrev other : Bool
  other = not (eqb h.status Statuses.waiting)

  abbrev unasked : Bool
  unasked = eqb h.request 0 && eqb h.option 0

  blank-held : blank_from 0 (held_words h) ≡ (h.sending || blank)
  unfolding held_words
  blank-held = by_test h.sending (λ s. rw s none-held) (λ s. rw s)

  blank_message : blank_from 0 (message_of h) ≡ (not h.sending || blank)
  unfolding message_of
  blank_message = by_test h.sending (λ s. rw s) (λ s. rw s none-held)

  -- ---- by where the thread waits
  module _ (th : Thread) where
    sender_on : waits_onb 5 th ≡ true → sender_fitb th h ≡ (h.sending || not h.front)
    unfolding sender_fitb sendsb implies
    sender_on w = rw (w, blank_message) (go h.sending h.front blank)
      where
        go : (s f b : Bool) → ((not s || true) && (not f || (true && s)) && ((true && s) || (not s || b))) ≡ (s || not f)
        go true true b = refl
        go true false b = refl
        go false true b = refl
        go false false b = refl

    sender_off : waits_onb 5 th ≡ false → sender_fitb th h ≡ (not h.sending && not h.front)
    unfolding sender_fitb sendsb implies
    sender_off w = rw (w, blank_message) (go h.sending h.front blank)
      where
        go : (s f b : Bool) → ((not s || false) && (not f || (false && s)) && ((false && s) || (not s || b))) ≡ (not s && not f)
        go true f b = refl
        go false true b = refl
        go false false b = refl

    request_on : waits_onb 7 th ≡ true → request_fitb th h ≡ leb h.option 3
    unfolding request_fitb
    request_on w = rw (w, and-true)

    request_off : waits_onb 7 th ≡ false → request_fitb th h ≡ unasked
    unfolding request_fitb
    request_off w = rw w (zero-option h.option (eqb h.request 0))

  -- ---- who neither waits nor sleeps
  module _ (th : Thread) (p : pausedb th ≡ false) where
    rest : held_fitb th h ≡ (other && (not h.sending && not h.front) && unasked && unheld_fitb th h)
    unfolding held_fitb status_fitb words_fitb implies
    rest = rw (p, sender_off th (waits_nowhere 5 th (omega arith) p), request_off th (waits_nowhere 7 th (omega arith) p), and-true)

    pub resting : th.created ≡ true → held_fitb th h ≡ resting_fitb h
    unfolding unheld_fitb resting_fitb
    resting made = rest ∙ rw made (go other h.sending h.front unasked)
      where
        go : (o s f u : Bool) → (o && (not s && not f) && u && true) ≡ (o && not s && not f && u)
        go true true f u = refl
        go true false true u = refl
        go true false false true = refl
        go true false false false = refl
        go false s f u = refl

  -- ---- who is not created
  pub unheld : (th : Thread) → th.created ≡ false → held_fitb th h ≡ held_zerob h
  unfolding unheld_fitb held_zerob pausedb waitsb sleepsb
  unheld th u =
      rest th (rw u)
      ∙ rw (u, blank-held)
      (by_test (eqb h.status 0)
      (λ z. let o : other ≡ true = let e = eqb-true h.status 0 z in rw e in rw (z, o) (go h.sending h.front unasked blank))
      (λ z. rw z (and-false (other && (not h.sending && not h.front) && unasked))))
    where
      go : (s f u b : Bool) → ((not s && not f) && u && (s || b)) ≡ (b && not s && not f && u)
      go true f u true = refl
      go true f u false = refl
      go false true u true = refl
      go false true u false = refl
      go false false true true = refl
      go false false true false = refl
      go false false false true = refl
      go false false false false = refl

-- ---- who waits or sleeps
module _ (h : Held) (th : Thread) (p : pausedb th ≡ true) where
  abbrev unsent : Bool
  unsent = blank h && not h.sending && not h.front

  abbrev waits : Bool
  waits = eqb h.status Statuses.waiting

  pub paused : held_fitb th h ≡ paused_fitb th h
  unfolding held_fitb status_fitb words_fitb unheld_fitb implies paused_fitb
  paused = rw (p, and-true waits, paused-made th p, and-true)

  parts : paused_fitb th h ≡ (waits && (h.sending || blank h) && sender_fitb th h && request_fitb th h)
  unfolding paused_fitb
  parts = rw (p, blank-held h)

  on : (n : ℕ) → th.state ≡ n → waits_onb n th ≡ true
  unfolding waits_onb
  on n s = and_in th.created (eqb th.state n) (paused-made th p) (eq-eqb th.state n s)

  off : (n : ℕ) → (th.state ≡ n → ⊥) → waits_onb n th ≡ false
  unfolding waits_onb
  off n s = ap (λ (b : Bool). th.created && b) (ne_eqb th.state n s) ∙ and-false th.created

  pub paused-status : waits ≡ false → paused_fitb th h ≡ false
  paused-status e = parts ∙ rw e

  module _ (e : waits ≡ true) where
    pub paused_queue : th.state ≡ 5 → ((h.sending || unsent) && unasked h) ≡ paused_fitb th h
    paused_queue s =
        sym (parts ∙ rw (e, sender_on h th (on 5 s), request_off h th (off 7 (λ z. omega (arith, z, s))), go h.sending h.front (blank h)))
      where
        go : (s f b : Bool) → ((s || b) && (s || not f)) ≡ (s || (b && not s && not f))
        go true f b = refl
        go false f true = refl
        go false f false = refl

    -- who waits on no queue does not send
    unsending : (th.state ≡ 5 → ⊥) → ((h.sending || blank h) && sender_fitb th h) ≡ unsent
    unsending s = rw (sender_off h th (off 5 s)) (go h.sending h.front (blank h))
      where
        go : (s f b : Bool) → ((s || b) && (not s && not f)) ≡ (b && not s && not f)
        go true f true = refl
        go true f false = refl
        go false f true = refl
        go false f false = refl

    pub paused-flags : th.state ≡ 7 → (unsent && leb h.option 3) ≡ paused_fitb th h
    paused-flags s = sym (parts ∙ rw (e, unsending (λ z. omega (arith, z, s)), request_on h th (on 7 s)))

    pub paused_other : (th.state ≡ 5 → ⊥) → (th.state ≡ 7 → ⊥) → (unsent && unasked h) ≡ paused_fitb th h
    paused_other s z = sym (parts ∙ rw (e, unsending s, request_off h th (off 7 z)))
