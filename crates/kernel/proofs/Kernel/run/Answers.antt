use Rattle.std.specs.Prelude.{Option, Some, None}
use mathlib.Core.Path.{◌≡◌, refl, sym, ap, ◌∙◌, subst}
use mathlib.Core.List.{List}
use mathlib.Core.Bool.{Bool, true, false, not}
use Prim.Native.Nat.{ℕ, ◌+◌, ◌<◌, ◌≤◌, min}
use native.Mathlib.Omega.{arith}
use lib.ListN.{length, take}
use Rattle.scheduler.proofs.Laws.Threads.{length_mapped}
use Rattle.numbers.specs.declared.ThreadId.{ThreadId}
use Rattle.calls.specs.Statuses as Statuses
use Rattle.calls.specs.Calls.{decoded}
use Rattle.calls.specs.declared.call.Request.{Request}
use Rattle.calls.specs.declared.call.Call.{Call}
use Rattle.tape.specs.declared.replies.Reply.{Reply}
use Rattle.tape.specs.Replies.{refusal, replied, replied_each}
use Rattle.tape.specs.Tapes.{refusedb, count_of, record_at, records_of, messages_of}
use Rattle.tape.proofs.Laws.Tapes.{count_most, lent_within, lent-words, lent_length}
use Rattle.kernel.specs.declared.Kernel.{Kernel}
use Rattle.kernel.specs.declared.Answer.{Answer}
use Rattle.kernel.specs.Answers.{Outcome, answer_of, refused}
use Rattle.kernel.specs.Kinds.{size_of, table_of}
use Rattle.kernel.specs.Sound.{soundb, Sound}
use Rattle.kernel.specs.Edits.{guarded}
use Rattle.kernel.specs.Chains.{chained}
use Rattle.kernel.specs.General.{effect_of, step}
use Rattle.kernel.specs.Runs.{after_record, after_records, ran, reply_of, reply_to, replied_all, ran_replies}
use Rattle.kernel.proofs.Laws.Arms.{on_unknown, on_known}
use Rattle.kernel.proofs.Laws.Runs.{after_more, take_smaller, unsound-all, sound_record, replied_more, sound_reply, unsound_replies}
use Rattle.kernel.proofs.Laws.Objects.{by_kind}
use Rattle.kernel.proofs.Laws.Sound.{tested}
use Rattle.kernel.proofs.Laws.Claims.{step_sound}
use Rattle.kernel.proofs.Kernel.run.Invariants.{current, Carried}
use Rattle.kernel.proofs.Kernel.run.Goals as goal
use Rattle.kernel.proofs.Kernel.run.Goals.{then-in_b, else-in_b}

-- ---- one record more
module _ (first : Kernel) (bytes out : List ℕ) {end i : ℕ} {now : Kernel} {replies : List ℕ} {next : ThreadId} (C : Carried first bytes out end i now replies next) (t : i < end) (r : Request) (read : r ≡ record_at bytes i) where
  abbrev messages : List ℕ
  messages = messages_of bytes

  more : i < count_of bytes
  more = let h = C.counted in omega (arith, t, h)

  -- its outcome is that of the step
  one_more : {o : Outcome} → o ≡ step now r messages → {a : Answer} → a ≡ answer_of o → {y : Reply} → y ≡ reply_of a
      → {after : List ℕ} → after ≡ replied replies i y → {n : ThreadId} → n ≡ a.next → Carried first bytes out end (i + 1) a.kernel after n
  unfolding answer_of
  one_more e f g p h =
      let kept = ap (λ (x : Answer). x.kernel) f ∙ ap (λ (x : Outcome). x.kernel) e in
      let reply =
      g ∙ ap reply_of f ∙ ap (λ (x : Outcome). reply_of (answer_of x)) e ∙ sound_reply now messages r C.sound
      ∙ (λ j. reply_to (C.tables j) messages (read j)) in
      record {
        within = omega (arith, t);
        counted = C.counted;
        few = C.few;
        sound = subst Sound (sym kept) (step_sound now C.sound r messages);
        tables = kept ∙ sound_record now messages r C.sound ∙ (λ j. after_record (C.tables j) messages (read j)) ∙ sym (after_more first messages bytes i more);
        written = p ∙ (λ j. replied (C.written j) i (reply j)) ∙ sym (replied_more first messages bytes i out more);
        runner = h ∙ ap (λ (x : Answer). x.next) f ∙ sym (ap (λ (x : Answer). x.kernel.scheduler.running) f);
      }

  -- it is for no known call
  unknown : {d : Option Call} → d ≡ decoded r → d ≡ None → {y : Reply} → y ≡ refusal Statuses.unknown_call next.0
      → {after : List ℕ} → after ≡ replied replies i y → Carried first bytes out end (i + 1) now after next
  unfolding answer_of refused reply_of refusal
  unknown d u y p = one_more (on_unknown now r messages d u) refl (y ∙ ap (λ (n : ThreadId). refusal Statuses.unknown_call n.0) C.runner) p C.runner

  -- a known call, with the words that are lent
  known : (call : Call) {d : Option Call} → d ≡ decoded r → d ≡ Some call → {words : List ℕ} → words ≡ messages
      → {a : Answer} → a ≡ answer_of (guarded now (chained now r.caller call words) (effect_of now call words)) → {y : Reply} → y ≡ reply_of a
      → {after : List ℕ} → after ≡ replied replies i y → {n : ThreadId} → n ≡ a.next → Carried first bytes out end (i + 1) a.kernel after n
  known call d u lent f y p n =
      one_more (on_known now r messages d u) (f ∙ ap (λ (w : List ℕ). answer_of (guarded now (chained now r.caller call w) (effect_of now call w))) lent) y p n

-- ---- after the last record the tables and the replies are those of the run
module _ (first : Kernel) (bytes out : List ℕ) (most : ℕ) {end i : ℕ} {now : Kernel} {replies : List ℕ} {next : ThreadId} (C : Carried first bytes out end i now replies next) (over : end ≤ i) (e : end ≡ min most (count_of bytes)) (accepted : refusedb bytes ≡ false) where
  all : take i (records_of bytes) ≡ take most (records_of bytes)
  all = let h = C.within in ap (λ (n : ℕ). take n (records_of bytes)) (let q : i ≡ end = omega (arith, h, over) in q ∙ e) ∙ take_smaller most bytes

  tables-ran : soundb first ≡ true → record { status = 0; carried = end; kernel = now } ≡ ran first bytes most
  unfolding ran
  tables-ran s =
      let k = C.tables ∙ ap (after_records first (messages_of bytes)) all in
      rw (accepted, s) (λ j. record { status = 0; carried = e j; kernel = k j })

  replies-ran : replies ≡ ran_replies first bytes most out
  unfolding ran_replies
  replies-ran = rw accepted (C.written ∙ ap (λ (l : List Request). replied_all first (messages_of bytes) l 0 out) all)

pub returns-then-is_refused : goal.returns-then-is_refused
unfolding ran ran_replies
returns-then-is_refused c = rw (← c.is_refused.ensures, c.if-is_refused.true) (record { value = refl; replies_after = refl })

pub returns-then-not-is_sound : goal.returns-then-not-is_sound
unfolding ran ran_replies
returns-then-not-is_sound c =
    let a = c.args in
    let b = a.bytes.now in
    let w = c.wanted-end in
    let s : w.result ≡ min a.most (count_of b) = w.ensures in
    let u = sym c.is_sound.ensures ∙ c.if-not-is_sound.true in
    let k = sym (unsound-all a.self (messages_of b) (take a.most (records_of b)) u) in
    let t = ap (λ (n : ℕ). take n (records_of b)) s ∙ take_smaller a.most b in
    rw (← c.is_refused.ensures, c.if-is_refused.false, u) (record {
      value = (λ j. record { status = Statuses.tables_unsound; carried = s j; kernel = k j });
      replies_after = c.put_replies.ensures ∙ ap (replied_each a.replies.now w.result) c.refusal.ensures
          ∙ unsound_replies a.self (messages_of b) b a.replies.now w.result u (omega (arith, s))
          ∙ (λ j. replied_all a.self (messages_of b) (t j) 0 a.replies.now);
    })

pub loop-i-init : goal.loop-i-init
unfolding answer_of refused after_records replied_all
loop-i-init c =
    let a = c.args in
    let b = a.bytes.now in
    let n : c.wanted-end.result ≤ count_of b = (let s = c.wanted-end.ensures in omega (arith, s)) in
    let w = count_most b in
    let u = sym c.is_sound.ensures ∙ c.if-not-is_sound.false in
    let k = sym (ap (λ (x : Answer). x.kernel) c.refused-a.ensures) in
    let sound = tested a.self (record {
      records = search (length_mapped, c.well_formed);
      held = search (length_mapped, c.well_formed);
      objects = by_kind (λ d. length (table_of d a.self) ≡ size_of d) (search (length_mapped, c.well_formed)) (search (length_mapped, c.well_formed)) (search (length_mapped, c.well_formed)) (search (length_mapped, c.well_formed));
    }) u in
    record {
      within = omega arith;
      counted = n;
      few = omega (arith, n, w);
      sound = subst Sound k sound;
      tables = sym k;
      written = refl;
      runner = ap (λ (x : Kernel). x.scheduler.running) k;
    }

pub loop-i-preserved-in_default : goal.loop-i-preserved-in_default
loop-i-preserved-in_default c =
    let a = c.args in
    unknown a.self a.bytes.now a.replies.now c.loop-i.invariant c.loop-i-test.true c.record_at-r.result c.record_at-r.ensures c.decode.ensures c.in_default.is c.refusal-in_default.ensures c.put_reply.ensures

-- ---- the words of the messages, as they are lent
pub slice_bounds-words-end : goal.slice_bounds-words-end
slice_bounds-words-end c = lent_within c.args.bytes.now _ _ c.messages-words.ensures c.message_count.ensures

pub slice_bounds-messages-end : goal.slice_bounds-messages-end
slice_bounds-messages-end c = lent_length c.args.bytes.now _ _ c.messages-words.ensures c.message_count.ensures

-- ---- a known call, on the tables of the one answer or the other
pub loop-i-preserved : goal.loop-i-preserved
loop-i-preserved c =
    let a = c.args in
    let l = c.loop-i in
    let r = c.record_at-r in
    let after = c.if-in_b in
    let before : Bool → Type 0 = λ v. Carried a.self a.bytes.now a.replies.now c.wanted-end.result l.i (current v l.a l.b).kernel l.replies l.next in
    let then : Bool → Type 0 = λ v. Carried a.self a.bytes.now a.replies.now c.wanted-end.result (l.i + 1) (current (not v) after.a after.b).kernel after.replies after.next in
    let lent = lent-words a.bytes.now _ _ c.messages-words.ensures c.message_count.ensures in
    elim after.branch [
      | then-in_b w ↦ subst then (sym w.if-in_b.true)
          (known a.self a.bytes.now a.replies.now (subst before w.if-in_b.true l.invariant) c.loop-i-test.true r.result r.ensures c.in-Some.call c.decode.ensures c.in-Some.is lent
          (w.a-is ∙ w.step-a.ensures) (w.from.ensures ∙ ap reply_of (sym w.a-is)) (w.replies-is ∙ w.put_reply-then-in_b.ensures) (w.next-is ∙ ap (λ (x : Answer). x.next) (sym w.a-is)))
      | else-in_b w ↦ subst then (sym w.if-in_b.false)
          (known a.self a.bytes.now a.replies.now (subst before w.if-in_b.false l.invariant) c.loop-i-test.true r.result r.ensures c.in-Some.call c.decode.ensures c.in-Some.is lent
          (w.b-is ∙ w.step-b.ensures) (w.from-else-in_b.ensures ∙ ap reply_of (sym w.b-is)) (w.replies-is ∙ w.put_reply-else-in_b.ensures) (w.next-is ∙ ap (λ (x : Answer). x.next) (sym w.b-is)))
    ]

-- ---- the end: the tables of the answer that was last
pub returns-then-in_b-2 : goal.returns-then-in_b-2
returns-then-in_b-2 c =
    let a = c.args in
    let l = c.loop-i in
    let C = subst (λ (v : Bool). Carried a.self a.bytes.now a.replies.now c.wanted-end.result l.i (current v l.a l.b).kernel l.replies l.next) c.if-in_b-2.true l.invariant in
    let r = sym c.is_refused.ensures ∙ c.if-is_refused.false in
    let s = sym c.is_sound.ensures ∙ c.if-not-is_sound.false in
    record {
      value = tables-ran a.self a.bytes.now a.replies.now a.most C c.loop-i-test.false c.wanted-end.ensures r s;
      replies_after = replies-ran a.self a.bytes.now a.replies.now a.most C c.loop-i-test.false c.wanted-end.ensures r;
    }

pub returns-else-in_b-2 : goal.returns-else-in_b-2
returns-else-in_b-2 c =
    let a = c.args in
    let l = c.loop-i in
    let C = subst (λ (v : Bool). Carried a.self a.bytes.now a.replies.now c.wanted-end.result l.i (current v l.a l.b).kernel l.replies l.next) c.if-in_b-2.false l.invariant in
    let r = sym c.is_refused.ensures ∙ c.if-is_refused.false in
    let s = sym c.is_sound.ensures ∙ c.if-not-is_sound.false in
    record {
      value = tables-ran a.self a.bytes.now a.replies.now a.most C c.loop-i-test.false c.wanted-end.ensures r s;
      replies_after = replies-ran a.self a.bytes.now a.replies.now a.most C c.loop-i-test.false c.wanted-end.ensures r;
    }
