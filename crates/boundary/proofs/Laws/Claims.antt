-- The claims of calls through a lent block.
use mathlib.Core.Path.{◌≡◌, refl, sym, ap, ◌∙◌, subst}
use mathlib.Core.List.{List, [], ◌∷◌}
use mathlib.Core.Bool.{Bool, true, false}
use Prim.Native.Nat.{ℕ, ◌*◌, ◌≤◌, min}
use native.Mathlib.Omega.{arith}
use native.Mathlib.Nat.{not-suc-le-zero}
use lib.ListN.{length, take}
use lib.Dec.{eqb, ltb}
use borrow.Author.Tests.{eq-eqb}
use Rattle.std.specs.Prelude.{if◌then◌else◌}
use Rattle.lines.proofs.Laws.Logic.{by_test, by_choice, never}
use Rattle.words.specs.Words.{Byte}
use Rattle.calls.specs.Statuses as Statuses
use Rattle.tape.specs.Replies.{refusal, reply_size}
use Rattle.tape.specs.Tapes.{refusedb, count_of, records_of, messages_of}
use Rattle.numbers.specs.Numbers.{nobody}
use Rattle.kernel.specs.declared.Kernel.{Kernel}
use Rattle.kernel.specs.declared.run.Ran.{Ran}
use Rattle.kernel.specs.Tables.{started}
use Rattle.kernel.specs.Sound.{soundb}
use Rattle.kernel.specs.Claims.{doneb}
use Rattle.kernel.specs.Runs.{reply_of, ran, ran_replies}
use Rattle.kernel.proofs.Laws.Claims as General
use Rattle.kernel.proofs.Laws.Sound.{passes, started_sound}
use Rattle.kernel.proofs.Laws.Runs.{unsound-all}
use Rattle.codec.specs.Layout.{state_bytes}
use Rattle.codec.specs.State.{kernel_of, flags_fitb}
use Rattle.codec.specs.Bytes.{bytes_of}
use Rattle.codec.specs.Restored.{All, Fits}
use Rattle.codec.proofs.Laws.Restored.{block_claims}
use Rattle.apachimo.specs.Library.{block_refusal, start_block, call_reply, call_block, run_refusal, run_block, run_replies}
use Rattle.apachimo.proofs.Laws.Library.{block_sized}
use Rattle.claims.specs.Lists.{Made, answer, next, after}
use Rattle.claims.proofs.Laws.Claims.{first_come_first_served}
use Rattle.boundary.specs.Calls.{Lent, Passed, block_after_call, block_after_calls, block_replies, replies_to, made_of}
use Rattle.boundary.specs.Claims.{Starts, Calls, Runs, BoundaryClaims}
use Rattle.boundary.proofs.Laws.Fits.{fits_sound, started_fits, call_fits}
use Rattle.boundary.proofs.Laws.Tapes.{made-words, ran_tables, ran_replies_lem}

-- ---- choices
chosen : {A : Type 0} (b : Bool) (x y : A) → b ≡ true → (if b then x else y) ≡ x
chosen b x y e = ap (λ (z : Bool). if z then x else y) e

passed : {A : Type 0} (b : Bool) (x y : A) → b ≡ false → (if b then x else y) ≡ y
passed b x y e = ap (λ (z : Bool). if z then x else y) e

-- a reason that is another number than 0 was not given
not_given : {P : Type 0} (n : ℕ) → 1 ≤ n → n ≡ 0 → P
not_given n h e = absurd (not-suc-le-zero (let y : 1 ≤ 0 = omega (arith, h, e) in y))

-- ---- blocks that are taken
module _ (b : List ℕ) (L : Lent b) where
  lent_sized : length b ≡ state_bytes
  lent_sized = block_sized b L.taken

  lent-flags : flags_fitb b ≡ true
  unfolding block_refusal
  lent-flags =
      by_test (flags_fitb b) (λ e. e)
      (λ e. not_given Statuses.tables_unsound (omega arith)
      (sym (chosen (eqb (length b) state_bytes) (if flags_fitb b then 0 else Statuses.tables_unsound) Statuses.size_error (eq-eqb (length b) state_bytes lent_sized) ∙ passed (flags_fitb b) 0 Statuses.tables_unsound e) ∙ L.taken))

  lent_fits : Fits (kernel_of b)
  lent_fits = block_claims.fitted b lent_sized L.bytes

  -- a block of these tables has their bytes
  lent_written : (k : Kernel) → kernel_of b ≡ k → b ≡ bytes_of k
  lent_written k e = sym (block_claims.rewritten b lent_sized L.bytes lent-flags) ∙ ap bytes_of e

-- tables that fit, written to a block
written_lent : (k : Kernel) → Fits k → Lent (bytes_of k)
unfolding block_refusal
written_lent k F =
    record {
      bytes = block_claims.bytes k F;
      taken = chosen (eqb (length (bytes_of k)) state_bytes) (if flags_fitb (bytes_of k) then 0 else Statuses.tables_unsound) Statuses.size_error (eq-eqb (length (bytes_of k)) state_bytes (block_claims.sized k F)) ∙ chosen (flags_fitb (bytes_of k)) 0 Statuses.tables_unsound (block_claims.flagged k F);
    }

-- a block of those tables that is taken
abbrev Holds : Kernel → List ℕ → Type 0
Holds k b = Lent b × (kernel_of b ≡ k)

written_holds : (k : Kernel) → Fits k → Holds k (bytes_of k)
written_holds k F = (written_lent k F, block_claims.restored k F)

-- ---- a start
starts : (b : List ℕ) → length b ≡ state_bytes → Starts b
unfolding start_block
starts b h =
    let x : start_block b ≡ bytes_of started = chosen (eqb (length b) state_bytes) (bytes_of started) b (eq-eqb (length b) state_bytes h) in
    let e : kernel_of (start_block b) ≡ started = ap kernel_of x ∙ block_claims.restored started started_fits in
    record { lent = subst Lent (sym x) (written_lent started started_fits); tables = e; sound = ap soundb e ∙ passes started started_sound }

-- ---- one call
-- a call that is not carried out hands the tables back as they are
refused_same_lem : (k : Kernel) (m : Made) → doneb (answer k m).status ≡ false → next k m ≡ k
unfolding next answer
refused_same_lem k m d = ((General.claims).refused_same k m.request m.messages d).kernel

module _ (b : List ℕ) (L : Lent b) (m : Made) where
  taken : eqb (block_refusal b) 0 ≡ true
  taken = eq-eqb (block_refusal b) 0 L.taken

  call_holds : Passed m → Holds (next (kernel_of b) m) (block_after_call b m)
  unfolding block_after_call call_block next
  call_holds p =
      let k = kernel_of b in
      let a = answer k m in
      by_choice (Holds (next k m)) (eqb (block_refusal b) 0) (if doneb a.status then bytes_of a.kernel else b) b
      (λ e. by_choice (Holds (next k m)) (doneb a.status) (bytes_of a.kernel) b
      (λ d. written_holds (next k m) (call_fits k (lent_fits b L) m p)) (λ d. (L, sym (refused_same_lem k m d))))
      (λ e. never taken e)

  call_reply_lem : call_reply b (answer (kernel_of b) m) ≡ reply_of (answer (kernel_of b) m)
  unfolding call_reply
  call_reply_lem = chosen (eqb (block_refusal b) 0) (reply_of (answer (kernel_of b) m)) (refusal (block_refusal b) nobody) taken

-- ---- lists of calls
calls : (b : List ℕ) → Lent b → (ms : List Made) → All Passed ms → Calls b ms
unfolding block_after_calls block_replies replies_to after
calls b L [] f = record { lent = L; tables = refl; written = lent_written b L (kernel_of b) refl; replies = refl }
calls b L (m ∷ ms) f =
    let h = call_holds b L m f.0 in
    let rest = calls (block_after_call b m) h.0 ms f.1 in
    let e = rest.tables ∙ ap (λ (k : Kernel). after k ms) h.1 in
    record {
      lent = rest.lent;
      tables = e;
      written = lent_written (block_after_calls (block_after_call b m) ms) rest.lent (after (next (kernel_of b) m) ms) e;
      replies = λ i. call_reply_lem b L m i ∷ (rest.replies ∙ ap (λ (k : Kernel). replies_to k ms) h.1) i;
    }

fits_after : (k : Kernel) → Fits k → (ms : List Made) → All Passed ms → Fits (after k ms)
unfolding after
fits_after k F [] f = F
fits_after k F (m ∷ ms) f = fits_after (next k m) (call_fits k F m f.0) ms f.1

-- ---- runs
module _ (b : List ℕ) (L : Lent b) (tape : List ℕ) (f : All Byte tape) (most room : ℕ) (r : run_refusal b tape most room ≡ 0) where
  accepted : refusedb tape ≡ false
  unfolding run_refusal
  accepted =
      by_test (refusedb tape)
      (λ e. not_given Statuses.tape_refused (omega arith)
      (sym (chosen (eqb (length b) state_bytes) _ Statuses.size_error (eq-eqb (length b) state_bytes (lent_sized b L)) ∙ chosen (refusedb tape) Statuses.tape_refused (if ltb room (reply_size * min most (count_of tape)) then Statuses.size_error else if flags_fitb b then 0 else Statuses.tables_unsound) e) ∙ r))
      (λ e. e)

  -- a run that answers another status than 0x00 found the tables unsound, and they stay as they are
  unsound_same : eqb (ran (kernel_of b) tape most).status Statuses.success ≡ false → kernel_of b ≡ (ran (kernel_of b) tape most).kernel
  unfolding ran
  unsound_same =
      let k = kernel_of b in
      let rs = take most (records_of tape) in
      by_choice (λ (x : Ran). eqb x.status Statuses.success ≡ false → k ≡ x.kernel) (refusedb tape) _ _
      (λ e z. refl)
      (λ e z. by_test (soundb k)
      (λ s. never (ap (λ (n : ℕ). eqb n Statuses.success) (chosen (soundb k) Statuses.success Statuses.tables_unsound s)) z)
      (λ s. sym (unsound-all k (messages_of tape) rs s)))

  run_holds : Holds (after (kernel_of b) (made_of tape most)) (run_block b tape most room)
  unfolding run_block
  run_holds =
      let k = kernel_of b in
      let x = ran k tape most in
      let e : x.kernel ≡ after k (made_of tape most) = ran_tables k tape most accepted in
      subst (λ (j : Kernel). Holds j (run_block b tape most room)) e
      (by_choice (Holds x.kernel) (eqb (run_refusal b tape most room) 0) (if eqb x.status Statuses.success then bytes_of x.kernel else b) b
      (λ u. by_choice (Holds x.kernel) (eqb x.status Statuses.success) (bytes_of x.kernel) b
      (λ s. written_holds x.kernel (subst Fits (sym e) (fits_after k (lent_fits b L) (made_of tape most) (made-words tape f most))))
      (λ s. (L, unsound_same s)))
      (λ u. never (eq-eqb (run_refusal b tape most room) 0 r) u))

runs : (b : List ℕ) → Lent b → (tape : List ℕ) → All Byte tape → (most : ℕ) (out : List ℕ) → run_refusal b tape most (length out) ≡ 0 → Runs b tape most out
unfolding run_replies
runs b L tape f most out r =
    let h = run_holds b L tape f most (length out) r in
    record {
      lent = h.0;
      tables = h.1;
      written = lent_written (run_block b tape most (length out)) h.0 (after (kernel_of b) (made_of tape most)) h.1;
      replies = chosen (eqb (run_refusal b tape most (length out)) 0) (ran_replies (kernel_of b) tape most out) _ (eq-eqb (run_refusal b tape most (length out)) 0 r) ∙ ran_replies_lem (kernel_of b) tape most (accepted b L tape f most (length out) r) out;
    }

-- ---- the claims
pub boundary_claims : BoundaryClaims
boundary_claims =
    record {
      starts = starts;
      fits = call_fits;
      calls = calls;
      runs = runs;
      for_library = λ b L s d n ahead t W.
          (let first = first_come_first_served (kernel_of b) (fits_sound (kernel_of b) (lent_fits b L) s) d n ahead t W in
          record {
            calls = λ ms f calm. (first ms calm, calls b L ms f);
            runs = λ tape f most out r calm. (first (made_of tape most) calm, runs b L tape f most out r);
          });
    }
