-- Laws of runs: one record more.
use mathlib.Core.Path.{◌≡◌, refl, sym, ap, ◌∙◌}
use mathlib.Core.List.{List, [], ◌∷◌, ◌++◌}
use Prim.Native.Nat.{ℕ, zero, suc, ◌+◌, ◌<◌, ◌≤◌, min}
use native.Mathlib.Omega.{arith}
use native.Mathlib.Numerals.{add-one}
use lib.ListN.{length, take, get_or}
use lib.Seq.{take-suc, take_all, length-take-le}
use lib.Dec.{ltb}
use borrow.Author.Tests.{ltb-true, ltb-false}
use Rattle.lines.proofs.Laws.Logic.{by_test}
use Rattle.calls.specs.declared.call.Request.{Request}
use Rattle.tape.specs.Tapes.{no_request, count_of, record_at, records_of}
use Rattle.tape.proofs.Laws.Tapes.{length_records, record_in}
use Rattle.kernel.specs.declared.Kernel.{Kernel}
use Rattle.std.specs.Prelude.{if◌then◌else◌}
use Rattle.numbers.specs.Numbers.{nobody}
use Rattle.calls.specs.Statuses as Statuses
use mathlib.Core.Bool.{Bool, false}
use Rattle.kernel.specs.Answers.{answer_of}
use Rattle.kernel.specs.General.{step, unsound, call}
use Rattle.kernel.specs.Sound.{soundb, Sound}
use Rattle.tape.specs.Replies.{refusal, replied, replied_each}
use Rattle.kernel.specs.Runs.{after_record, after_records, reply_of, reply_to, replied_all}
use Rattle.kernel.proofs.Laws.Sound.{passes}

after_last : (k : Kernel) (ms : List ℕ) (rs : List Request) (r : Request) → after_records k ms (rs ++ (r ∷ [])) ≡ after_record (after_records k ms rs) ms r
unfolding after_records
after_last k ms [] r = refl
after_last k ms (x ∷ rs) r = after_last (after_record k ms x) ms rs r

-- one record more of a tape
pub after_more : (k : Kernel) (ms bytes : List ℕ) (i : ℕ) → i < count_of bytes
    → after_records k ms (take (i + 1) (records_of bytes)) ≡ after_record (after_records k ms (take i (records_of bytes))) ms (record_at bytes i)
after_more k ms bytes i h =
    let n = length_records bytes in
    rw add-one
    (ap (after_records k ms) (take-suc (records_of bytes) i no_request (omega (arith, n, h)))
    ∙ after_last k ms (take i (records_of bytes)) (get_or (records_of bytes) i no_request)
    ∙ ap (after_record (after_records k ms (take i (records_of bytes))) ms) (record_in bytes i no_request h))

-- as many records as the smaller of two numbers
pub take_smaller : (most : ℕ) (bytes : List ℕ) → take (min most (count_of bytes)) (records_of bytes) ≡ take most (records_of bytes)
take_smaller most bytes =
    let n = length_records bytes in
    by_test (ltb most (count_of bytes))
    (λ w. let l = ltb-true most (count_of bytes) w in ap (λ (m : ℕ). take m (records_of bytes)) (let e : min most (count_of bytes) ≡ most = omega (arith, l) in e))
    (λ w. let l = ltb-false most (count_of bytes) w in
    take_all (min most (count_of bytes)) (records_of bytes) (omega (arith, n, l)) ∙ sym (take_all most (records_of bytes) (omega (arith, n, l))))

-- on unsound tables each record answers 0x100 and changes nothing
unsound_same : (k : Kernel) (ms : List ℕ) (r : Request) → soundb k ≡ false → after_record k ms r ≡ k
unfolding after_record call unsound
unsound_same k ms r e = ap (λ (b : Bool). (if b then answer_of (step k r ms) else unsound k).kernel) e

pub unsound-all : (k : Kernel) (ms : List ℕ) (rs : List Request) → soundb k ≡ false → after_records k ms rs ≡ k
unfolding after_records
unsound-all k ms [] e = refl
unsound-all k ms (r ∷ rs) e = ap (λ (x : Kernel). after_records x ms rs) (unsound_same k ms r e) ∙ unsound-all k ms rs e

-- on sound ones it is the step
pub sound_record : (k : Kernel) (ms : List ℕ) (r : Request) → Sound k → (step k r ms).kernel ≡ after_record k ms r
unfolding after_record call answer_of
sound_record k ms r S = sym (ap (λ (b : Bool). (if b then answer_of (step k r ms) else unsound k).kernel) (passes k S))

-- ---- replies
-- the last reply stands behind the others
replied_last : (k : Kernel) (ms : List ℕ) (rs : List Request) (r : Request) (i : ℕ) (out : List ℕ)
    → replied_all k ms (rs ++ (r ∷ [])) i out ≡ replied (replied_all k ms rs i out) (length rs + i) (reply_to (after_records k ms rs) ms r)
unfolding after_records replied_all
replied_last k ms [] r i out = ap (λ (n : ℕ). replied out n (reply_to k ms r)) (let e : i ≡ 0 + i = omega arith in e)
replied_last k ms (x ∷ rs) r i out =
    replied_last (after_record k ms x) ms rs r (i + 1) (replied out i (reply_to k ms x))
    ∙ ap (λ (n : ℕ). replied (replied_all (after_record k ms x) ms rs (i + 1) (replied out i (reply_to k ms x))) n (reply_to (after_records (after_record k ms x) ms rs) ms r)) (omega arith)

-- one record more of a tape
pub replied_more : (k : Kernel) (ms bytes : List ℕ) (i : ℕ) (out : List ℕ) → i < count_of bytes
    → replied_all k ms (take (i + 1) (records_of bytes)) 0 out
    ≡ replied (replied_all k ms (take i (records_of bytes)) 0 out) i (reply_to (after_records k ms (take i (records_of bytes))) ms (record_at bytes i))
replied_more k ms bytes i out h =
    let n = length_records bytes in
    let l : length (take i (records_of bytes)) + 0 ≡ i = (let t = length-take-le i (records_of bytes) (omega (arith, n, h)) in omega (arith, t)) in
    rw add-one
    (ap (λ (rs : List Request). replied_all k ms rs 0 out) (take-suc (records_of bytes) i no_request (omega (arith, n, h)))
    ∙ replied_last k ms (take i (records_of bytes)) (get_or (records_of bytes) i no_request) 0 out
    ∙ (λ j. replied (replied_all k ms (take i (records_of bytes)) 0 out) (l j) (reply_to (after_records k ms (take i (records_of bytes))) ms (record_in bytes i no_request h j))))

-- on sound tables the reply is the step's
pub sound_reply : (k : Kernel) (ms : List ℕ) (r : Request) → Sound k → reply_of (answer_of (step k r ms)) ≡ reply_to k ms r
unfolding reply_to call
sound_reply k ms r S = sym (ap (λ (b : Bool). reply_of (if b then answer_of (step k r ms) else unsound k)) (passes k S))

-- on unsound ones it says so
unsound_reply : (k : Kernel) (ms : List ℕ) (r : Request) → soundb k ≡ false → reply_to k ms r ≡ refusal Statuses.tables_unsound nobody
unfolding reply_to reply_of call unsound refusal
unsound_reply k ms r e = ap (λ (b : Bool). reply_of (if b then answer_of (step k r ms) else unsound k)) e

-- and so every reply to the records of a tape
pub unsound_replies : (k : Kernel) (ms bytes out : List ℕ) (n : ℕ) → soundb k ≡ false → n ≤ count_of bytes
    → replied_each out n (refusal Statuses.tables_unsound nobody) ≡ replied_all k ms (take n (records_of bytes)) 0 out
unfolding replied_each replied_all
unsound_replies k ms bytes out zero e h = refl
unsound_replies k ms bytes out (suc i) e h =
    let before = unsound_replies k ms bytes out i e (omega (arith, h)) in
    let reply = sym (unsound_reply k ms (record_at bytes i) e) ∙ ap (λ (x : Kernel). reply_to x ms (record_at bytes i)) (sym (unsound-all k ms (take i (records_of bytes)) e)) in
    (λ j. replied (before j) i (reply j))
    ∙ sym (replied_more k ms bytes i out (omega (arith, h)))
    ∙ ap (λ (n : ℕ). replied_all k ms (take n (records_of bytes)) 0 out) (add-one i)
