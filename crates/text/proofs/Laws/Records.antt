-- One record more of a tape: the tables after it, and the text with its own behind that of the records before it.
use mathlib.Core.Path.{◌≡◌, sym, ap, ap₂, subst, ◌∙◌}
use mathlib.Core.List.{List, [], ◌∷◌, ◌++◌, append-nil, append_assoc}
use Prim.Native.Nat.{ℕ, suc, ◌+◌, ◌<◌}
use native.Mathlib.Omega.{arith}
use native.Mathlib.Numerals.{add-one}
use lib.ListN.{length, take, get_or}
use lib.Seq.{take-suc, length-take-le}
use Rattle.calls.specs.declared.call.Request.{Request}
use Rattle.tape.specs.Tapes.{no_request, count_of, record_at, records_of}
use Rattle.tape.proofs.Laws.Tapes.{length_records, record_in}
use Rattle.kernel.specs.declared.Kernel.{Kernel}
use Rattle.kernel.specs.declared.Answer.{Answer}
use Rattle.kernel.specs.General.{call}
use Rattle.kernel.specs.Runs.{after_record, after_records}
use Rattle.kernel.proofs.Laws.Runs.{after_more}
use Rattle.output.specs.declared.Writer.{Writer}
use Rattle.output.specs.Texts.{Put, Puts}
use Rattle.output.proofs.Laws.Texts.{put-append}
use Rattle.text.specs.Records.{records_text}

module _ (f : ℕ → Request → Answer → List ℕ) where
  records_last : (i : ℕ) (k : Kernel) (ms : List ℕ) (rs : List Request) (r : Request)
      → records_text f i k ms (rs ++ (r ∷ [])) ≡ records_text f i k ms rs ++ f (length rs + i) r (call (after_records k ms rs) r ms)
  unfolding records_text after_records
  records_last i k ms [] r = append-nil (f i r (call k r ms)) ∙ ap (λ (n : ℕ). f n r (call k r ms)) (let e : i ≡ 0 + i = omega arith in e)
  records_last i k ms (x ∷ rs) r =
      let here = f i x (call k x ms) in
      let more = records_text f (suc i) (after_record k ms x) ms rs in
      let last = call (after_records (after_record k ms x) ms rs) r ms in
      ap (λ (l : List ℕ). here ++ l) (records_last (suc i) (after_record k ms x) ms rs r)
      ∙ sym (append_assoc here more (f (length rs + suc i) r last))
      ∙ ap (λ (n : ℕ). here ++ more ++ f n r last) (let e : length rs + suc i ≡ suc (length rs) + i = omega arith in e)

  records_more : (k : Kernel) (ms bytes : List ℕ) (i : ℕ) → i < count_of bytes
      → records_text f 0 k ms (take (i + 1) (records_of bytes))
      ≡ records_text f 0 k ms (take i (records_of bytes)) ++ f i (record_at bytes i) (call (after_records k ms (take i (records_of bytes))) (record_at bytes i) ms)
  records_more k ms bytes i h =
      let n = length_records bytes in
      let l : length (take i (records_of bytes)) + 0 ≡ i = (let t = length-take-le i (records_of bytes) (omega (arith, n, h)) in omega (arith, t)) in
      rw add-one
      (ap (records_text f 0 k ms) (take-suc (records_of bytes) i no_request (omega (arith, n, h)))
      ∙ records_last 0 k ms (take i (records_of bytes)) (get_or (records_of bytes) i no_request)
      ∙ ap₂ (λ (n : ℕ) (r : Request). records_text f 0 k ms (take i (records_of bytes)) ++ f n r (call (after_records k ms (take i (records_of bytes))) r ms)) l (record_in bytes i no_request h))

-- the text of i records of a tape is in a buffer, and that of the next, which is carried out on the tables after them, goes in behind it
module _ (k : Kernel) (ms bytes : List ℕ) {i : ℕ} {tables : Kernel} {r : Request} {x : Answer} (h : i < count_of bytes)
    (before : tables ≡ after_records k ms (take i (records_of bytes))) (here : r ≡ record_at bytes i) (answered : x ≡ call tables r ms) where
  same : x ≡ call (after_records k ms (take i (records_of bytes))) (record_at bytes i) ms
  same = answered ∙ (λ j. call (before j) (here j) ms)

  pub next_tables : x.kernel ≡ after_records k ms (take (i + 1) (records_of bytes))
  unfolding after_record
  next_tables = ap (λ (y : Answer). y.kernel) same ∙ sym (after_more k ms bytes i h)

  pub put_record : (f : ℕ → Request → Answer → List ℕ) {a b c : List ℕ} {at p q : ℕ} → Put a at (records_text f 0 k ms (take i (records_of bytes))) b p
      → Put b p (f i r x) c q → Put a at (records_text f 0 k ms (take (i + 1) (records_of bytes))) c q
  put_record f {a} {b} {c} {at} {p} {q} u v =
      let w = subst (λ (t : Request). Put b p (f i t x) c q) here v in
      rw (records_more f k ms bytes i h) (put-append u (subst (λ (y : Answer). Put b p (f i (record_at bytes i) y) c q) same w))

  -- the same, of a writer's buffer
  pub puts_record : (f : ℕ → Request → Answer → List ℕ) {P : Type 0} {u v w : Writer P} → Puts u (records_text f 0 k ms (take i (records_of bytes))) v
      → Puts v (f i r x) w → Puts u (records_text f 0 k ms (take (i + 1) (records_of bytes))) w
  puts_record f p q = record { put = put_record f p.put q.put; lent = q.lent ∙ p.lent }
