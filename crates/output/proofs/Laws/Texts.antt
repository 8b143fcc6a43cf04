-- Laws of text in a buffer: a byte that finds room or not, texts one after the other, and a text that finds room.
use mathlib.Core.Path.{◌≡◌, refl, sym, ap, ap₂, ◌∙◌}
use mathlib.Core.List.{List, [], ◌∷◌, ◌++◌, append_assoc}
use mathlib.Core.Bool.{Bool, true, false}
use Prim.Native.Nat.{ℕ, suc, ◌+◌, ◌≤◌, ◌<◌, min}
use native.Mathlib.Omega.{arith}
use lib.ListN.{length, take, drop, set, length-set}
use lib.Seq.{sets, sets-eq, set_out, drop-drop}
use borrow.Rule.Slice.PartMut.{put_mid}
use lib.Dec.{ltb}
use borrow.Author.Tests.{lt-ltb, le-ltb, ltb-true, ltb-false}
use Rattle.output.specs.declared.Writer.{Writer}
use Rattle.output.specs.Texts.{place_in, byte_end, text_end, text_in, Put, Puts, TextClaims}

-- ---- where a byte goes
pub place_room : (size at : ℕ) → at < size → place_in size at ≡ at
unfolding place_in
place_room size at h = rw (lt-ltb at size h)

pub place_full : (size at : ℕ) → size ≤ at → place_in size at ≡ 0
unfolding place_in
place_full size at h = rw (le-ltb at size h)

-- a position past the buffer counts as a full buffer
place_least : (size at : ℕ) → place_in size (min at size) ≡ place_in size at
place_least size at = go (ltb at size) refl
  where
    go : (b : Bool) → ltb at size ≡ b → place_in size (min at size) ≡ place_in size at
    go true q = let h = ltb-true at size q in ap (place_in size) (let e : min at size ≡ at = omega (arith, h) in e)
    go false q = let h = ltb-false at size q in place_full size (min at size) (omega (arith, h)) ∙ sym (place_full size at h)

byte_least : (size at : ℕ) → byte_end size (min at size) ≡ byte_end size at
unfolding byte_end
byte_least size at = ap (λ (k : ℕ). min (k + 1) size) (place_least size at)

end_least : (size at : ℕ) (bs : List ℕ) → text_end size (min at size) bs ≡ text_end size at bs
unfolding text_end
end_least size at [] = omega arith
end_least size at (b ∷ bs) = ap (λ (k : ℕ). text_end size k bs) (byte_least size at)

in_least : (buf : List ℕ) (at : ℕ) (bs : List ℕ) → text_in buf (min at (length buf)) bs ≡ text_in buf at bs
unfolding text_in
in_least buf at [] = refl
in_least buf at (b ∷ bs) = ap₂ (λ (k j : ℕ). text_in (set buf k b) j bs) (place_least (length buf) at) (byte_least (length buf) at)

-- ---- texts one after the other
pub length_in : (buf : List ℕ) (at : ℕ) (bs : List ℕ) → length (text_in buf at bs) ≡ length buf
unfolding text_in
length_in buf at [] = refl
length_in buf at (b ∷ bs) = length_in (set buf (place_in (length buf) at) b) (byte_end (length buf) at) bs ∙ length-set buf (place_in (length buf) at) b

end-append : (size at : ℕ) (xs ys : List ℕ) → text_end size at (xs ++ ys) ≡ text_end size (text_end size at xs) ys
unfolding text_end
end-append size at [] ys = sym (end_least size at ys)
end-append size at (x ∷ xs) ys = end-append size (byte_end size at) xs ys

in-append : (buf : List ℕ) (at : ℕ) (xs ys : List ℕ) → text_in buf at (xs ++ ys) ≡ text_in (text_in buf at xs) (text_end (length buf) at xs) ys
unfolding text_in text_end
in-append buf at [] ys = sym (in_least buf at ys)
in-append buf at (x ∷ xs) ys =
    let p = place_in (length buf) at in
    let q = byte_end (length buf) at in
    in-append (set buf p x) q xs ys ∙ ap (λ (k : ℕ). text_in (text_in (set buf p x) q xs) (text_end k q xs) ys) (length-set buf p x)

pub put-append : {a b c : List ℕ} {at r s : ℕ} {xs ys : List ℕ} → Put a at xs b r → Put b r ys c s → Put a at (xs ++ ys) c s
put-append {a} {b} {c} {at} {r} {s} {xs} {ys} p q =
    let l : length b ≡ length a = ap length p.bytes ∙ length_in a at xs in
    record {
      end = q.end ∙ ap₂ (λ (n k : ℕ). text_end n k ys) l p.end ∙ sym (end-append (length a) at xs ys);
      bytes = q.bytes ∙ ap₂ (λ (u : List ℕ) (k : ℕ). text_in u k ys) p.bytes p.end ∙ sym (in-append a at xs ys);
      within = q.within;
    }

-- the same of a writer's buffer
pub puts-append : {P : Type 0} {u v w : Writer P} {xs ys : List ℕ} → Puts u xs v → Puts v ys w → Puts u (xs ++ ys) w
puts-append p q = record { put = put-append p.put q.put; lent = q.lent ∙ p.lent }

-- ---- one text
pub put_none : (buf : List ℕ) (at : ℕ) → Put buf at [] buf (min at (length buf))
unfolding text_end text_in
put_none buf at = record { end = refl; bytes = refl; within = omega arith }

-- a position behind a text is one behind which nothing more has gone in yet
pub put-start : {a b : List ℕ} {at r : ℕ} {xs : List ℕ} → Put a at xs b r → Put b r [] b r
unfolding text_end text_in
put-start {a} {b} {at} {r} p = let w = p.within in record { end = omega (arith, w); bytes = refl; within = w }

-- a byte that finds room, one that finds the buffer full, and one that finds a buffer of no size
pub byte_room : (buf : List ℕ) (at b : ℕ) → at < length buf → Put buf at (b ∷ []) (set buf at b) (at + 1)
unfolding text_end text_in byte_end
byte_room buf at b h =
    let e = place_room (length buf) at h in
    record { end = rw e (omega arith); bytes = rw e; within = rw length-set (omega arith) }

pub byte_full : (buf : List ℕ) (at b : ℕ) → length buf ≤ at → 0 < length buf → Put buf at (b ∷ []) (set buf 0 b) 1
unfolding text_end text_in byte_end
byte_full buf at b h l =
    let e = place_full (length buf) at h in
    record { end = rw e (omega arith); bytes = rw e; within = rw length-set (omega arith) }

pub byte_none : (buf : List ℕ) (at b : ℕ) → length buf ≤ 0 → Put buf at (b ∷ []) buf 0
unfolding text_end text_in byte_end
byte_none buf at b h =
    record { end = omega arith; bytes = sym (set_out buf (place_in (length buf) at) b (omega arith)); within = omega arith }

-- a text that finds room stands behind the text before it
pub end_room : (size at : ℕ) (bs : List ℕ) → at + length bs ≤ size → text_end size at bs ≡ at + length bs
unfolding text_end byte_end
end_room size at [] h = omega arith
end_room size at (b ∷ bs) h =
    let l : at + suc (length bs) ≤ size = h in
    let e : min (place_in size at + 1) size ≡ suc at = let p = place_room size at (omega arith) in omega (arith, p) in
    let r = end_room size (suc at) bs (omega arith) in
    ap (λ (k : ℕ). text_end size k bs) e ∙ r ∙ omega arith

in_sets : (buf : List ℕ) (at : ℕ) (bs : List ℕ) → at + length bs ≤ length buf → text_in buf at bs ≡ sets buf at bs
unfolding text_in byte_end
in_sets buf at [] h = refl
in_sets buf at (b ∷ bs) h =
    let l : at + suc (length bs) ≤ length buf = h in
    let p = place_room (length buf) at (omega arith) in
    let e : min (place_in (length buf) at + 1) (length buf) ≡ suc at = omega (arith, p) in
    ap₂ (λ (k j : ℕ). text_in (set buf k b) j bs) p e ∙ in_sets (set buf at b) (suc at) bs (rw length-set (omega arith))

pub in_room : (buf : List ℕ) (at : ℕ) (bs : List ℕ) → at + length bs ≤ length buf → text_in buf at bs ≡ take at buf ++ bs ++ drop (at + length bs) buf
in_room buf at bs h = in_sets buf at bs h ∙ sets-eq bs buf at h

-- the same of a buffer into which the text was copied whole
pub put_room : {buf ys bs : List ℕ} (at k : ℕ) → ys ≡ bs → k ≡ length bs → at + length bs ≤ length buf
    → Put buf at bs (put_mid at k buf ys) (at + length bs)
put_room {buf} {ys} {bs} at k e q h =
    let n = length_in buf at bs in
    let s : text_in buf at bs ≡ take at buf ++ (bs ++ drop (at + length bs) buf) = in_room buf at bs h ∙ append_assoc (take at buf) bs (drop (at + length bs) buf) in
    rw (e, q, drop-drop (length bs) at buf)
    (record { end = sym (end_room (length buf) at bs h); bytes = sym s; within = rw (← s, n) h })

pub texts : TextClaims
texts = record { append = put-append; room_end = end_room; room_bytes = in_room }
