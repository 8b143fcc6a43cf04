-- Laws of messages in the lent area.
use mathlib.Core.Path.{◌≡◌, refl, sym, ap, ◌∙◌}
use mathlib.Core.List.{List, [], ◌∷◌, ◌++◌}
use Prim.Native.Nat.{ℕ, zero, suc, ◌-◌, ◌≤◌, min}
use native.Mathlib.Omega.{arith}
use lib.ListN.{length, take, drop, replicate, length-take, length-drop}
use lib.Dec.{ltb}
use borrow.Author.Tests.{ltb-true, ltb-false}
use Rattle.std.proofs.lemmas.List.{take-take, take_all, take_min, drop_all}
use Rattle.lines.specs.Lines.{pad}
use Rattle.lines.proofs.Laws.Logic.{by_test}
use Rattle.lines.proofs.Laws.Lines.{pad_none, pad-take}
use Rattle.calls.specs.Messages.{message_in}

-- words written over the first of n zeros
pad_zeros : (n : ℕ) (xs : List ℕ) → length xs ≤ n → xs ++ drop (length xs) (replicate n 0) ≡ pad n xs
unfolding pad
pad_zeros zero [] h = refl
pad_zeros zero (x ∷ xs) h = absurd (omega arith)
pad_zeros (suc n) [] h = pad_none (suc n)
pad_zeros (suc n) (x ∷ xs) h = ap {B = List ℕ} (λ r. x ∷ r) (pad_zeros n xs (omega (arith, h)))

-- the part of the area that a message takes, written over sixteen zeros
pub message_copied : (area : List ℕ) (index words start count : ℕ) → start ≡ min (length area) index → count ≡ min (min words 16) (length area - start) → take count (drop start area) ++ drop count (replicate 16 0) ≡ message_in area index words
unfolding message_in
message_copied area index words start count s k =
    let e : drop start area ≡ drop index area =
    by_test (ltb index (length area))
    (λ t. let h = ltb-true index (length area) t in let j : start ≡ index = omega (arith, h, s) in ap (λ n. drop n area) j)
    (λ t. let h = ltb-false index (length area) t in drop_all start area (omega (arith, h, s)) ∙ sym (drop_all index area (omega (arith, h)))) in
    let xs = drop start area in
    let l : length xs ≡ length area - start = length-drop start area in
    let k' : count ≡ min (min words 16) (length xs) = omega (arith, l, k) in
    let n : length (take count xs) ≡ count = length-take count xs ∙ omega (arith, k') in
    let q : take count xs ≡ take (min words 16) xs = ap (λ i. take i xs) k' ∙ take_min (min words 16) xs in
    let p : take count xs ≡ take 16 (take words xs) =
    by_test (ltb 16 words)
    (λ t. let h = ltb-true 16 words t in let j : min words 16 ≡ 16 = omega (arith, h) in q ∙ ap (λ i. take i xs) j ∙ sym (take-take 16 words xs (omega (arith, h))))
    (λ t. let h = ltb-false 16 words t in let j : min words 16 ≡ words = omega (arith, h) in let r = length-take words xs in q ∙ ap (λ i. take i xs) j ∙ sym (take_all 16 (take words xs) (omega (arith, h, r)))) in
    let z : take count xs ++ drop count (replicate 16 0) ≡ pad 16 (take count xs) =
    rw n at (pad_zeros 16 (take count xs) (omega (arith, n, k'))) in
    z ∙ ap (pad 16) p ∙ pad-take 16 (take words xs) ∙ ap (λ (ys : List ℕ). pad 16 (take words ys)) e
