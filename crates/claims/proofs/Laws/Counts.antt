-- Counting: a giving call takes one off the roll, and nothing puts anybody on it.
use mathlib.Core.Path.{◌≡◌, refl, ap, ◌∙◌}
use mathlib.Core.List.{List, [], ◌∷◌, ◌++◌}
use mathlib.Core.Bool.{true, false, ◌&&◌, ◌||◌, and-true, and-false}
use Prim.Native.Nat.{ℕ, ◌-◌, ◌<◌, ◌≤◌}
use native.Mathlib.Omega.{arith}
use lib.ListN.{length, drop, length-append}
use lib.Seq.{drop-drop}
use lib.Dec.{eqb}
use borrow.Author.Tests.{ltb-true, ltb-false, lt-ltb}
use Rattle.lines.specs.Logic.{one_if}
use Rattle.lines.specs.Lists.{count}
use Rattle.lines.proofs.Laws.Logic.{by_test, by_choice}
use Rattle.lines.proofs.Laws.Lists
use Rattle.lines.proofs.Laws.Less
use Rattle.waiting.specs.Ticks.{forever}
use Rattle.kernel.specs.declared.Kernel.{Kernel}
use Rattle.kernel.specs.declared.Answer.{Answer}
use Rattle.kernel.specs.Kinds.{Kind}
use Rattle.claims.specs.Lists.{Made, answer, next}
use Rattle.claims.specs.Rolls.{Entry, names, rest, each, unnamed, ticked, givesb, succeedsb, strike_out, rolled, roll_after, lastsb, gave, Undisturbed}

-- ---- lengths
abbrev Most : ℕ → List Entry → Type 0
Most n r = length r ≤ n

length-each : (f : Entry → List Entry) → ((e : Entry) → length (f e) ≤ 1) → (r : List Entry) → length (each f r) ≤ length r
unfolding each
length-each f h [] = omega arith
length-each f h (e ∷ es) = let a = length-append (f e) (each f es) in let b = h e in let c = length-each f h es in omega (arith, a, b, c)

length_rest : (r : List Entry) → length (rest r) ≤ length r - 1
unfolding rest
length_rest [] = omega arith
length_rest (e ∷ es) = omega arith

-- somebody is on the roll
pub named_long : (t : ℕ) (r : List Entry) → 0 < count t (names r) → 0 < length r
unfolding names count
named_long t [] c = absurd (omega (arith, c))
named_long t (e ∷ es) c = omega arith

-- who is not on it
pub off : (t : ℕ) (r : List Entry) → lastsb t r ≡ false → count t (names r) ≡ 0
unfolding lastsb
off t r w = let y = ltb-false 0 (count t (names r)) w in omega (arith, y)

names-rest : (r : List Entry) → names (rest r) ≡ drop 1 (names r)
unfolding names rest
names-rest [] = refl
names-rest (e ∷ es) = refl

-- ---- who is on a roll
names-append : (r s : List Entry) → names (r ++ s) ≡ names r ++ names s
unfolding names
names-append [] s = refl
names-append (e ∷ es) s = ap {B = List ℕ} (λ l. e.thread ∷ l) (names-append es s)

-- no more of u on s than on r
abbrev Fewer : ℕ → List Entry → List Entry → Type 0
Fewer u r s = count u (names s) ≤ count u (names r)

fewer-each : (u : ℕ) (f : Entry → List Entry) → ((e : Entry) → Fewer u (e ∷ []) (f e)) → (r : List Entry) → Fewer u r (each f r)
unfolding each
fewer-each u f h [] = omega arith
fewer-each u f h (e ∷ es) =
    let a = ap (count u) (names-append (f e) (each f es)) in
    let b = Lists.count-append u (names (f e)) (names (each f es)) in
    let c = ap (count u) (names-append (e ∷ []) es) in
    let g = Lists.count-append u (names (e ∷ [])) (names es) in
    let i = h e in
    let j = fewer-each u f h es in
    omega (arith, a, b, c, g, i, j)

fewer-rest : (u : ℕ) (r : List Entry) → Fewer u r (rest r)
unfolding rest names count
fewer-rest u [] = omega arith
fewer-rest u (e ∷ es) = omega arith

nobody_fewer : (u : ℕ) (e : Entry) → Fewer u (e ∷ []) []
unfolding names
nobody_fewer u e = let z = Less.count_none u in omega (arith, z)

module _ (d : Kind) (n : ℕ) where
  length_done : (m : Made) (r : List Entry) → length (strike_out d n m r) ≤ length r - one_if (givesb d n m)
  unfolding strike_out unnamed ticked one_if
  length_done m r =
      let named = length-each (unnamed m.request.a) (λ e. by_choice (Most 1) (eqb e.thread m.request.a) _ _ (λ z. omega arith) (λ z. omega arith)) r in
      let timed = length-each ticked (λ e. by_choice (Most 1) (eqb e.ticks forever) _ _ (λ z. omega arith) (λ z. by_choice (Most 1) (eqb (e.ticks - 1) 0) _ _ (λ y. omega arith) (λ y. omega arith))) r in
      by_test (givesb d n m)
      (λ z. rw z (length_rest r))
      (λ z. rw z (by_choice (Most (length r - 0)) (eqb m.request.number 5 || eqb m.request.number 10) _ _ (λ y. omega (arith, named))
      (λ y. by_choice (Most (length r - 0)) (eqb m.request.number 15) _ _ (λ w. omega (arith, timed)) (λ w. omega arith))))

  pub length-rolled : (m : Made) (x : Answer) (r : List Entry) → length (rolled d n m x r) ≤ length r - one_if (givesb d n m && succeedsb x)
  unfolding rolled one_if
  length-rolled m x r =
      by_test (succeedsb x)
      (λ z. rw (z, and-true (givesb d n m)) (length_done m r))
      (λ z. rw (z, and-false (givesb d n m)) (let q : length r ≤ length r - 0 = omega arith in q))

  -- nothing puts anybody on the roll
  pub fewer-rolled : (u : ℕ) (m : Made) (x : Answer) (r : List Entry) → Fewer u r (rolled d n m x r)
  unfolding rolled strike_out unnamed ticked names
  fewer-rolled u m x r =
      by_choice (Fewer u r) (succeedsb x) _ _
      (λ z. by_choice (Fewer u r) (givesb d n m) _ _ (λ g. fewer-rest u r)
      (λ g. by_choice (Fewer u r) (eqb m.request.number 5 || eqb m.request.number 10) _ _
      (λ y. fewer-each u (unnamed m.request.a) (λ e. by_choice (Fewer u (e ∷ [])) (eqb e.thread m.request.a) _ _ (λ q. nobody_fewer u e) (λ q. omega arith)) r)
      (λ y. by_choice (Fewer u r) (eqb m.request.number 15) _ _
      (λ w. fewer-each u ticked (λ e. by_choice (Fewer u (e ∷ [])) (eqb e.ticks forever) _ _ (λ q. omega arith) (λ q. by_choice (Fewer u (e ∷ [])) (eqb (e.ticks - 1) 0) _ _ (λ v. nobody_fewer u e) (λ v. omega arith))) r)
      (λ w. omega arith))))
      (λ z. omega arith)

  fewer-after : (u : ℕ) (ms : List Made) (k : Kernel) (r : List Entry) → Fewer u r (roll_after d n k r ms)
  unfolding roll_after
  fewer-after u [] k r = omega arith
  fewer-after u (m ∷ ms) k r = let a = fewer-after u ms (next k m) (rolled d n m (answer k m) r) in let b = fewer-rolled u m (answer k m) r in omega (arith, a, b)

  -- who is on the roll after a list of calls was on it before
  pub lasted : (t : ℕ) (ms : List Made) (k : Kernel) (r : List Entry) → lastsb t (roll_after d n k r ms) ≡ true → lastsb t r ≡ true
  unfolding lastsb
  lasted t ms k r w = let a = fewer-after t ms k r in let b = ltb-true 0 (count t (names (roll_after d n k r ms))) w in lt-ltb 0 (count t (names r)) (omega (arith, a, b))

  -- ---- undisturbed
  pub names-rolled : (m : Made) (k : Kernel) (r : List Entry) → (givesb d n m ≡ false → names (rolled d n m (answer k m) r) ≡ names r) → names (rolled d n m (answer k m) r) ≡ drop (one_if (givesb d n m && succeedsb (answer k m))) (names r)
  unfolding rolled strike_out one_if
  names-rolled m k r h =
      by_test (givesb d n m)
      (λ g. by_test (succeedsb (answer k m)) (λ z. rw (g, z) (names-rest r)) (λ z. rw (g, z)))
      (λ g. h g ∙ rw g)

  -- whoever is alone on it is struck off by a giving call
  pub last-served : (t : ℕ) (m : Made) (x : Answer) (r : List Entry) → names r ≡ t ∷ [] → givesb d n m ≡ true → succeedsb x ≡ true → count t (names (rolled d n m x r)) ≡ 0
  unfolding rolled strike_out
  last-served t m x r q g z = rw (z, g) (ap (count t) (names-rest r ∙ ap (drop 1) q) ∙ Less.count_none t)

  -- those ahead go one by one
  pub names-after : (ms : List Made) (k : Kernel) (r : List Entry) → Undisturbed d n k r ms → names (roll_after d n k r ms) ≡ drop (gave d n k ms) (names r)
  unfolding roll_after gave
  names-after [] k r U = refl
  names-after (m ∷ ms) k r U =
      names-after ms (next k m) (rolled d n m (answer k m) r) U.1
      ∙ ap (drop (gave d n (next k m) ms)) (names-rolled m k r U.0)
      ∙ drop-drop (gave d n (next k m) ms) (one_if (givesb d n m && succeedsb (answer k m))) (names r)
