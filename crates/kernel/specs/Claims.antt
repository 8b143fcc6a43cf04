-- What is proved of the general call's definition, in one record. Its proof is `claims` of proofs/Laws/Claims.antt.
use Rattle.std.specs.Prelude.{if◌then◌else◌, ◌≡◌, List, Bool, true, false, ◌||◌, not, ℕ, ◌≤◌, min, eqb}
use Rattle.numbers.specs.Numbers.{nobody}
use Rattle.lines.specs.Lists.{count}
use Rattle.scheduler.specs.declared.thread.Place.{Place}
use Rattle.scheduler.specs.Orders.{line_at}
use Rattle.calls.specs.Held.{no_words}
use Rattle.calls.specs.Statuses as Statuses
use Rattle.calls.specs.declared.call.Request.{Request}
use Rattle.kernel.specs.declared.Kernel.{Kernel}
use Rattle.kernel.specs.declared.Answer.{Answer}
use Rattle.kernel.specs.Tables.{started, runner_of}
use Rattle.kernel.specs.Answers.{Outcome, refused}
use Rattle.kernel.specs.Edits.{Effect, anyb, movers, lines_by, carried_out}
use Rattle.kernel.specs.Roles.{limit_of, mayb, allb}
use Rattle.kernel.specs.Uses.{Role}
use Rattle.kernel.specs.General.{step, call}
use Rattle.kernel.specs.Sound.{soundb, Sized, Sound}

-- rule 2.3: 0x00, 0x19 and 0x101 are the statuses of calls that are carried out; every other one is a refusal
unfoldable pub doneb : ℕ → Bool
doneb status = eqb status Statuses.success || eqb status Statuses.suspend_lifted || eqb status Statuses.waiting

-- rules 2.4, 2.5: the answer of a refused call: tables unchanged, words and count zero, and who runs stays, but 0x100 names nobody
pub record Unchanged (k : Kernel) (r : Answer) : Type 0 where
  pub kernel : r.kernel ≡ k
  pub words : r.words ≡ no_words
  pub ended : r.ended ≡ 0
  pub next : r.next.0 ≡ (if eqb r.status Statuses.tables_unsound then nobody else runner_of k)

-- rules 2.10, 2.11: a call of number n that is carried out. Its effect decides the answer, what it does is such as a call of that number
-- may do, nobody moves twice, and the line of every place is what the edits make of it
pub record Carries (k : Kernel) (n a b c : ℕ) (messages : List ℕ) (o : Outcome) (e : Effect) : Type 0 where
  pub is : o ≡ carried_out k e
  pub may : allb (mayb n a) e.edits ≡ true
  pub once : (t : ℕ) → count t (movers anyb e.edits) ≤ 1
  pub line : (p : Place) → line_at o.kernel.scheduler p ≡ lines_by k e.edits p (line_at k.scheduler p)
  pub role : Role k n a b c messages e

-- rule 2.10: a call is refused with a status, or carried out with an effect
pub data Does (k : Kernel) (n a b c : ℕ) (messages : List ℕ) (o : Outcome) : Type 0 where
  refuses : (s : ℕ) → o ≡ refused k s → Does k n a b c messages o
  carries : (e : Effect) → Carries k n a b c messages o e → Does k n a b c messages o

-- rules 2.4, 2.5, 2.10, 2.11, 12.8, 12.9: what is claimed
pub record Claims : Type 0 where
  -- ---- soundness
  -- rule 12.9: the test passes exactly the sound tables
  pub test_sound : (k : Kernel) → Sized k → soundb k ≡ true → Sound k
  pub sound_test : (k : Kernel) → Sound k → soundb k ≡ true
  -- rule 12.9: tables with nothing created are sound
  pub start_sound : Sound started
  -- rule 12.8: every call hands back sound tables where it got sound ones
  pub call_sound : (k : Kernel) → Sound k → (q : Request) (messages : List ℕ) → Sound (call k q messages).kernel
  -- ---- any tables
  -- rules 2.4, 2.5: a call with any status but 0x00, 0x19 and 0x101 changes nothing
  pub refused_same : (k : Kernel) (q : Request) (messages : List ℕ) → doneb (call k q messages).status ≡ false
      → Unchanged k (call k q messages)
  -- rule 2.5: 0x100 is answered exactly if the test does not pass the tables
  pub unsound_status : (k : Kernel) (q : Request) (messages : List ℕ)
      → eqb (call k q messages).status Statuses.tables_unsound ≡ not (soundb k)
  -- ---- sound tables
  -- rules 2.10, 2.11: what each call does; past the last number of a thread or object its first argument names none
  pub does : (k : Kernel) → Sound k → (q : Request) (messages : List ℕ)
      → Does k q.number (min q.a (limit_of q.number)) q.b q.c messages (step k q messages)
