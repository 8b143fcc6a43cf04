-- Laws of reasons and their statuses.
use Rattle.std.proofs.Common.{◌≡◌, ℕ, ◌<◌, ap, arith}
use Rattle.std.specs.Prelude.{Result, Ok, Err, ⊤}
use Rattle.calls.specs.declared.refusal.Refusal.{Refusal}
use Rattle.calls.specs.declared.refusal.Refusal.TheVariants.{
  ThreadError,
  PriorityError,
  ThreshError,
  StartError,
  CallerError,
  DeleteError,
  ResumeError,
  SuspendError,
  WaitAbortError,
  NotDone,
  SemaphoreError,
  WaitError,
  NoInstance,
  CeilingExceeded,
  InvalidCeiling,
  QueueError,
  SizeError,
  PtrError,
  QueueFull,
  QueueEmpty,
  GroupError,
  OptionError,
  NoEvents,
  PoolError,
  NoMemory,
}
use Rattle.calls.specs.Refusals.{status_of, reason_of}
use Rattle.calls.specs.Chains.{first_of}

-- no reason has the status 0
pub status_above : (r : Refusal) → 0 < status_of r
status_above = elim [
  | ThreadError ↦ omega arith
  | PriorityError ↦ omega arith
  | ThreshError ↦ omega arith
  | StartError ↦ omega arith
  | CallerError ↦ omega arith
  | DeleteError ↦ omega arith
  | ResumeError ↦ omega arith
  | SuspendError ↦ omega arith
  | WaitAbortError ↦ omega arith
  | NotDone ↦ omega arith
  | SemaphoreError ↦ omega arith
  | WaitError ↦ omega arith
  | NoInstance ↦ omega arith
  | CeilingExceeded ↦ omega arith
  | InvalidCeiling ↦ omega arith
  | QueueError ↦ omega arith
  | SizeError ↦ omega arith
  | PtrError ↦ omega arith
  | QueueFull ↦ omega arith
  | QueueEmpty ↦ omega arith
  | GroupError ↦ omega arith
  | OptionError ↦ omega arith
  | NoEvents ↦ omega arith
  | PoolError ↦ omega arith
  | NoMemory ↦ omega arith
]

-- a call that nothing refuses has the reason 0
pub none_refuses : (r : Result ⊤ Refusal) (u : ⊤) → r ≡ Ok u → reason_of r ≡ 0
none_refuses r u e = ap reason_of e

-- a call that is refused has another reason than 0
pub one_refuses : (r : Result ⊤ Refusal) (e : Refusal) → r ≡ Err e → 0 < reason_of r
one_refuses r e is = rw is (status_above e)

-- the first of two reasons, where there is a first one
pub first_holds : (a b : ℕ) → 0 < a → first_of a b ≡ a
unfolding first_of
first_holds a b h = grind arith

-- the first of two reasons, where there is no first one
pub first_fails : (a b : ℕ) → a ≡ 0 → first_of a b ≡ b
unfolding first_of
first_fails a b e = grind arith
