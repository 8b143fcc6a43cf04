use mathlib.Core.Path.{◌≡◌, sym, ap, ◌∙◌}
use mathlib.Core.Bool.{Bool, false, not}
use borrow.Author.Rules.{rules}
use borrow.Author.Tests.{not-true}
use Rattle.std.specs.Prelude.{Option, MatchOption}
use Rattle.std.specs.Borrow.{Bor}
use Rattle.std.specs.Slice.{IsItemAt}
use Rattle.scheduler.specs.declared.thread.Thread.{Thread}
use Rattle.calls.specs.declared.held.Held.{Held}
use Rattle.kernel.specs.declared.Kernel.{Kernel}
use Rattle.kernel.specs.Kinds.{Kind, Object, state_on, table_of, no_object, waitb}
use Rattle.kernel.specs.Loops.{asks_fitb}
use Rattle.kernel.proofs.Laws.Objects
use Rattle.kernel.proofs.Laws.Reads.{get_tested}
use Rattle.kernel.proofs.Laws.Sound.{asks_object, asks_none, asks-other}
use Rattle.kernel.proofs.Kernel.wait_fits.Goals as goal

pub returns-then-not-th : goal.returns-then-not-th
returns-then-not-th c = asks_none _ _ _ (not-true _ c.if-not-th.true)

-- the record that it waits on, of whichever kind, is tested
asked : (k : Kernel) (th : Thread) (h : Held) (d : Kind) → not th.created ≡ false → th.state ≡ state_on d
    → (r : Option (Bor (Object d))) {b : Bool} (P : Bor (Object d) → Type 0) → IsItemAt (table_of d k) th.object r
    → ((x : Bor (Object d)) → P x → b ≡ waitb d h x.now) → MatchOption r (b ≡ false) P → b ≡ asks_fitb k th h
asked k th h d made e r P l f m =
    get_tested (table_of d k) th.object (no_object d) (waitb d h) r P l (Objects.none-waits d h) f m
    ∙ sym (ap (waitb d h) (Objects.object_is d k th.object)) ∙ sym (asks_object k th h d made e)

pub returns-in-5 : goal.returns-in-5
returns-in-5 c = asked _ _ _ Kind.queue c.if-not-th.false c.in-5.is _ _ c.get.ensures.lookup (λ x p. search rules) c.is_some_and.ensures

pub returns-in-6 : goal.returns-in-6
returns-in-6 c = asked _ _ _ Kind.semaphore c.if-not-th.false c.in-6.is _ _ c.get-in-6.ensures.lookup (λ x p. search rules) c.is_some_and-in-6.ensures

pub returns-in-7 : goal.returns-in-7
returns-in-7 c = asked _ _ _ Kind.group c.if-not-th.false c.in-7.is _ _ c.get-in-7.ensures.lookup (λ x p. search rules) c.is_some_and-in-7.ensures

pub returns-in-8 : goal.returns-in-8
returns-in-8 c = asked _ _ _ Kind.pool c.if-not-th.false c.in-8.is _ _ c.get-in-8.ensures.lookup (λ x p. search rules) c.is_some_and-in-8.ensures

pub returns-in_default : goal.returns-in_default
returns-in_default c = asks-other _ _ _ (search rules) (search rules) (search rules) (search rules)
