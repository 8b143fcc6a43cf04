-- Calls 16 to 21: what each does.
use mathlib.Core.Path.{refl}
use mathlib.Core.List.{List}
use Prim.Native.Nat.{ℕ}
use Prim.{tt}
use native.Mathlib.Omega.{arith}
use Rattle.objects.specs.Semaphores.{no_semaphore}
use Rattle.calls.specs.Held.{no_words}
use Rattle.calls.specs.Statuses as Statuses
use Rattle.calls.specs.Chains.{semaphore_create_refusal, semaphore_delete_refusal, semaphore_get_refusal, put_refusal, ceiling_refusal, semaphore_refusal}
use Rattle.kernel.specs.declared.Kernel.{Kernel}
use Rattle.kernel.specs.Tables.{semaphore_at}
use Rattle.kernel.specs.Kinds.Kind.{semaphore}
use Rattle.kernel.specs.Roles.{may_moveb, mayb}
use Rattle.kernel.specs.Effects.{store_effect, remove_effect, rank_effect, counting}
use Rattle.kernel.specs.Semaphores.{semaphore_get_effect, put_effect}
use Rattle.kernel.proofs.Laws.Does
use Rattle.kernel.proofs.Laws.Effects
use Rattle.kernel.proofs.Laws.Uses

module _ (k : Kernel) (b c : ℕ) (messages : List ℕ) (caller n : ℕ) where
  pub create-does : Does.Does k caller 16 n b c messages (semaphore_create_refusal n (semaphore_at k n) caller) (store_effect semaphore n (counting b))
  unfolding semaphore_create_refusal counting mayb
  create-does = Uses.create-does k b c messages caller 16 n semaphore Statuses.semaphore_error _ (omega arith) (λ z. refl) (Effects.here n) (λ C. (C, tt, tt, tt, tt, tt, tt))

  pub delete-does : Does.Does k caller 17 n b c messages (semaphore_delete_refusal (semaphore_at k n) caller) (remove_effect k semaphore n)
  unfolding semaphore_delete_refusal no_semaphore may_moveb mayb
  delete-does = Uses.delete-does k b c messages caller 17 n semaphore Statuses.semaphore_error _ (omega arith) refl (λ t. Effects.here n) (Effects.here n) Does.none

  pub get-does : (wait : ℕ) → Does.Does k caller 18 n b c messages (semaphore_get_refusal (semaphore_at k n) wait caller) (semaphore_get_effect k n wait)
  unfolding semaphore_get_refusal semaphore_get_effect counting mayb
  get-does wait = Uses.take-does k b c messages caller 18 n semaphore refl wait no_words Statuses.semaphore_error Statuses.no_instance (omega arith) (omega arith) (λ S made. refl) (Effects.here n) (λ T. (tt, T, tt, tt, tt, tt, tt))

  pub put-does : Does.Does k caller 19 n b c messages (put_refusal (semaphore_at k n)) (put_effect k n)
  unfolding put_refusal put_effect counting may_moveb mayb
  put-does = Uses.give-does k b c messages caller 19 n semaphore refl _ (λ z. Effects.is_true _ Statuses.semaphore_error _ (omega arith) z) (λ S z. (refl, refl)) (λ t. Effects.here n) (Effects.here n) (λ G. (tt, tt, G, tt, tt, tt, tt))

  pub ceiling-does : (ceiling : ℕ) → Does.Does k caller 20 n b c messages (ceiling_refusal (semaphore_at k n) ceiling) (put_effect k n)
  unfolding ceiling_refusal put_effect counting may_moveb mayb
  ceiling-does ceiling = Uses.give-does k b c messages caller 20 n semaphore refl _ (λ z. Effects.is_true _ Statuses.semaphore_error _ (omega arith) z) (λ S z. (refl, refl)) (λ t. Effects.here n) (Effects.here n) (λ G. (tt, tt, G, tt, tt, tt, tt))

  pub prioritize-does : Does.Does k caller 21 n b c messages (semaphore_refusal (semaphore_at k n)) (rank_effect semaphore n)
  unfolding mayb
  prioritize-does = Uses.prioritize-does k b c messages caller 21 n semaphore _ (Effects.here n) Does.none
