-- Calls 33 to 37: what each does.
use mathlib.Core.Path.{◌≡◌, refl, sym, ap, ◌∙◌}
use mathlib.Core.List.{List}
use mathlib.Core.Bool.{true}
use Prim.Native.Nat.{ℕ, min}
use Prim.{tt}
use native.Mathlib.Omega.{arith}
use Rattle.blocks.specs.declared.pool.Pool.{Pool}
use Rattle.blocks.specs.Pools.{block_sizesb, usedb, fresh_pool}
use Rattle.blocks.proofs.Laws.Pools as Records
use Rattle.calls.specs.Statuses as Statuses
use Rattle.calls.specs.Chains.{pool_create_refusal, pool_delete_refusal, allocate_refusal, release_refusal, pool_refusal}
use Rattle.kernel.specs.declared.Kernel.{Kernel}
use Rattle.kernel.specs.Tables.{pool_at}
use Rattle.kernel.specs.Kinds.Kind.{pool}
use Rattle.kernel.specs.Sound.{Sound}
use Rattle.kernel.specs.Roles.{may_moveb, mayb}
use Rattle.kernel.specs.Effects.{store_effect, remove_effect, rank_effect, serve_effect, give_effect}
use Rattle.kernel.specs.Pools.{allocate_effect, release_effect}
use Rattle.kernel.proofs.Laws.Answers.{second_none, unless_none}
use Rattle.kernel.proofs.Laws.Objects
use Rattle.kernel.proofs.Laws.Does
use Rattle.kernel.proofs.Laws.Effects
use Rattle.kernel.proofs.Laws.Uses

module _ (k : Kernel) (b c : ℕ) (messages : List ℕ) (caller n : ℕ) where
  abbrev p : Pool
  p = pool_at k n

  pub create-does : Does.Does k caller 33 n b c messages (pool_create_refusal n p b c caller) (store_effect pool n (fresh_pool b c))
  unfolding pool_create_refusal mayb
  create-does = Uses.create-does k b c messages caller 33 n pool Statuses.pool_error _ (omega arith) (λ z. Records.fresh_fit b c (Effects.is_true (block_sizesb b c) Statuses.size_error _ (omega arith) z)) (Effects.here n) (λ C. (C, tt, tt, tt, tt, tt, tt))

  pub delete-does : Does.Does k caller 34 n b c messages (pool_delete_refusal p caller) (remove_effect k pool n)
  unfolding pool_delete_refusal may_moveb mayb
  delete-does = Uses.delete-does k b c messages caller 34 n pool Statuses.pool_error _ (omega arith) Records.none_fit (λ t. Effects.here n) (Effects.here n) Does.none

  pub allocate-does : (wait : ℕ) → Does.Does k caller 35 n b c messages (allocate_refusal p wait caller) (allocate_effect k n wait)
  unfolding allocate_refusal allocate_effect mayb
  allocate-does wait =
      Uses.take-does k b c messages caller 35 n pool refl wait _ Statuses.pool_error Statuses.no_memory (omega arith) (omega arith) (λ S made. Records.without_fit p (Objects.object_fit pool k S.fit n made) made) (Effects.here n) (λ T. (tt, T, tt, tt, tt, tt, tt))

  -- a block in use has a number below 64, so that its number is decoded as it is
  module _ (z : release_refusal p (min b 64) ≡ 0) where
    made : p.created ≡ true
    unfolding release_refusal
    made = Effects.is_true _ Statuses.pool_error _ (omega arith) z

    used : usedb p (min b 64) ≡ true
    unfolding release_refusal
    used = unless_none (usedb p (min b 64)) Statuses.ptr_error (omega arith) (second_none _ _ z)

    is_block : Sound k → min b 64 ≡ b
    is_block S = let l = Records.used_small p (Objects.object_fit pool k S.fit n made) made (min b 64) used in omega (arith, l)

  pub release-does : Does.Does k caller 36 n b c messages (release_refusal p (min b 64)) (release_effect k n (min b 64))
  unfolding release_effect give_effect serve_effect store_effect may_moveb mayb
  release-does =
      record {
        proper = λ S runs z. Uses.give_proper pool k S.fit n 36 n _ _ (Objects.object_small pool k S.fit n (made z)) (Records.with_fit p (Objects.object_fit pool k S.fit n (made z)) (made z) (min b 64) (used z)) (Effects.here n) (Effects.here n);
        role = λ S z. (let e = is_block z S in (tt, tt, record { first = λ a t T. rw (Uses.taker_waited pool k S.fit n t T, e) refl; stored = λ a q. rw (q, e) refl; may = ap (usedb p) (sym e) ∙ used z }, tt, tt, tt, tt));
      }

  pub prioritize-does : Does.Does k caller 37 n b c messages (pool_refusal p) (rank_effect pool n)
  unfolding mayb
  prioritize-does = Uses.prioritize-does k b c messages caller 37 n pool _ (Effects.here n) Does.none
