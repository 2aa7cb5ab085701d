-- What stands at the place to which an entry goes, and elsewhere.
use Rattle.std.specs.Prelude.{◌≡◌, ℕ, zero, suc, ◌<◌, ◌≢◌}
use Rattle.std.proofs.Common.{refl, arith}
use Rattle.placement.specs.Layers.{moved}
use Rattle.placement.specs.declared.placement.Place.TheVariants.{Coded, Fixed}

module _ (goes : ℕ → ℕ) (o : ℕ) where
  -- no entry goes there
  pub moved_none : (n : ℕ) → ((i : ℕ) → i < n → goes i ≢ o) → moved goes n o ≡ Fixed 0
  unfolding moved
  moved_none zero nowhere = refl
  moved_none (suc n) nowhere = let rest = moved_none n (λ i h. nowhere i (omega arith)) in let last = nowhere n in grind arith

  -- entry k goes there, and no other
  pub moved_at : (n k : ℕ) → k < n → goes k ≡ o → ((i : ℕ) → i < n → goes i ≡ o → i ≡ k) → moved goes n o ≡ Coded k
  unfolding moved
  moved_at zero k h e one = absurd (omega arith)
  moved_at (suc n) k h e one = let rest = λ (l : k < n). moved_at n k l e (λ i l. one i (omega arith)) in let last = one n in grind arith

  -- only the first n entries are shown
  pub moved_within : (n c : ℕ) → moved goes n o ≡ Coded c → c < n
  unfolding moved
  moved_within zero c e = grind arith
  moved_within (suc n) c e = let rest = moved_within n c in grind arith

  -- a fixed bit is 0
  pub moved_fixed : (n b : ℕ) → moved goes n o ≡ Fixed b → b ≡ 0
  unfolding moved
  moved_fixed zero b e = grind arith
  moved_fixed (suc n) b e = let rest = moved_fixed n b in grind arith
