-- Ring laws of the integers that the kit lacks: the product distributes and is associative, and a few rearrangements.
use mathlib.Core.Path.{◌≡◌}
use native.Mathlib.Omega.{arith}
use lib.IntN.{ℤ, negsuc, neg_ℤ, ◌+ℤ◌, ◌-ℤ◌, ◌*ℤ◌}
use Rattle.groundwork.proofs.Difference.{diff_eq, to-diff, by_diff, by_diff₃, by_diff₄}

-- ---- the product

pub *ℤ_distrib_left : (a b c : ℤ) → a *ℤ (b +ℤ c) ≡ a *ℤ b +ℤ a *ℤ c
*ℤ_distrib_left = by_diff₃ _ λ p n q m r o. simp to-diff (diff_eq _ _ _ _ (omega arith))

pub *ℤ_distrib_right : (a b c : ℤ) → (a +ℤ b) *ℤ c ≡ a *ℤ c +ℤ b *ℤ c
*ℤ_distrib_right = by_diff₃ _ λ p n q m r o. simp to-diff (diff_eq _ _ _ _ (omega arith))

pub *ℤ_assoc : (a b c : ℤ) → (a *ℤ b) *ℤ c ≡ a *ℤ (b *ℤ c)
*ℤ_assoc = by_diff₃ _ λ p n q m r o. simp to-diff (diff_eq _ _ _ _ (omega arith))

-- ---- negation

pub neg_as_times : (a : ℤ) → neg_ℤ a ≡ negsuc 0 *ℤ a
neg_as_times = by_diff _ λ p n. simp to-diff (diff_eq _ _ _ _ (omega arith))

-- ---- sums of sums

pub +ℤ_middle : (a b c d : ℤ) → (a +ℤ b) +ℤ (c +ℤ d) ≡ (a +ℤ c) +ℤ (b +ℤ d)
+ℤ_middle = by_diff₄ _ λ p n q m r o s t. simp to-diff (diff_eq _ _ _ _ (omega arith))

pub -ℤ_middle : (a b c d : ℤ) → (a +ℤ b) -ℤ (c +ℤ d) ≡ (a -ℤ c) +ℤ (b -ℤ d)
-ℤ_middle = by_diff₄ _ λ p n q m r o s t. simp to-diff (diff_eq _ _ _ _ (omega arith))
