-- The order on the integers; "z is at least 0" is `pos 0 ≤ℤ z`. And floor division as an order.
use mathlib.Core.Path.{◌≡◌, refl}
use mathlib.Core.Logic.{◌↔◌}
use mathlib.Core.Bool.{true, false}
use Prim.Native.Nat.{ℕ, suc, ◌*◌, ◌/◌, ◌≤◌, ◌<◌}
use native.Mathlib.Nat.{le-div_iff_mul-le}
use native.Mathlib.Omega.{arith}
use lib.IntN.{ℤ, pos, negsuc, ◌+ℤ◌, ◌-ℤ◌, ◌*ℤ◌}
use lib.Signed.{◌≤ℤ◌, ◌<ℤ◌, non_neg, yes_non_neg, lt_z_yes}
use Rattle.groundwork.proofs.Truth.{true_from, never_both}
use Rattle.groundwork.proofs.Difference.{to-diff, by-naturals, by_diff₂, by_diff₃, by_diff₄}

-- ---- the order itself (≤ℤ-refl is the kit's)

pub ≤ℤ_trans : {a b c : ℤ} → a ≤ℤ b → b ≤ℤ c → a ≤ℤ c
≤ℤ_trans {a} {b} {c} = by_diff₃ (λ x y z. x ≤ℤ y → y ≤ℤ z → x ≤ℤ z) (λ p n q m r o. omega by-naturals) a b c

pub +ℤ_mono : {a b c d : ℤ} → a ≤ℤ b → c ≤ℤ d → (a +ℤ c) ≤ℤ (b +ℤ d)
+ℤ_mono {a} {b} {c} {d} = by_diff₄ (λ x y z w. x ≤ℤ y → z ≤ℤ w → (x +ℤ z) ≤ℤ (y +ℤ w)) (λ p n q m r o s t. simp to-diff (omega by-naturals)) a b c d

-- an order as a difference that is not negative
pub nonneg_rest : (a b : ℤ) → a ≤ℤ b → pos 0 ≤ℤ (b -ℤ a)
nonneg_rest = by_diff₂ _ λ p n q m. simp to-diff (omega by-naturals)

-- ---- at least 0

pub nonneg_pos : (n : ℕ) → pos 0 ≤ℤ pos n
nonneg_pos n = simp to-diff (omega by-naturals)

pub add_nonneg : (a b : ℤ) → pos 0 ≤ℤ a → pos 0 ≤ℤ b → pos 0 ≤ℤ (a +ℤ b)
add_nonneg = by_diff₂ _ λ p n q m. simp to-diff (omega by-naturals)

pub mul_nonneg : (a b : ℤ) → pos 0 ≤ℤ a → pos 0 ≤ℤ b → pos 0 ≤ℤ (a *ℤ b)
mul_nonneg (pos a) (pos b) h k = nonneg_pos (a * b)
mul_nonneg (pos a) (negsuc b) h k = absurd k.le
mul_nonneg (negsuc a) b h k = absurd h.le

-- what is left of h when x is taken away is at least 0, and so is x: so is h
pub nonneg_of_rest : (h x : ℤ) → pos 0 ≤ℤ (h -ℤ x) → pos 0 ≤ℤ x → pos 0 ≤ℤ h
nonneg_of_rest = by_diff₂ _ λ p n q m. simp to-diff (omega by-naturals)

-- ---- the test `non_neg`

pub nonneg_test : (z : ℤ) → non_neg z ≡ true → pos 0 ≤ℤ z
nonneg_test (pos n) e = nonneg_pos n
nonneg_test (negsuc n) e = never_both e refl

pub below_zero : (z : ℤ) → non_neg z ≡ false → z <ℤ pos 0
below_zero (pos n) e = never_both refl e
below_zero (negsuc n) e = lt_z_yes tt

pub test_nonneg : (z : ℤ) → pos 0 ≤ℤ z → non_neg z ≡ true
test_nonneg z h = true_from (non_neg z) (yes_non_neg h)

-- ---- floor division

product_bound : (a k s : ℕ) → (pos 0 ≤ℤ (pos a +ℤ negsuc k *ℤ pos s)) ↔ (s * suc k ≤ a)
product_bound a k s = simp to-diff (omega by-naturals)

-- the largest s with a − (k + 1) s at least 0 is a / (k + 1), rounded down
pub floor_bound : (a k s : ℕ) → (pos 0 ≤ℤ (pos a +ℤ negsuc k *ℤ pos s)) ↔ (s ≤ a / suc k)
floor_bound a k s =
    let above : 0 < suc k = omega arith in
    let floor = le-div_iff_mul-le {k = suc k} {x = s} {y = a} above in
    (λ h. floor.1 ((product_bound a k s).0 h), λ h. (product_bound a k s).1 (floor.0 h))

-- and from a negative number nothing is left, whatever s
pub never_below : (n s k : ℕ) → pos 0 ≤ℤ (negsuc n +ℤ negsuc k *ℤ pos s) → ⊥
never_below n s k = simp to-diff (omega by-naturals)
