-- How large sums and products of integers are, by `nat_abs`: what a signed width asks.
use mathlib.Core.Path.{◌≡◌, refl}
use Prim.Native.Nat.{ℕ, zero, suc, ◌+◌, ◌*◌, ◌≤◌}
use native.Mathlib.Omega.{arith}
use lib.IntN.{ℤ, pos, negsuc, neg_ℤ, nat_abs, ◌+ℤ◌, ◌-ℤ◌, ◌*ℤ◌}
use lib.Signed.{mag}
use Rattle.groundwork.proofs.Difference.{diff, diff_ind}

pub nat_abs_neg : (a : ℤ) → nat_abs (neg_ℤ a) ≡ nat_abs a
nat_abs_neg (pos zero) = refl
nat_abs_neg (pos (suc n)) = refl
nat_abs_neg (negsuc n) = refl

pub nat_abs_diff : (p n : ℕ) → nat_abs (diff p n) ≤ p + n
nat_abs_diff p n = diff_ind (λ z. nat_abs z ≤ p + n) p n (λ k e. omega arith) (λ k e. omega arith)

pub nat_abs_add : (a b : ℤ) → nat_abs (a +ℤ b) ≤ nat_abs a + nat_abs b
unfolding diff
nat_abs_add (pos a) (pos b) = omega arith
nat_abs_add (pos a) (negsuc b) = nat_abs_diff a (suc b)
nat_abs_add (negsuc a) (pos b) = omega (arith, nat_abs_diff b (suc a))
nat_abs_add (negsuc a) (negsuc b) = omega arith

pub nat_abs_sub : (a b : ℤ) → nat_abs (a -ℤ b) ≤ nat_abs a + nat_abs b
nat_abs_sub a b = omega (arith, nat_abs_add a (neg_ℤ b), nat_abs_neg b)

pub nat_abs_mul : (a b : ℤ) → nat_abs (a *ℤ b) ≡ nat_abs a * nat_abs b
nat_abs_mul (pos a) (pos b) = refl
nat_abs_mul (pos a) (negsuc b) = nat_abs_neg (pos (a * suc b))
nat_abs_mul (negsuc a) (pos b) = nat_abs_neg (pos (suc a * b))
nat_abs_mul (negsuc a) (negsuc b) = refl

-- `mag` is what the kit bounds for a signed width
pub mag_le_nat_abs : (a : ℤ) → mag a ≤ nat_abs a
mag_le_nat_abs (pos n) = omega arith
mag_le_nat_abs (negsuc n) = omega arith
