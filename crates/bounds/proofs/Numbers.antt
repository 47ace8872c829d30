-- Numbers of the code as the integers that they should be.
use mathlib.Core.Path.{◌≡◌, refl, ◌∙◌, ap}
use mathlib.Core.Bool.{not}
use Prim.Native.Nat.{ℕ, ◌≤◌, ◌<◌, ◌^◌}
use native.Mathlib.Omega.{arith}
use lib.IntN.{ℤ, pos, negsuc, neg_ℤ, nat_abs, ◌-ℤ◌, +ℤ_idl}
use lib.Signed.{lt_z, le_z}
use lib.ListN.{get_or}
use mathlib.Core.List.{List}
use mir.Facts.{to_z-of_z}
use mir.Syntax.{w16, w64}
use mir.Val.{SFits, to_z, of_z}
use Rattle.groundwork.proofs.Magnitude.{mag_le_nat_abs, nat_abs_neg, nat_abs_sub}
use Rattle.groundwork.proofs.Truth.{le-leb, ge-ltb}
use Rattle.tables.specs.Tables.{SafeClaims}

pub fits_64 : (z : ℤ) → nat_abs z < 2 ^ 63 → SFits w64 z
fits_64 z small = record { sfits = omega (arith, mag_le_nat_abs z) }

-- a number of a claim, as the code reads it at 16 bits and keeps it at 64
pub read_claim : {claims : List ℤ} → SafeClaims claims → (i : ℕ) → to_z w64 (of_z w64 (to_z w16 (of_z w16 (get_or claims i (pos 0))))) ≡ get_or claims i (pos 0)
read_claim {claims} safe i =
    let z = get_or claims i (pos 0) in
    let narrow : SFits w16 z = record { sfits = omega (arith, mag_le_nat_abs z, safe.small i) } in
    ap (λ (y : ℤ). to_z w64 (of_z w64 y)) (to_z-of_z narrow) ∙ to_z-of_z (fits_64 z (omega (arith, safe.small i)))

pub kept_64 : (z : ℤ) → nat_abs z < 2 ^ 63 → to_z w64 (of_z w64 z) ≡ z
kept_64 z small = to_z-of_z (fits_64 z small)

-- ---- signs

pub below_zero : (z : ℤ) → lt_z z (pos 0) ≡ not (le_z (pos 0) z)
below_zero (pos n) = rw (ge-ltb n 0 (omega arith), le-leb 0 n (omega arith)) refl
below_zero (negsuc n) = refl

-- the size of 0 - z, as the code has it
pub opposite_size : (z : ℤ) → nat_abs z ≤ 9999 → nat_abs (to_z w64 (of_z w64 (pos 0 -ℤ z))) ≡ nat_abs z
opposite_size z small =
    ap nat_abs (kept_64 (pos 0 -ℤ z) (omega (arith, nat_abs_sub (pos 0) z, small))) ∙ ap nat_abs (+ℤ_idl (neg_ℤ z)) ∙ nat_abs_neg z
