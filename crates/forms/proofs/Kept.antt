-- Numbers that the code keeps as bits, of one width or of two, and reads as they were.
use mathlib.Core.Path.{◌≡◌, ◌∙◌}
use mathlib.Core.Bool.{false}
use Prim.Native.Nat.{◌^◌, ◌<◌}
use native.Mathlib.Omega.{arith}
use lib.Dec.{T, leb}
use lib.IntN.{ℤ, pos, nat_abs}
use lib.Signed.{lt_z, non_neg, lt_z_no, yes_non_neg}
use mir.Facts.{to_z-of_z, sfits_widen, Fits-nat_abs}
use mir.Syntax.{Width, w64}
use mir.Val.{Fits, SFits, hbits, to_z, of_z}
use Rattle.groundwork.proofs.Magnitude.{mag_le_nat_abs}
use Rattle.groundwork.proofs.Truth.{fails_from}

-- what the code reads of an integer that it keeps at a width
abbrev pub kept_at : Width → ℤ → ℤ
kept_at w z = to_z w (of_z w z)

pub small_fits : (w : Width) (z : ℤ) → nat_abs z < 2 ^ hbits w → SFits w z
small_fits w z small = record { sfits = omega (arith, mag_le_nat_abs z) }

pub small_kept : (w : Width) (z : ℤ) → nat_abs z < 2 ^ hbits w → kept_at w z ≡ z
small_kept w z small = to_z-of_z (small_fits w z small)

-- a number read at one width and kept at a wider one
pub widened : (v w : Width) (x r : ℤ) → T (leb (hbits v) (hbits w)) → SFits v x → r ≡ kept_at v x → kept_at w r ≡ x
widened v w x r wider fits e = let same : r ≡ x = e ∙ to_z-of_z fits in rw same (to_z-of_z (sfits_widen wider fits))

-- a number that is not below 0, as one without a sign
pub unsigned_fits : (z : ℤ) → SFits w64 z → lt_z z (pos 0) ≡ false → T (non_neg (kept_at w64 z)) × Fits w64 (nat_abs (kept_at w64 z))
unsigned_fits z fits e = rw (to_z-of_z fits) (yes_non_neg {z = z} (lt_z_no {a = z} (fails_from _ e)), Fits-nat_abs tt fits)
