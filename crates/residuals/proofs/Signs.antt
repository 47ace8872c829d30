-- Whether a number of a form is below 0.
use mathlib.Core.Path.{◌≡◌, refl}
use mathlib.Core.Bool.{Bool, true, false}
use Prim.Native.Nat.{ℕ, suc, ◌<◌}
use native.Mathlib.Omega.{arith}
use lib.IntN.{pos}
use lib.ListN.{length}
use lib.Signed.{non_neg, ◌≤ℤ◌, ◌<ℤ◌}
use Rattle.std.proofs.lemmas.Int.{ints}
use Rattle.std.specs.Bool.{MatchBool}
use Rattle.std.specs.List.{AllWithin, HoldsAt}
use Rattle.groundwork.proofs.Truth.{never_both}
use Rattle.forms.specs.declared.Form.{Form}
use Rattle.residuals.specs.Sums.{Judged}
use Rattle.residuals.proofs.Rows.{each_number}

-- what a pass over the coefficients says, where the constant is not below 0
pub judged : {f : Form} {r : Bool} → pos 0 ≤ℤ f.constant → length f.coefficients ≡ 16
    → MatchBool r (AllWithin (λ z. pos 0 ≤ℤ z) f.coefficients 0 (length f.coefficients)) ((k : ℕ) × (k < length f.coefficients) × HoldsAt (λ z. z <ℤ pos 0) f.coefficients k) → Judged f r
judged {f} {r = true} constant size each =
    record { yes = λ h. each_number (λ i z. non_neg z ≡ true) f (grind (arith, ints, constant)) (λ i less. let here = each i (pos 0) (omega arith) (omega arith) in grind (arith, ints, here)); no = λ h. never_both refl h }
judged {f} {r = false} constant size found =
    let here = found.2 (pos 0) in
    record { yes = λ h. never_both h refl; no = λ h. (suc found.0, omega (arith, found.1), grind (arith, ints, here)) }
