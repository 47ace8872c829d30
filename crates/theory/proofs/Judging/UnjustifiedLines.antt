-- What a 13 says of its line: it is a line of multipliers that is due, they fit, and a number of the residual is below 0.
use mathlib.Core.Path.{◌≡◌, sym, ◌∙◌, ap}
use Prim.Native.Nat.{ℕ, ◌+◌, ◌<◌}
use native.Mathlib.Omega.{arith}
use lib.IntN.{ℤ, pos}
use lib.ListN.{length}
use lib.Signed.{non_neg, ◌<ℤ◌}
use Rattle.groundwork.proofs.Order.{below_zero}
use Rattle.groundwork.proofs.Truth.{not-true, not-false, eqb-equal}
use Rattle.theory.specs.Lists.{◌∈◌}
use Rattle.theory.specs.Text.{Bytes, fields_of}
use Rattle.theory.specs.Packs.{claims_on_all, multiplier_line, line}
use Rattle.theory.specs.declared.Letter.TheVariants.{M}
use Rattle.theory.specs.Written.{line_letter, field, Written, multipliers_from}
use Rattle.theory.specs.Residuals.{is_justified}
use Rattle.theory.specs.Faults.{whole, last_rule, head_claims, may_stand, residual_due, multiplier_tests, tests, fault}
use Rattle.theory.specs.Limits.{MultipliersFit}
use Rattle.theory.proofs.Reading.Every.{some_failing}
use Rattle.theory.proofs.Reading.Letters.{letter_field, field_of_letter}
use Rattle.theory.proofs.Reading.Separators.{joined_of_parts}
use Rattle.theory.proofs.Judging.Completeness.{due_from_incomplete}
use Rattle.theory.proofs.Judging.FaultNumbers.{past_place, passed_over, thirteen_is_m}
use Rattle.theory.proofs.Judging.Tests.{last_found}
use Rattle.theory.proofs.Judging.MultiplierLines.{multiplier_line_again, multipliers_fit}

pub record UnjustifiedLine (w : Written) (l : Bytes) : Type 0 where
  pub due : length (last_rule w.pack).multipliers < length (head_claims w.pack)
  pub is_line : l ≡ line (multiplier_line (multipliers_from (fields_of l)))
  pub fit : MultipliersFit w.pack.claims (last_rule w.pack).subgoals (multipliers_from (fields_of l))
  pub negative : (z : ℤ) × (z ∈ residual_due w.pack (multipliers_from (fields_of l))) × (z <ℤ pos 0)

pub unjustified_line_lem : (w : Written) (l : Bytes) → fault whole w l ≡ 13 → UnjustifiedLine w l
unfolding tests multiplier_tests may_stand is_justified letter_field
unjustified_line_lem w l e =
    let fields = fields_of l in
    let place = past_place whole w l 13 e (λ h. omega arith) (λ h. omega arith) in
    let is_m = thirteen_is_m whole (line_letter l) fields w.pack place.found in
    let (counted, more) = passed_over 9 13 _ _ (λ h. omega arith) (rw is_m at place.found) in
    let (valid, last) = passed_over 10 13 _ _ (λ h. omega arith) more in
    let many : length fields ≡ length (claims_on_all w.pack.claims (last_rule w.pack).subgoals) + 1 = eqb-equal (length fields) _ (not-false _ counted) in
    let letter = field_of_letter (field 0 fields) M (λ h. let never : ◌≡◌ {A = ℕ} 0 1 = cc in omega arith) is_m in
    record {
      due = due_from_incomplete w.pack (not-true _ (rw is_m at place.stands));
      is_line = sym (joined_of_parts 44 l) ∙ ap line (sym (multiplier_line_again fields (omega arith) letter (not-false _ valid)));
      fit = multipliers_fit w.pack fields counted valid;
      negative = let (z, m, fails) = some_failing non_neg (residual_due w.pack (multipliers_from fields)) (not-true _ (last_found 13 _ (omega arith) last)) in (z, m, below_zero z fails);
    }
