-- `M` lines: faultless exactly if they state multipliers that fit and justify the claim that is due.
use mathlib.Core.Path.{◌≡◌, refl, ap, subst}
use mathlib.Core.Bool.{true, false, not}
use mathlib.Core.List.{List, []}
use mathlib.Core.Option.{some}
use Prim.Native.Nat.{ℕ, ◌+◌, ◌≤◌}
use native.Mathlib.Omega.{arith}
use lib.Dec.{eqb}
use lib.ListN.{length, length-map, length-drop, drop}
use lib.Seq.{drop-cons}
use Rattle.theory.specs.Lists.{every, ◌∈◌, ending}
use Rattle.theory.specs.Text.{Bytes, bytes, natural, decimal}
use Rattle.theory.specs.Packs.{Pack, variable_limit, number_limit, claims_on_all, multiplier_line, on_multipliers, on_rules, opening}
use Rattle.theory.specs.declared.Letter.TheVariants.{M}
use Rattle.theory.specs.Written.{field, multipliers_from, multiplier_from, add, on_last}
use Rattle.theory.specs.Residuals.{rule_variables}
use Rattle.theory.specs.Faults.{Manner, is_multiplier, last_rule, is_complete, residual_due, may_stand, multiplier_tests, tests}
use Rattle.theory.specs.Limits.{MultipliersFit, JustifiedBy}
use Rattle.groundwork.proofs.Truth.{not-true, not-false, eqb-equal, equal-eqb}
use Rattle.theory.proofs.Reading.FieldValues.{values_written, values_within, written_read, written_values}
use Rattle.theory.proofs.Judging.Faultless.{Faultless, Adds, Readable}
use Rattle.theory.proofs.Reading.Letters.{letter_field}
use Rattle.theory.proofs.Reading.PlainFields.{plain_cons, plain_map, decimal_plain, letter_plain}
use Rattle.theory.proofs.Judging.ResidualNumbers.{justified_nonnegative, nonnegative_justified}
use Rattle.theory.proofs.Reading.Spelling.{natural_of_decimal, decimal_of_natural, natural_within}
use Rattle.theory.proofs.Judging.Steps.{Step, multiplier_step}
use Rattle.theory.proofs.Judging.Tests.{Clear, ◌then◌}

pub multiplier_line_again : (fields : List Bytes) → 1 ≤ length fields → field 0 fields ≡ bytes "M" → every is_multiplier (drop 1 fields) ≡ true
    → multiplier_line (multipliers_from fields) ≡ fields
unfolding multiplier_line multipliers_from
multiplier_line_again fields long letter valid =
    let first = drop-cons fields 0 [] long in
    let rest = values_written (natural number_limit) decimal 0 (decimal_of_natural number_limit) (drop 1 fields) valid in
    cc

-- the tests of the count of fields and of the numbers pass: the multipliers fit
pub multipliers_fit : (p : Pack) (fields : List Bytes) → not (eqb (length fields) (length (claims_on_all p.claims (last_rule p).subgoals) + 1)) ≡ false
    → not (every is_multiplier (drop 1 fields)) ≡ false → MultipliersFit p.claims (last_rule p).subgoals (multipliers_from fields)
unfolding multipliers_from
multipliers_fit p fields counted valid =
    let many : length fields ≡ length (claims_on_all p.claims (last_rule p).subgoals) + 1 = eqb-equal (length fields) _ (not-false _ counted) in
    let numbers = drop 1 fields in
    record {
      full = omega (arith, length-map numbers multiplier_from, length-drop 1 fields);
      small = values_within (natural number_limit) (λ (m : ℕ). m ≤ number_limit) 0 (natural_within number_limit) numbers (not-false (every is_multiplier numbers) valid);
    }

-- (the residual is written in 17 numbers, so the variables must not be more than 16)
pub multiplier_step_lem : {m : Manner} (p : Pack) (fields : List Bytes) → length (rule_variables (last_rule p).head (last_rule p).subgoals) ≤ variable_limit
    → Faultless m M p fields → Step p fields (add M fields p)
unfolding add tests multiplier_tests may_stand letter_field residual_due
multiplier_step_lem p fields few h =
    let ms = multipliers_from fields in
    let c = h.clear in
    let many : length fields ≡ length (claims_on_all p.claims (last_rule p).subgoals) + 1 = eqb-equal (length fields) _ (not-false _ c.0) in
    let valid = not-false (every is_multiplier (drop 1 fields)) c.1.0 in
    let left = justified_nonnegative _ _ few (not-false _ c.1.1.0) in
    let fits = multipliers_fit p fields c.0 c.1.0 in
    let again = multiplier_line_again fields (omega arith) h.first valid in
    subst (λ (fs : List Bytes). Step p fs (on_rules (on_last (on_multipliers (ending ms))) p)) again (multiplier_step ms (not-true _ h.stands) fits left)

module _ (ms : List ℕ) (small : (m : ℕ) → m ∈ ms → m ≤ number_limit) where
  numbers_again : (m : ℕ) → m ∈ ms → natural number_limit (decimal m) ≡ some m
  numbers_again m here = natural_of_decimal number_limit m (small m here)

  multipliers_again : multipliers_from (multiplier_line ms) ≡ ms
  unfolding multipliers_from multiplier_line
  multipliers_again = written_values (natural number_limit) decimal 0 ms numbers_again

  pub multiplier_adds : (p : Pack) → Adds M p (multiplier_line ms) (on_rules (on_last (on_multipliers (ending ms))) p)
  unfolding add multiplier_line letter_field
  multiplier_adds p =
      record {
        starts = refl;
        is = ap (λ (ns : List ℕ). on_rules (on_last (on_multipliers (ending ns))) p) multipliers_again;
        plain = plain_cons (letter_plain M) (plain_map decimal decimal_plain ms);
      }

module _ (p : Pack) (ms : List ℕ) (fits : MultipliersFit p.claims (last_rule p).subgoals ms) where
  multiplier_clear : JustifiedBy (opening p) (last_rule p) (length (last_rule p).multipliers) ms
      → Clear (multiplier_tests (multiplier_line ms) p)
  unfolding multiplier_tests multiplier_line residual_due
  multiplier_clear left =
      rw (multipliers_again ms fits.small)
      (ap not (equal-eqb (length (multiplier_line ms)) (length (claims_on_all p.claims (last_rule p).subgoals) + 1) (omega (arith, length-map ms decimal, fits.full)))
      then ap not (written_read (natural number_limit) decimal ms (numbers_again ms fits.small))
      then ap not (nonnegative_justified _ _ left)
      then tt)

  pub multiplier_readable : {m : Manner} → is_complete p ≡ false
      → JustifiedBy (opening p) (last_rule p) (length (last_rule p).multipliers) ms
      → Readable m M p (multiplier_line ms) (on_rules (on_last (on_multipliers (ending ms))) p)
  unfolding tests may_stand multiplier_line letter_field
  multiplier_readable due left =
      record {
        faultless = record { first = refl; stands = ap not due; clear = multiplier_clear left };
        adds = multiplier_adds ms fits.small p;
      }
