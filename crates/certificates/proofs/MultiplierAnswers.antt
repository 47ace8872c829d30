-- An `M` line whose fields are all read: the residual's numbers decide.
use mathlib.Core.Path.{◌≡◌, refl, sym, ◌∙◌, ap, subst}
use Rattle.std.specs.Prelude.{Result, Ok, Err}
use mathlib.Core.Bool.{true, false}
use mathlib.Core.List.{List, []}
use Prim.Native.Nat.{ℕ, zero, suc, ◌+◌, ◌≤◌, ◌<◌}
use native.Mathlib.Omega.{arith}
use lib.IntN.{ℤ, pos}
use lib.ListN.{length, get_or, drop, length-drop}
use lib.Seq.{ext_get_or}
use lib.Signed.{non_neg}
use Rattle.groundwork.proofs.Truth.{not-true}
use Rattle.theory.specs.Lists.{every}
use Rattle.theory.specs.Text.{Bytes, fields_of}
use Rattle.theory.specs.Terms.{arity}
use Rattle.theory.specs.Packs.{atom_key, Key, claims_on, no_claim}
use Rattle.theory.specs.declared.Letter.TheVariants.{M}
use Rattle.theory.specs.Written.{Written, multipliers_from}
use Rattle.theory.specs.Residuals.{is_justified}
use Rattle.theory.specs.Faults.{Manner, first_given, is_multiplier, last_rule, is_complete, may_stand, claim_due, residual_due, multiplier_tests, tests, fault}
use Rattle.theory.proofs.Reading.Places.{places_every, not_every}
use Rattle.theory.proofs.Judging.Keys.{on_arity}
use Rattle.theory.proofs.Judging.Completeness.{rule_from_incomplete, due_from_incomplete}
use Rattle.forms.specs.declared.Form.{Form}
use Rattle.tables.specs.declared.State.{State}
use Rattle.tables.specs.declared.Opened.{Opened}
use Rattle.tables.specs.declared.Fault.{Fault}
use Rattle.tables.specs.Tables.{Tables, claim_place, ClaimAt, RuleStands, Holds, Safe}
use Rattle.tables.specs.Faults.{number_of, closing_number}
use Rattle.tables.specs.Lines.{Passed}
use Rattle.residuals.specs.Sums.{width, atoms_sum, number_at, form_numbers, SumsTo}
use Rattle.residuals.proofs.FormNumbers.{residual_length, residual_number}
use Rattle.certificates.specs.Multipliers.{ProgressM, ClosesM}
use Rattle.certificates.proofs.LineResiduals.{line_number}

form_number_lem : (form : Form) (i : ℕ) → get_or (form_numbers form) i (pos 0) ≡ number_at form i
form_number_lem form zero = refl
form_number_lem form (suc i) = refl

module _ {manner : Manner} {line : Bytes} {t : Tables} {s : State} {w : Written} {o : Opened} {weights₀ weights : List ℤ} {r : Result State Fault} (holds : Holds t s w) (safe : Safe t s) (passed : Passed manner M line s w o)
    (progress : ProgressM (drop 1 (fields_of line)) (length (drop 1 (fields_of line))) t.claims t.slots weights₀)
    (closes : ClosesM s t.claims weights₀ t.rows r weights) where
  incomplete : is_complete w.pack ≡ false
  unfolding may_stand
  incomplete = not-true (is_complete w.pack) passed.stands

  pub has_rule : w.pack.rules ≡ [] → ⊥
  has_rule = rule_from_incomplete w.pack incomplete

  stands : RuleStands t s w.pack (last_rule w.pack)
  stands = holds.last has_rule

  -- the claim that is due stands in the table, in full
  due_claim : ClaimAt t.claims (claim_place s.head s.multipliers) (claim_due w.pack) × (length (claim_due w.pack).coefficients ≡ arity (last_rule w.pack).head.terms)
  due_claim =
      let onKey = subst OnKey stands.head_key (λ j below. holds.claims.at s.head j stands.head below) in
      let due = length (last_rule w.pack).multipliers in
      let inside = due_from_incomplete w.pack incomplete in
      rw stands.multipliers (onKey due inside, on_arity (atom_key (last_rule w.pack).head) w.pack.claims due inside)
    where
      OnKey : Key → Type 0
      OnKey k = (j : ℕ) → j < length (claims_on k w.pack.claims)
          → ClaimAt t.claims (claim_place s.head j) (get_or (claims_on k w.pack.claims) j no_claim)

  abbrev residue : List ℤ
  residue = residual_due w.pack (multipliers_from (fields_of line))

  residue_length : length residue ≡ 17
  unfolding residual_due
  residue_length = residual_length _ _

  -- the numbers of a sum by the line's weights are those of the residual
  module _ (form : Form) (sums : SumsTo closes.weighed t.rows (width s.variables) (s.subgoals + 1) form) where
    sum_number : (i : ℕ) → i < 17 → number_at form i ≡ get_or residue i (pos 0)
    unfolding residual_due multipliers_from
    sum_number i less =
        let rule = last_rule w.pack in
        let fs = drop 1 (fields_of line) in
        let few : length rule.subgoals ≤ 8 = omega (arith, stands.subgoals, safe.state.subgoals) in
        let many : length fs ≡ s.slots = omega (arith, length-drop 1 (fields_of line), passed.named) in
        let one_more_lem : s.subgoals + 1 ≡ suc s.subgoals = omega arith in
        sums.number i less
        ∙ (ap (atoms_sum closes.weighed t.rows (width s.variables) i) one_more_lem
        ∙ (line_number t s w.pack rule fs weights₀ closes.weighed _ (claim_due w.pack) stands few progress many closes.head due_claim.0 due_claim.1 i less
        ∙ sym (residual_number _ _ i less)))

    pub sum_numbers : length form.coefficients ≡ 16 → form_numbers form ≡ residue
    sum_numbers long =
        ext_get_or (pos 0) (form_numbers form) residue (ap suc long ∙ sym residue_length)
        (λ i inside. form_number_lem form i ∙ sum_number i (omega (arith, long)))

  -- ---- the answer

  own_number : (i : ℕ) → i < 17 → get_or residue i (pos 0) ≡ number_at closes.sum i
  own_number i less = sym (sum_number closes.sum closes.sums i less)

  justified : (next : State) → r ≡ Ok next → is_justified residue ≡ true
  unfolding is_justified
  justified next done = places_every non_neg residue (pos 0) λ i inside.
      let below : i < 17 = omega (arith, residue_length) in
      ap non_neg (own_number i below) ∙ (closes.done next done).2 i below

  unjustified : (i : ℕ) → i < 17 → non_neg (number_at closes.sum i) ≡ false → is_justified residue ≡ false
  unfolding is_justified
  unjustified i below negative = not_every non_neg residue (pos 0) i (omega (arith, residue_length)) (ap non_neg (own_number i below) ∙ negative)

  pub residual_answer : fault manner w line ≡ closing_number r
  unfolding tests multiplier_tests first_given
  residual_answer = decided r refl
    where
      all_good : every is_multiplier (drop 1 (fields_of line)) ≡ true
      all_good = places_every is_multiplier (drop 1 (fields_of line)) [] progress.good

      decided : (q : Result State Fault) → r ≡ q → fault manner w line ≡ closing_number q
      decided (Ok next) e = passed.left ∙ rw (all_good, justified next e)
      decided (Err f) e =
          let (is, same, (i, below, negative)) = closes.unjustified f e in
          passed.left ∙ rw (all_good, unjustified i below negative) (sym (ap number_of is))
