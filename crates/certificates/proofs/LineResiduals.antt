-- The sum over the atoms of an `M` line is the definition's residual, number by number.
use mathlib.Core.Path.{◌≡◌, sym, ◌∙◌, ap, ap₂}
use mathlib.Core.Bool.{Bool, true, false, cond}
use mathlib.Core.List.{List, [], map}
use Prim.Native.Nat.{ℕ, zero, suc, ◌+◌, ◌*◌, ◌≤◌, ◌<◌}
use native.Mathlib.Omega.{arith}
use lib.Dec.{eqb}
use lib.IntN.{ℤ, pos, neg_ℤ, ◌+ℤ◌, ◌-ℤ◌, ◌*ℤ◌, neg_ℤ-+ℤ}
use lib.ListN.{length, get_or, length-map, get_or-map}
use Rattle.groundwork.proofs.Stretches.{elements, from}
use Rattle.theory.specs.Text.{Bytes, natural, is_decimal}
use Rattle.theory.specs.Terms.{arity}
use Rattle.theory.specs.Sizes.{Measure}
use Rattle.theory.specs.Forms.{zero_form}
use Rattle.theory.specs.Packs.{Claim, Atom, Rule, Pack, measure_in}
use Rattle.theory.specs.Written.{multiplier_from}
use Rattle.theory.specs.Residuals.{claim_form, subgoal_forms, combined, residual, rule_variables}
use Rattle.tables.specs.declared.Slot.{Slot}
use Rattle.tables.specs.declared.State.{State}
use Rattle.tables.specs.Tables.{slot_at, Tables, ClaimAt, AtomStands, subgoal_at, SlotStands, RuleStands}
use Rattle.tables.specs.Lines.{at}
use Rattle.residuals.specs.Sums.{width, atom_sum, atoms_sum}
use Rattle.residuals.proofs.WeightedSums.{same_place, sum_below, sum_same, sum_none, sum_minus, sum_one, weighted_sum, weighted_none, weighted_minus, weighted_times}
use Rattle.residuals.proofs.FormNumbers.{form_number, number_minus, number_combined}
use Rattle.residuals.proofs.AtomSums.{row_at, claim_number, atom_sum_lem, atoms_sum_lem}
use Rattle.certificates.specs.Weights.{HeadWeighed}
use Rattle.certificates.specs.Multipliers.{weight_after, ProgressM}

-- ---- the subgoals

-- a claim that is of this atom or of another one
weighted_part : (b : Bool) (m : ℤ) (v row : ℕ → ℤ) (i : ℕ) → weighted_sum (λ j. cond b (m *ℤ v j) (pos 0)) row i ≡ cond b (m *ℤ weighted_sum v row i) (pos 0)
weighted_part true m v row i = weighted_times m v row i
weighted_part false m v row i = weighted_none row i

-- what a subgoal's weights come to after the first multipliers
abbrev part_after : List ℕ → ℕ → List ℤ → List Slot → List Bytes → ℕ → ℕ → ℕ → ℤ
part_after rows variables claims slots fs i index s = weighted_sum (λ j. weight_after claims slots fs s j index) (row_at rows variables (suc s) i) i

-- a multiplier times its form
abbrev taken : Measure → List Claim → List Atom → List Bytes → List Bytes → ℕ → ℕ → ℤ
taken measure cs subgoals xs fs i k = pos (multiplier_from (at fs k)) *ℤ form_number xs (get_or (subgoal_forms measure cs subgoals) k zero_form) i

module _ {measure : Measure} (rows : List ℕ) (claims : List ℤ) (slots : List Slot) (cs : List Claim) (subgoals : List Atom) (xs fs : List Bytes) (i : ℕ) (less : i < 17)
    (stand : (s : ℕ) → s < length subgoals → AtomStands measure rows (suc s) xs (subgoal_at subgoals s).terms) where
  subgoal_step_lem : (k : ℕ) → SlotStands measure claims slots cs subgoals k
      → sum_below (part_after rows (length xs) claims slots fs i (suc k)) (length subgoals) ≡ sum_below (part_after rows (length xs) claims slots fs i k) (length subgoals) -ℤ taken measure cs subgoals xs fs i k
  unfolding weight_after
  subgoal_step_lem k slot =
      sum_same _ _ (length subgoals) (λ s below. weighted_minus (old s) (λ j. cond (eqb subgoal s) (m *ℤ claim j) (pos 0)) (row s) i ∙ ap (λ z. part_after rows (length xs) claims slots fs i k s -ℤ z) (weighted_part (eqb subgoal s) m claim (row s) i))
      ∙ (sum_minus (part_after rows (length xs) claims slots fs i k) (λ s. cond (eqb subgoal s) (m *ℤ weighted_sum claim (row s) i) (pos 0)) (length subgoals)
      ∙ ap (λ z. sum_below (part_after rows (length xs) claims slots fs i k) (length subgoals) -ℤ z) (sum_one (λ s. m *ℤ weighted_sum claim (row s) i) subgoal (length subgoals) slot.subgoal ∙ ap (λ z. m *ℤ z) form))
    where
      subgoal : ℕ
      subgoal = (slot_at slots k).subgoal

      m : ℤ
      m = pos (multiplier_from (at fs k))

      claim : ℕ → ℤ
      claim j = from claims (slot_at slots k).place j

      row : ℕ → ℕ → ℤ
      row s = row_at rows (length xs) (suc s) i

      old : ℕ → ℕ → ℤ
      old s j = weight_after claims slots fs s j k

      form : weighted_sum claim (row subgoal) i ≡ form_number xs (get_or (subgoal_forms measure cs subgoals) k zero_form) i
      form = claim_number rows (suc subgoal) xs (subgoal_at subgoals subgoal) claims (slot_at slots k).place _ i less (stand subgoal slot.subgoal) slot.claim slot.full
          ∙ sym (ap (λ f. form_number xs f i) slot.form)

  subgoal_sums : (index : ℕ) → ((k : ℕ) → k < index → SlotStands measure claims slots cs subgoals k)
      → sum_below (part_after rows (length xs) claims slots fs i index) (length subgoals) ≡ neg_ℤ (sum_below (taken measure cs subgoals xs fs i) index)
  unfolding weight_after sum_below
  subgoal_sums zero slot = sum_none _ (length subgoals) (λ s below. weighted_none (row_at rows (length xs) (suc s) i) i)
  subgoal_sums (suc k) slot =
      subgoal_step_lem k (slot k (omega arith))
      ∙ (ap (λ z. z -ℤ taken measure cs subgoals xs fs i k) (subgoal_sums k (λ j below. slot j (omega arith)))
      ∙ sym (neg_ℤ-+ℤ (sum_below (taken measure cs subgoals xs fs i) k) (taken measure cs subgoals xs fs i k)))

-- ---- the line

all_taken : (measure : Measure) (cs : List Claim) (subgoals : List Atom) (xs fs : List Bytes) (i : ℕ)
    → form_number xs (combined (map multiplier_from fs) (subgoal_forms measure cs subgoals)) i ≡ sum_below (taken measure cs subgoals xs fs i) (length fs)
unfolding natural is_decimal
all_taken measure cs subgoals xs fs i =
    number_combined xs (map multiplier_from fs) (subgoal_forms measure cs subgoals) i
    ∙ (ap (sum_below _) (length-map fs multiplier_from)
    ∙ sum_same _ (taken measure cs subgoals xs fs i) (length fs) (λ k less. ap (λ m. pos m *ℤ form_number xs (get_or (subgoal_forms measure cs subgoals) k zero_form) i) (get_or-map multiplier_from fs k [])))

module _ (t : Tables) (s : State) (p : Pack) (r : Rule) (fs : List Bytes) (weights₀ weights : List ℤ) (place : ℕ) (c : Claim)
    (stands : RuleStands t s p r) (few : length r.subgoals ≤ 8)
    (progress : ProgressM fs (length fs) t.claims t.slots weights₀) (slots : length fs ≡ s.slots)
    (head : HeadWeighed t.claims place weights₀ weights) (due : ClaimAt t.claims place c) (full : length c.coefficients ≡ arity r.head.terms) where
  abbrev xs : List Bytes
  xs = rule_variables r.head r.subgoals

  head_number : (i : ℕ) → i < 17 → atom_sum weights t.rows (width (length xs)) 0 i ≡ form_number xs (claim_form (measure_in p) r.head c) i
  head_number i less =
      atom_sum_lem weights t.rows (length xs) 0 i (from t.claims place) (λ j below. same_place (elements weights) (0 * 9 + j) j (omega arith) ∙ head.weight j below)
      ∙ claim_number t.rows 0 xs r.head t.claims place c i less stands.head_rows due full

  subgoals_number : (i : ℕ) → i < 17 → sum_below (λ a. atom_sum weights t.rows (width (length xs)) (suc a) i) s.subgoals ≡ neg_ℤ (sum_below (taken (measure_in p) p.claims r.subgoals xs fs i) (length fs))
  subgoals_number i less =
      ap (sum_below _) stands.subgoals
      ∙ (sum_same _ (part_after t.rows (length xs) t.claims t.slots fs i (length fs)) (length r.subgoals)
      (λ a below. atom_sum_lem weights t.rows (length xs) (suc a) i _ (λ j low. head.above (suc a * 9 + j) (omega arith) ∙ progress.weight a j (omega arith) low))
      ∙ subgoal_sums t.rows t.claims t.slots p.claims r.subgoals xs fs i less stands.subgoal_rows (length fs) (λ k below. stands.slot k (omega arith)))

  pub line_number : (i : ℕ) → i < 17 → atoms_sum weights t.rows (width s.variables) i (suc s.subgoals) ≡ form_number xs (residual (measure_in p) p.claims r.head r.subgoals c (map multiplier_from fs)) i
  unfolding residual
  line_number i less =
      let forms = combined (map multiplier_from fs) (subgoal_forms (measure_in p) p.claims r.subgoals) in
      ap (λ (n : ℕ). atoms_sum weights t.rows (width n) i (suc s.subgoals)) stands.variables
      ∙ (atoms_sum_lem weights t.rows (length xs) i s.subgoals
      ∙ (ap₂ ◌+ℤ◌ (head_number i less) (subgoals_number i less ∙ ap neg_ℤ (sym (all_taken (measure_in p) p.claims r.subgoals xs fs i)))
      ∙ sym (number_minus xs (claim_form (measure_in p) r.head c) forms i)))
