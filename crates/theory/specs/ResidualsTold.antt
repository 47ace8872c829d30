-- Document 01, "When a claim is justified" and "Forms", in words: what a claim says by the places of its numbers, what head form and
-- residual are at all sizes of the variables, how a rule's variables are numbered and how the residual's numbers lie in the area.
-- Facts and Residuals have the definitions; that they say this is promised (Promised, `SizesPromised`).
use Rattle.std.specs.Prelude.{◌≡◌, ◌↔◌, ℕ, ◌-◌, ◌≤◌, ℤ, pos, ◌+ℤ◌, ◌-ℤ◌, ◌*ℤ◌, length, get_or, replicate}
use mathlib.Core.List.{List, ◌∷◌, ◌++◌, map, flat_map}
use Rattle.theory.specs.Lists.{◌∈◌, summed}
use Rattle.theory.specs.Text.{Bytes}
use Rattle.theory.specs.Terms.{nil}
use Rattle.theory.specs.Sizes.{Measure, sizes_where, argument_sizes}
use Rattle.theory.specs.Forms.{Form, Once, value_at}
use Rattle.theory.specs.Packs.{Claim, Atom, no_claim, atom_key, claims_on, variable_limit}
use Rattle.theory.specs.Residuals.{claim_form, residual, atoms_variables, rule_variables, area_needed, residual_numbers}
use Rattle.theory.specs.Facts.{claim_at}

-- what a claim says is at least 0, at sizes of the arguments: its constant, and each of its numbers times the size at the same place
abbrev pub value_of : Claim → List ℕ → ℤ
value_of c sizes = c.constant +ℤ summed (length c.coefficients) (λ i. get_or c.coefficients i (pos 0) *ℤ pos (get_or sizes i 0))

-- Of a fact and a claim.
pub record ClaimTold (m : Measure) (f : Atom) (c : Claim) : Type 0 where
  pub is : claim_at m f c ≡ value_of c (argument_sizes m f.terms)

-- ## Residuals

-- a subgoal, and a claim on its predicate: an `M` line has a multiplier for it
pub record Owed : Type 0 where
  pub subgoal : Atom
  pub claim : Claim

abbrev pub owed : Atom → Claim → Owed
owed a c = record { subgoal = a; claim = c }

-- subgoals in order, claims in order within each
abbrev pub owed_by : List Claim → List Atom → List Owed
owed_by claims subgoals = flat_map (λ a. map (owed a) (claims_on (atom_key a) claims)) subgoals

-- what stands for the one at a place where there is none
abbrev pub none_owed : Owed
none_owed = owed (record { name = no_claim.name; terms = nil }) no_claim

-- At all sizes of the variables: the head form's value is the claim at the head's sizes; the residual's is that, less each multiplier
-- times its claim at its subgoal's sizes.
pub record ResidualTold (m : Measure) (claims : List Claim) (head : Atom) (subgoals : List Atom) (claim : Claim) (multipliers : List ℕ) : Type 0 where
  pub head_form : (sizes : Bytes → ℕ) → value_at sizes (rule_variables head subgoals) (claim_form m head claim) ≡ value_of claim (sizes_where m sizes head.terms)
  pub residual : (sizes : Bytes → ℕ) → value_at sizes (rule_variables head subgoals) (residual m claims head subgoals claim multipliers)
      ≡ value_of claim (sizes_where m sizes head.terms) -ℤ summed (length multipliers) (λ i.
      let o = get_or (owed_by claims subgoals) i none_owed in
      pos (get_or multipliers i 0) *ℤ value_of o.claim (sizes_where m sizes o.subgoal.terms))

-- ## Variables and numbers

-- A rule's variables: each once, those that occur and no others, and each where it first occurs: up to there stand only those that
-- are numbered before it.
pub record VariablesTold (head : Atom) (subgoals : List Atom) : Type 0 where
  pub once : Once (rule_variables head subgoals)
  pub occurs : (x : Bytes) → (x ∈ rule_variables head subgoals) ↔ (x ∈ atoms_variables (head ∷ subgoals))
  pub first_there : (lower higher : List Bytes) (x : Bytes) → rule_variables head subgoals ≡ lower ++ x ∷ higher
      → (before : List Bytes) × (after : List Bytes) × (atoms_variables (head ∷ subgoals) ≡ before ++ x ∷ after) × ((y : Bytes) → y ∈ before → y ∈ lower)

-- The residual's numbers for the area, where a rule has no more variables than it may: the constant, the variables' coefficients in
-- their order, zeros; 17 in all.
pub record NumbersTold (xs : List Bytes) (f : Form) : Type 0 where
  pub are : length xs ≤ variable_limit → residual_numbers xs f ≡ f.constant ∷ (map f.coefficient xs ++ replicate (variable_limit - length xs) (pos 0))
  pub count : length (residual_numbers xs f) ≡ area_needed
