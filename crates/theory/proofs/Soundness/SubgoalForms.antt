-- The forms that an `M` line multiplies: each is of a claim on the predicate of a subgoal.
use mathlib.Core.Path.{◌≡◌, refl, sym}
use mathlib.Core.Logic.{◌⊎◌, inl, inr}
use mathlib.Core.List.Memᴰ
use mathlib.Core.List.{List, [], ◌∷◌, map}
use Rattle.theory.specs.Lists.{◌∈◌}
use Rattle.theory.specs.Sizes.{Measure}
use Rattle.theory.specs.Forms.{Form}
use Rattle.theory.specs.Packs.{Claim, Atom, atom_key, claims_on}
use Rattle.theory.specs.Residuals.{claim_form, subgoal_forms}

pub record OfSubgoal (m : Measure) (claims : List Claim) (subgoals : List Atom) (f : Form) : Type 0 where
  pub subgoal : Atom
  pub is_subgoal : subgoal ∈ subgoals
  pub claim : Claim
  pub is_claim : claim ∈ claims_on (atom_key subgoal) claims
  pub is : f ≡ claim_form m subgoal claim

pub of_subgoal_lem : (m : Measure) (claims : List Claim) (subgoals : List Atom) (f : Form) → f ∈ subgoal_forms m claims subgoals → OfSubgoal m claims subgoals f
unfolding subgoal_forms
of_subgoal_lem m claims [] f n = absurd (Memᴰ.not-nil n)
of_subgoal_lem m claims (a ∷ subgoals) f n = step (of_subgoal_lem m claims subgoals f) (Memᴰ.append_cases (map (claim_form m a) (claims_on (atom_key a) claims)) n)
  where
    step : (f ∈ subgoal_forms m claims subgoals → OfSubgoal m claims subgoals f) → (f ∈ map (claim_form m a) (claims_on (atom_key a) claims)) ⊎ (f ∈ subgoal_forms m claims subgoals) → OfSubgoal m claims (a ∷ subgoals) f
    step below (inl here) =
        let found = Memᴰ.of_map (claim_form m a) (claims_on (atom_key a) claims) here in
        record { subgoal = a; is_subgoal = Memᴰ.head refl; claim = found.0; is_claim = found.1; is = sym found.2 }
    step below (inr there) =
        let found = below there in
        record { subgoal = found.subgoal; is_subgoal = Memᴰ.tail found.is_subgoal; claim = found.claim; is_claim = found.is_claim; is = found.is }
