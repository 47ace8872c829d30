-- From justified claims to whole derivations: each rule keeps the claims, so every derivable fact meets them.
use mathlib.Core.Path.{refl, subst}
use mathlib.Core.List.Memᴰ
use mathlib.Core.List.{List, [], ◌∷◌}
use Prim.Native.Nat.{ℕ}
use lib.IntN.{pos}
use lib.Signed.{◌≤ℤ◌}
use Rattle.groundwork.proofs.Order.{nonneg_pos, add_nonneg, mul_nonneg, nonneg_of_rest}
use Rattle.groundwork.proofs.Lists.{member_get_d}
use Rattle.theory.specs.Lists.{◌∈◌}
use Rattle.theory.specs.Text.{Bytes}
use Rattle.theory.specs.Terms.{Substitution}
use Rattle.theory.specs.Sizes.{Measure, size}
use Rattle.theory.specs.Forms.{Form, value_at}
use Rattle.theory.specs.Packs.{Claim, Atom, Rule, Pack, measure_in, atom_key, claims_on, no_claim}
use Rattle.theory.specs.Residuals.{subgoal_forms, combined, residual, rule_variables}
use Rattle.theory.specs.Limits.{Formed, NonNegative, Justified}
use Rattle.theory.specs.Facts.{IsFact, Meets, MeetsAll}
use Rattle.theory.specs.Derivations.{GivenFact, atom_under, Derivable, is_given, by_rule}
use Rattle.theory.proofs.Judging.Variables.{rule_variables_once, head_variable, subgoal_variable}
use Rattle.theory.proofs.Soundness.SubgoalForms.{of_subgoal_lem}
use Rattle.theory.proofs.Soundness.FormValues.{value_plus, value_times, value_minus, value_zero, value_nonneg}
use Rattle.theory.proofs.Soundness.Sizes.{key_under, all_ground_under, claim_under}

-- ---- one rule

-- forms that are at least 0 somewhere are so with multipliers, added up
combined_nonneg : (size_of : Bytes → ℕ) (xs : List Bytes) (ms : List ℕ) (fs : List Form) → ((f : Form) → f ∈ fs → pos 0 ≤ℤ value_at size_of xs f) → pos 0 ≤ℤ value_at size_of xs (combined ms fs)
unfolding combined
combined_nonneg size_of xs [] fs h = rw value_zero (nonneg_pos 0)
combined_nonneg size_of xs (m ∷ ms) [] h = rw value_zero (nonneg_pos 0)
combined_nonneg size_of xs (m ∷ ms) (f ∷ fs) h =
    rw (value_plus, value_times)
    (add_nonneg _ _ (mul_nonneg _ _ (nonneg_pos m) (h f (Memᴰ.head refl))) (combined_nonneg size_of xs ms fs (λ g n. h g (Memᴰ.tail n))))

-- every subgoal under σ meets every claim on its predicate
abbrev pub SubgoalsMeet : Measure → List Claim → Rule → Substitution → Type 0
SubgoalsMeet m claims r σ = (a : Atom) → a ∈ r.subgoals → (c : Claim) → c ∈ claims_on (atom_key a) claims → Meets m (atom_under σ a) c

module _ (m : Measure) (claims : List Claim) (r : Rule) (σ : Substitution) (below : SubgoalsMeet m claims r σ) where
  subgoal_nonneg : (f : Form) → f ∈ subgoal_forms m claims r.subgoals → pos 0 ≤ℤ value_at (λ x. size m (σ.for x)) (rule_variables r.head r.subgoals) f
  subgoal_nonneg f n =
      let found = of_subgoal_lem m claims r.subgoals f n in
      let within = subgoal_variable r.head r.subgoals found.subgoal found.is_subgoal in
      rw (found.is, claim_under m σ _ (rule_variables_once r.head r.subgoals) found.subgoal found.claim within)
      (below found.subgoal found.is_subgoal found.claim found.is_claim).holds

  -- then a justified claim holds of the head under σ: what is left of it is at least 0, and so is what was taken away
  pub rule_keeps : (claim : Claim) (ms : List ℕ) → NonNegative (rule_variables r.head r.subgoals) (residual m claims r.head r.subgoals claim ms) → Meets m (atom_under σ r.head) claim
  unfolding residual
  rule_keeps claim ms justified =
      let size_of : Bytes → ℕ = λ x. size m (σ.for x) in
      let xs = rule_variables r.head r.subgoals in
      let left = rw value_minus at (value_nonneg size_of xs _ justified) in
      let taken = combined_nonneg size_of xs ms (subgoal_forms m claims r.subgoals) subgoal_nonneg in
      let value = claim_under m σ xs (rule_variables_once r.head r.subgoals) r.head claim (head_variable r.head r.subgoals) in
      record { holds = rw (← value) (nonneg_of_rest _ _ left taken) }

-- ---- whole derivations

module _ (p : Pack) (Given : Atom → Type 0) (givenFact : (f : Atom) → Given f → GivenFact p f) where
  pub derivable_is_fact : Formed p → (f : Atom) → Derivable p Given f → IsFact p f
  derivable_is_fact formed f (is_given g) = (givenFact f g).fact
  derivable_is_fact formed f (by_rule r m σ below) =
      let head = (formed.rules r m).head in
      record { predicate = head.predicate; declared = rw (key_under σ r.head) head.declared; ground = all_ground_under σ r.head.terms }

  pub derivable_meets : Justified p → (f : Atom) → Derivable p Given f → MeetsAll p f
  derivable_meets justified f (is_given g) = (givenFact f g).meets
  derivable_meets justified f (by_rule r m σ below) = record {
    meets = λ c n.
        let found = member_get_d no_claim (rw (key_under σ r.head) at n) in
        let subgoals : SubgoalsMeet (measure_in p) p.claims r σ = λ a l d k. (derivable_meets justified (atom_under σ a) (below a l)).meets d (rw (key_under σ a) k) in
        subst (Meets (measure_in p) (atom_under σ r.head)) found.2 (rule_keeps (measure_in p) p.claims r σ subgoals _ _ ((justified.rules r m).every found.0 found.1));
  }
