-- A line that may come next, as what it adds: between the bytes of a line and the pack, no fault and no field is mentioned.
use mathlib.Core.Path.{◌≡◌}
use mathlib.Core.Bool.{true, false}
use mathlib.Core.List.{List, [], ◌∷◌}
use mathlib.Core.Option.{none}
use Prim.Native.Nat.{ℕ, ◌≤◌, ◌<◌}
use lib.ListN.{length}
use Rattle.theory.specs.Lists.{◌∈◌, ending}
use Rattle.theory.specs.Text.{Bytes}
use Rattle.theory.specs.Sizes.{Measure}
use Rattle.theory.specs.Packs.{ruled, Predicate, Claim, Atom, Rule, Pack, measure_in, predicate_limit, claim_limit, rule_limit, subgoal_limit, variable_limit, key_of, claim_key, declared_as, claims_on, predicate_line, claim_line, fact_line, head_line, subgoal_line, multiplier_line, on_subgoals, on_multipliers, on_predicates, on_claims, on_facts, on_rules, opening, head_alone, atom_key, from_rules, from_facts, from_claims}
use Rattle.theory.specs.Written.{on_last}
use Rattle.theory.specs.Residuals.{rule_variables}
use Rattle.theory.specs.Faults.{is_complete, last_rule}
use Rattle.theory.specs.Facts.{Meets}
use Rattle.theory.specs.Limits.{PredicateFits, ClaimFits, AtomFits, FactFits, MultipliersFit, JustifiedBy}

abbrev pub parts : List Predicate → List Claim → List Atom → List Rule → Pack
parts ps cs fs rs = record { predicates = ps; claims = cs; facts = fs; rules = rs }

-- a fact meets every claim on its predicate
abbrev pub MeetsEach : Measure → List Claim → Atom → Type 0
MeetsEach m claims f = (c : Claim) → c ∈ claims_on (atom_key f) claims → Meets m f c

-- after lines that write p, the line with these fields may come next, and then they write the other pack
pub data Step (p : Pack) : List Bytes → Pack → Type 0 where
  predicate_step : (x : Predicate) → from_claims p ≡ [] → PredicateFits x → declared_as (key_of x) p.predicates ≡ none
      → length p.predicates < predicate_limit → Step p (predicate_line x) (on_predicates (ending x) p)
  claim_step : (c : Claim) → from_facts p ≡ [] → ClaimFits p.predicates c → length (claims_on (claim_key c) p.claims) < claim_limit
      → Step p (claim_line c) (on_claims (ending c) p)
  fact_step : (f : Atom) → from_rules p ≡ [] → FactFits p.predicates f → MeetsEach (measure_in p) p.claims f
      → Step p (fact_line f) (on_facts (ending f) p)
  head_step : (a : Atom) → is_complete p ≡ true → (fits : AtomFits p.predicates a) → fits.predicate.kind ≡ ruled
      → length p.rules < rule_limit → length (rule_variables a []) ≤ variable_limit
      → Step p (head_line a) (on_rules (ending (head_alone a)) p)
  subgoal_step : (a : Atom) → (p.rules ≡ [] → ⊥) → (last_rule p).multipliers ≡ [] → AtomFits p.predicates a
      → length (last_rule p).subgoals < subgoal_limit → length (rule_variables (last_rule p).head (ending a (last_rule p).subgoals)) ≤ variable_limit
      → Step p (subgoal_line a) (on_rules (on_last (on_subgoals (ending a))) p)
  multiplier_step : (ms : List ℕ) → is_complete p ≡ false → MultipliersFit p.claims (last_rule p).subgoals ms
      → JustifiedBy (opening p) (last_rule p) (length (last_rule p).multipliers) ms
      → Step p (multiplier_line ms) (on_rules (on_last (on_multipliers (ending ms))) p)

-- some lines, one after another
pub data Run : Pack → List (List Bytes) → Pack → Type 0 where
  stay : {p : Pack} → Run p [] p
  go : {p q r : Pack} {fields : List Bytes} {rest : List (List Bytes)} → Step p fields q → Run q rest r → Run p (fields ∷ rest) r
