-- A run that writes a given pack: predicates, claims, facts and rules one after another, and each rule by its head, subgoals and multipliers.
use mathlib.Core.Path.{◌≡◌, refl, sym, ◌∙◌, ap, subst}
use mathlib.Core.List.Memᴰ
use mathlib.Core.List.{List, flat_map, [], ◌∷◌, ◌++◌, append_assoc}
use Prim.Native.Nat.{ℕ, ◌≤◌, ◌<◌}
use native.Mathlib.Nat.{le_of_eq, le_trans}
use native.Mathlib.Omega.{arith}
use lib.ListN.{length, get_or}
use lib.Seq.{get_or-append_seam}
use Rattle.theory.specs.Lists.{◌∈◌, ending}
use Rattle.theory.specs.Text.{Bytes}
use Rattle.theory.specs.Packs.{from_rules, from_facts, from_claims, Predicate, Claim, Atom, Rule, Pack, subgoal_limit, variable_limit, claim_key, atom_key, claims_on, subgoal_line, multiplier_line, on_subgoals, on_multipliers, opening}
use Rattle.theory.specs.Residuals.{rule_variables}
use Rattle.theory.specs.Faults.{no_rule, last_of}
use Rattle.theory.specs.Limits.{JustifiedBy, AtomFits, MultipliersFit, RuleFits, Fits, Justified}
use Rattle.groundwork.proofs.Lists.{member_unempty, split_member, split_shorter, grown}
use Rattle.theory.proofs.Judging.LastRule.{last_of_end, on_last_end}
use Rattle.theory.proofs.Judging.Completeness.{complete_from_whole, incomplete_from_due}
use Rattle.theory.proofs.Judging.ClaimsOn.{claims_before}
use Rattle.theory.proofs.Judging.RuleVariables.{variables_of_fewer}
use Rattle.theory.proofs.Judging.Steps.{parts, Step, predicate_step, claim_step, fact_step, head_step, subgoal_step, multiplier_step, Run, stay, go}

-- some lines lead from one pack to another
abbrev pub Built : Pack → Pack → Type 0
Built p q = (ls : List (List Bytes)) × Run p ls q

run_end : {p q r : Pack} {ls : List (List Bytes)} {fields : List Bytes} → Run p ls q → Step q fields r → Run p (ls ++ (fields ∷ [])) r
run_end stay step = go step stay
run_end (go first run) step = go first (run_end run step)

built_end : {p q r : Pack} {fields : List Bytes} → Built p q → Step q fields r → Built p r
built_end {fields = fields} built step = (built.0 ++ (fields ∷ []), run_end built.1 step)

-- ---- steps on a rule that stands last

module _ (ps : List Predicate) (cs : List Claim) (fs : List Atom) (before : List Rule) (r : Rule) where
  end_unempty : before ++ (r ∷ []) ≡ [] → ⊥
  end_unempty = member_unempty (split_member before [] r refl)

  -- what holds of the rule holds of the last one
  of_last : (P : Rule → Type 0) → P r → P (last_of no_rule (before ++ (r ∷ [])))
  of_last P h = subst P (sym (last_of_end no_rule before r)) h

  last_subgoal_step : (a : Atom) → r.multipliers ≡ [] → AtomFits ps a → length r.subgoals < subgoal_limit → length (rule_variables r.head (ending a r.subgoals)) ≤ variable_limit
      → Step (parts ps cs fs (before ++ (r ∷ []))) (subgoal_line a) (parts ps cs fs (before ++ (on_subgoals (ending a) r ∷ [])))
  last_subgoal_step a none fits room few =
      subst (λ (rs : List Rule). Step (parts ps cs fs (before ++ (r ∷ []))) (subgoal_line a) (parts ps cs fs rs)) (on_last_end (on_subgoals (ending a)) before r)
      (subgoal_step a end_unempty
      (of_last (λ (s : Rule). s.multipliers ≡ []) none)
      fits
      (of_last (λ (s : Rule). length s.subgoals < subgoal_limit) room)
      (of_last (λ (s : Rule). length (rule_variables s.head (ending a s.subgoals)) ≤ variable_limit) few))

  last_multiplier_step : (ms : List ℕ) → length r.multipliers < length (claims_on (atom_key r.head) cs) → MultipliersFit cs r.subgoals ms
      → JustifiedBy (parts ps cs fs []) r (length r.multipliers) ms
      → Step (parts ps cs fs (before ++ (r ∷ []))) (multiplier_line ms) (parts ps cs fs (before ++ (on_multipliers (ending ms) r ∷ [])))
  last_multiplier_step ms due fits left =
      subst (λ (rs : List Rule). Step (parts ps cs fs (before ++ (r ∷ []))) (multiplier_line ms) (parts ps cs fs rs)) (on_last_end (on_multipliers (ending ms)) before r)
      (multiplier_step ms
      (incomplete_from_due (parts ps cs fs (before ++ (r ∷ []))) end_unempty (of_last (λ (s : Rule). length s.multipliers < length (claims_on (atom_key s.head) cs)) due))
      (of_last (λ (s : Rule). MultipliersFit cs s.subgoals ms) fits)
      (of_last (λ (s : Rule). JustifiedBy (parts ps cs fs []) s (length s.multipliers) ms) left))

-- ---- the pack, part by part

module _ (start p : Pack) (fits : Fits p) where
  predicates_built : Built start (parts [] [] [] []) → Built start (parts p.predicates [] [] [])
  unfolding from_claims from_facts from_rules flat_map
  predicates_built = grown (λ (ps : List Predicate). Built start (parts ps [] [] [])) p.predicates next
    where
      next : (before after : List Predicate) (x : Predicate) → p.predicates ≡ before ++ (x ∷ after) → Built start (parts before [] [] []) → Built start (parts (before ++ (x ∷ [])) [] [] [])
      next before after x e built =
          built_end built (predicate_step x refl (fits.formed.predicates x (split_member before after x e)) (fits.formed.distinct before after x e) (le_trans (split_shorter before after x e) fits.counts.predicates))

  claims_built : Built start (parts p.predicates [] [] []) → Built start (parts p.predicates p.claims [] [])
  unfolding from_facts from_rules flat_map
  claims_built = grown (λ (cs : List Claim). Built start (parts p.predicates cs [] [])) p.claims next
    where
      next : (before after : List Claim) (c : Claim) → p.claims ≡ before ++ (c ∷ after) → Built start (parts p.predicates before [] []) → Built start (parts p.predicates (before ++ (c ∷ [])) [] [])
      next before after c e built =
          let k = claim_key c in
          built_end built (claim_step c refl (fits.formed.claims c (split_member before after c e)) (omega (arith, claims_before before after c, ap (λ (cs : List Claim). length (claims_on k cs)) e, fits.counts.claims k)))

  module _ (justified : Justified p) where
    facts_built : Built start (parts p.predicates p.claims [] []) → Built start (parts p.predicates p.claims p.facts [])
    unfolding from_rules flat_map
    facts_built = grown (λ (fs : List Atom). Built start (parts p.predicates p.claims fs [])) p.facts next
      where
        next : (before after : List Atom) (f : Atom) → p.facts ≡ before ++ (f ∷ after) → Built start (parts p.predicates p.claims before []) → Built start (parts p.predicates p.claims (before ++ (f ∷ [])) [])
        next before after f e built = let m = split_member before after f e in built_end built (fact_step f refl (fits.formed.facts f m) (justified.facts f m).meets)

    -- one rule more: its head, then its subgoals, then its multiplier lists
    rule_built : (before after : List Rule) (r : Rule) → p.rules ≡ before ++ (r ∷ after)
        → Built start (parts p.predicates p.claims p.facts before) → Built start (parts p.predicates p.claims p.facts (before ++ (r ∷ [])))
    rule_built before after r e built =
        grown (λ (mss : List (List ℕ)). Open r.subgoals mss) r.multipliers next_multipliers
        (grown (λ (gs : List Atom). Open gs []) r.subgoals next_subgoal head_open)
      where
        Open : List Atom → List (List ℕ) → Type 0
        Open gs mss = Built start (parts p.predicates p.claims p.facts (before ++ (on_multipliers (λ (old : List (List ℕ)). mss) (on_subgoals (λ (old : List Atom). gs) r) ∷ [])))

        rule_fits : RuleFits (opening p) r
        rule_fits = fits.formed.rules r (split_member before after r e)

        kept : (s : Rule) → s ∈ before → s ∈ p.rules
        kept s m = subst (λ (rs : List Rule). s ∈ rs) (sym e) (Memᴰ.append_left (r ∷ after) m)

        head_open : Open [] []
        head_open =
            built_end built
            (head_step r.head
            (complete_from_whole (parts p.predicates p.claims p.facts before) (λ s m. le_of_eq (sym (fits.formed.rules s (kept s m)).every_claim)))
            rule_fits.head
            rule_fits.is_ruled
            (le_trans (split_shorter before after r e) fits.counts.rules)
            (le_trans (variables_of_fewer r.head [] r.subgoals) rule_fits.few_variables))

        next_subgoal : (earlier later : List Atom) (a : Atom) → r.subgoals ≡ earlier ++ (a ∷ later) → Open earlier [] → Open (earlier ++ (a ∷ [])) []
        next_subgoal earlier later a h opened =
            let few = subst (λ (gs : List Atom). length (rule_variables r.head gs) ≤ variable_limit) (h ∙ sym (append_assoc earlier (a ∷ []) later)) rule_fits.few_variables in
            built_end opened
            (last_subgoal_step p.predicates p.claims p.facts before _ a refl
            (rule_fits.subgoals a (split_member earlier later a h))
            (le_trans (split_shorter earlier later a h) rule_fits.few_subgoals)
            (le_trans (variables_of_fewer r.head (earlier ++ (a ∷ [])) later) few))

        next_multipliers : (earlier later : List (List ℕ)) (ms : List ℕ) → r.multipliers ≡ earlier ++ (ms ∷ later) → Open r.subgoals earlier → Open r.subgoals (earlier ++ (ms ∷ []))
        next_multipliers earlier later ms h opened =
            let due : length earlier < length (claims_on (atom_key r.head) p.claims) = omega (arith, split_shorter earlier later ms h, rule_fits.every_claim) in
            let found = ap (λ (mss : List (List ℕ)). get_or mss (length earlier) []) h ∙ get_or-append_seam earlier ms later [] in
            built_end opened
            (last_multiplier_step p.predicates p.claims p.facts before _ ms due
            (rule_fits.multipliers ms (split_member earlier later ms h))
            (subst (JustifiedBy (opening p) r (length earlier)) found ((justified.rules r (split_member before after r e)).every (length earlier) due)))

    pub pack_built : Built start (parts [] [] [] []) → Built start p
    pack_built built = grown (λ (rs : List Rule). Built start (parts p.predicates p.claims p.facts rs)) p.rules rule_built (facts_built (claims_built (predicates_built built)))
