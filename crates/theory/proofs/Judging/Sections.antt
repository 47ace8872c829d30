-- Sections of a pack: lines from one section on are none exactly if the lists of that section and of those after it are empty.
use mathlib.Core.Path.{◌≡◌, refl, sym, ◌∙◌, ap}
use mathlib.Core.Bool.{Bool, ◌&&◌}
use mathlib.Core.List.{List, [], ◌∷◌, ◌++◌, map, flat_map}
use Rattle.groundwork.proofs.Truth.{and_left, and_right}
use Rattle.theory.specs.Lists.{is_empty}
use Rattle.theory.specs.Text.{Bytes}
use Rattle.theory.specs.Packs.{Pack, Rule, claim_line, fact_line, rule_lines, from_rules, from_facts, from_claims}
use Rattle.theory.specs.declared.Letter.TheVariants.{P, C, G}
use Rattle.theory.specs.Faults.{may_stand}
use Rattle.theory.proofs.Reading.Presence.{is_empty_lem, empty_is}

-- ---- lists that are empty together

map_empty : {A : Type 0} (line_for : A → List Bytes) (l : List A) (rest : List (List Bytes)) → is_empty (map line_for l ++ rest) ≡ (is_empty l && is_empty rest)
unfolding is_empty
map_empty line_for [] rest = refl
map_empty line_for (a ∷ l) rest = refl

-- (a rule has at least the line of its head)
rules_empty : (rs : List Rule) → is_empty (flat_map rule_lines rs) ≡ is_empty rs
unfolding is_empty flat_map rule_lines
rules_empty [] = refl
rules_empty (r ∷ rs) = refl

-- ---- where `P`, `C` and `G` lines may stand

pub facts_stand : (p : Pack) → may_stand p G ≡ is_empty p.rules
unfolding may_stand from_rules
facts_stand p = rules_empty p.rules

pub claims_stand : (p : Pack) → may_stand p C ≡ (is_empty p.facts && is_empty p.rules)
unfolding may_stand from_facts
claims_stand p = map_empty fact_line p.facts (from_rules p) ∙ ap (λ (b : Bool). is_empty p.facts && b) (facts_stand p)

pub predicates_stand : (p : Pack) → may_stand p P ≡ (is_empty p.claims && (is_empty p.facts && is_empty p.rules))
unfolding may_stand from_claims
predicates_stand p = map_empty claim_line p.claims (from_facts p) ∙ ap (λ (b : Bool). is_empty p.claims && b) (claims_stand p)

-- ---- what is empty where there are no such lines

pub no_rules : (p : Pack) → from_rules p ≡ [] → p.rules ≡ []
unfolding from_rules
no_rules p e = is_empty_lem p.rules (sym (rules_empty p.rules) ∙ empty_is _ e)

-- where the lines of a list and those after it are none, the list is empty, and there are none after it
none_of_both : {A : Type 0} (line_for : A → List Bytes) (l : List A) (rest : List (List Bytes)) → map line_for l ++ rest ≡ [] → (l ≡ []) × (rest ≡ [])
none_of_both line_for l rest e =
    let both = sym (map_empty line_for l rest) ∙ empty_is _ e in
    (is_empty_lem l (and_left (is_empty l) (is_empty rest) both), is_empty_lem rest (and_right (is_empty l) (is_empty rest) both))

pub no_facts : (p : Pack) → from_facts p ≡ [] → (p.facts ≡ []) × (from_rules p ≡ [])
unfolding from_facts
no_facts p e = none_of_both fact_line p.facts (from_rules p) e

pub no_claims : (p : Pack) → from_claims p ≡ [] → (p.claims ≡ []) × (from_facts p ≡ [])
unfolding from_claims
no_claims p e = none_of_both claim_line p.claims (from_facts p) e
