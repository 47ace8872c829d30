-- The lines of a pack, line by line: a step adds its line, and a run its lines.
use mathlib.Core.Path.{◌≡◌, sym, ◌∙◌, ap}
use mathlib.Core.List.{List, [], ◌∷◌, ◌++◌, map, flat_map, append_assoc, append-nil, map-append, drop_last}
use Prim.Native.Nat.{ℕ}
use Rattle.groundwork.proofs.Lists.{flat_map_end}
use Rattle.theory.specs.Lists.{ending}
use Rattle.theory.specs.Text.{Bytes}
use Rattle.theory.specs.Packs.{Predicate, Claim, Atom, Rule, Pack, predicate_line, claim_line, fact_line, head_line, subgoal_line, multiplier_line, rule_lines, open_lines, on_subgoals, on_multipliers, on_predicates, on_claims, on_facts, head_alone, on_rules, from_rules, from_facts, from_claims, from_predicates}
use Rattle.theory.specs.Written.{on_last}
use Rattle.theory.specs.Faults.{no_rule, last_of, last_rule}
use Rattle.theory.proofs.Judging.LastRule.{last_parts, on_last_parts}
use Rattle.theory.proofs.Judging.Completeness.{rule_from_incomplete}
use Rattle.theory.proofs.Judging.Steps.{Step, predicate_step, claim_step, fact_step, head_step, subgoal_step, multiplier_step, Run, stay, go}

-- what comes before nothing comes at the end
before_nothing : {A : Type 0} (l rest more : List A) → rest ≡ [] → l ++ more ++ rest ≡ l ++ rest ++ more
before_nothing {A} l rest more e =
    ap (λ (r : List A). l ++ more ++ r) e ∙ append-nil (l ++ more) ∙ ap (λ (r : List A). r ++ more) (sym (append-nil l) ∙ ap (λ (r : List A). l ++ r) (sym e))

-- ---- the lines of rules

subgoal_lines_lem : (a : Atom) (r : Rule) → r.multipliers ≡ [] → rule_lines (on_subgoals (ending a) r) ≡ rule_lines r ++ (subgoal_line a ∷ [])
unfolding rule_lines
subgoal_lines_lem a r h =
    let heads = map subgoal_line r.subgoals in
    let rest = map multiplier_line r.multipliers in
    ap (λ (l : List (List Bytes)). head_line r.head ∷ (l ++ rest)) (map-append subgoal_line r.subgoals (a ∷ []))
    ∙ ap (λ (l : List (List Bytes)). head_line r.head ∷ l) (before_nothing heads rest (subgoal_line a ∷ []) (ap (map multiplier_line) h))

multiplier_lines_lem : (ms : List ℕ) (r : Rule) → rule_lines (on_multipliers (ending ms) r) ≡ rule_lines r ++ (multiplier_line ms ∷ [])
unfolding rule_lines
multiplier_lines_lem ms r =
    let heads = head_line r.head ∷ map subgoal_line r.subgoals in
    ap (λ (l : List (List Bytes)). heads ++ l) (map-append multiplier_line r.multipliers (ms ∷ [])) ∙ sym (append_assoc heads (map multiplier_line r.multipliers) (multiplier_line ms ∷ []))

-- lines more of the last rule are lines more of the rules
last_lines : (change : Rule → Rule) (rs : List Rule) (more : List (List Bytes)) → (rs ≡ [] → ⊥) → rule_lines (change (last_of no_rule rs)) ≡ rule_lines (last_of no_rule rs) ++ more
    → flat_map rule_lines (on_last change rs) ≡ flat_map rule_lines rs ++ more
last_lines change rs more h e =
    let earlier = drop_last rs in
    let last = last_of no_rule rs in
    ap (flat_map rule_lines) (on_last_parts change no_rule rs h)
    ∙ flat_map_end rule_lines earlier (change last)
    ∙ ap (λ (l : List (List Bytes)). flat_map rule_lines earlier ++ l) e
    ∙ sym (append_assoc (flat_map rule_lines earlier) (rule_lines last) more)
    ∙ ap (λ (l : List (List Bytes)). l ++ more) (sym (ap (flat_map rule_lines) (last_parts no_rule rs h) ∙ flat_map_end rule_lines earlier last))

-- ---- the lines of packs

predicate_lines_lem : (x : Predicate) (p : Pack) → from_claims p ≡ [] → open_lines (on_predicates (ending x) p) ≡ open_lines p ++ (predicate_line x ∷ [])
unfolding from_predicates from_claims from_facts from_rules
predicate_lines_lem x p later =
    ap (λ (l : List (List Bytes)). l ++ from_claims p) (map-append predicate_line p.predicates (x ∷ []))
    ∙ before_nothing (map predicate_line p.predicates) (from_claims p) (predicate_line x ∷ []) later

claim_lines_lem : (c : Claim) (p : Pack) → from_facts p ≡ [] → open_lines (on_claims (ending c) p) ≡ open_lines p ++ (claim_line c ∷ [])
unfolding from_predicates from_claims from_facts from_rules
claim_lines_lem c p later =
    let first = map predicate_line p.predicates in
    ap (λ (l : List (List Bytes)). first ++ (l ++ from_facts p)) (map-append claim_line p.claims (c ∷ []))
    ∙ ap (λ (l : List (List Bytes)). first ++ l) (before_nothing (map claim_line p.claims) (from_facts p) (claim_line c ∷ []) later)
    ∙ sym (append_assoc first (from_claims p) (claim_line c ∷ []))

-- lines more from the facts on are lines more of the pack
facts_lines : (ps : List Predicate) (cs : List Claim) (now then more : List (List Bytes)) → then ≡ now ++ more
    → map predicate_line ps ++ (map claim_line cs ++ then) ≡ (map predicate_line ps ++ (map claim_line cs ++ now)) ++ more
facts_lines ps cs now then more e =
    let first = map predicate_line ps in
    let second = map claim_line cs in
    rw e (ap (λ (l : List (List Bytes)). first ++ l) (sym (append_assoc second now more)) ∙ sym (append_assoc first (second ++ now) more))

fact_lines_lem : (f : Atom) (p : Pack) → from_rules p ≡ [] → open_lines (on_facts (ending f) p) ≡ open_lines p ++ (fact_line f ∷ [])
unfolding from_predicates from_claims from_facts from_rules
fact_lines_lem f p later =
    facts_lines p.predicates p.claims _ _ (fact_line f ∷ [])
    (ap (λ (l : List (List Bytes)). l ++ from_rules p) (map-append fact_line p.facts (f ∷ []))
    ∙ before_nothing (map fact_line p.facts) (from_rules p) (fact_line f ∷ []) later)

-- lines more of the rules are lines more of the pack
rules_lines : (p : Pack) (rs : List Rule) (more : List (List Bytes)) → flat_map rule_lines rs ≡ flat_map rule_lines p.rules ++ more
    → open_lines (on_rules (λ (old : List Rule). rs) p) ≡ open_lines p ++ more
unfolding from_predicates from_claims from_facts from_rules
rules_lines p rs more e =
    let facts = map fact_line p.facts in
    facts_lines p.predicates p.claims _ _ more
    (ap (λ (l : List (List Bytes)). facts ++ l) e ∙ sym (append_assoc facts (flat_map rule_lines p.rules) more))

head_lines_lem : (a : Atom) (rs : List Rule) → flat_map rule_lines (rs ++ (head_alone a ∷ [])) ≡ flat_map rule_lines rs ++ (head_line a ∷ [])
unfolding rule_lines
head_lines_lem a rs = flat_map_end rule_lines rs (head_alone a)

-- ---- steps and runs

step_lines : {p q : Pack} {fields : List Bytes} → Step p fields q → open_lines q ≡ open_lines p ++ (fields ∷ [])
step_lines {p} (predicate_step x later fits new room) = predicate_lines_lem x p later
step_lines {p} (claim_step c later fits room) = claim_lines_lem c p later
step_lines {p} (fact_step f later fits meets) = fact_lines_lem f p later
step_lines {p} (head_step a complete fits is_ruled room few) = rules_lines p _ (head_line a ∷ []) (head_lines_lem a p.rules)
step_lines {p} (subgoal_step a unempty no_multipliers fits room few) = rules_lines p _ (subgoal_line a ∷ []) (last_lines (on_subgoals (ending a)) p.rules _ unempty (subgoal_lines_lem a (last_rule p) no_multipliers))
step_lines {p} (multiplier_step ms incomplete fits left) = rules_lines p _ (multiplier_line ms ∷ []) (last_lines (on_multipliers (ending ms)) p.rules _ (rule_from_incomplete p incomplete) (multiplier_lines_lem ms (last_rule p)))

pub run_adds : {p q : Pack} {ls : List (List Bytes)} → Run p ls q → open_lines q ≡ open_lines p ++ ls
run_adds {p} stay = sym (append-nil (open_lines p))
run_adds {p} (go {q = next} {fields} {rest} step run) = run_adds run ∙ ap (λ (l : List (List Bytes)). l ++ rest) (step_lines step) ∙ append_assoc (open_lines p) (fields ∷ []) rest
