-- What holds of every pack that a run writes, finished or not: all but the lengths of lines and text, where the last rule is only begun.
use mathlib.Core.Path.{◌≡◌, sym, ap, subst}
use mathlib.Core.Logic.{◌⊎◌, inl, inr}
use mathlib.Core.Bool.{true}
use mathlib.Core.List.{List, [], ◌∷◌, ◌++◌, drop_last}
use mathlib.Core.Option.{none}
use Prim.Native.Nat.{◌≤◌, ◌<◌}
use native.Mathlib.Omega.{arith}
use lib.ListN.{length}
use Rattle.theory.specs.Lists.{◌∈◌, ending}
use Rattle.theory.specs.Text.{Bytes}
use Rattle.theory.specs.Packs.{Predicate, Claim, Atom, Rule, Pack, measure_in, predicate_limit, claim_limit, rule_limit, Key, key_of, claim_key, declared_as, claims_on, on_subgoals, on_multipliers, on_predicates, on_claims, on_facts, on_rules, opening, head_alone, from_rules, from_facts, from_claims}
use Rattle.theory.specs.Faults.{no_rule, last_rule, is_complete}
use Rattle.theory.specs.Limits.{PredicateFits, ClaimFits, FactFits}
use Rattle.theory.specs.Written.{on_last}
use Rattle.groundwork.proofs.Lists.{member_unempty, length_end, all_end, end_split, drop_last_end, drop_last_member}
use Rattle.theory.proofs.Judging.Sections.{no_claims, no_facts, no_rules}
use Rattle.theory.proofs.Judging.LastRule.{last_parts, on_last_parts, last_member, last_cases}
use Rattle.theory.proofs.Judging.Completeness.{IsWhole, whole_from_complete, rule_from_incomplete, due_from_incomplete}
use Rattle.theory.proofs.Judging.ClaimsOn.{few_claims_end}
use Rattle.theory.proofs.Judging.Begun.{Begun, begun_head, begun_subgoal, begun_multipliers}
use Rattle.theory.proofs.Judging.Steps.{Step, predicate_step, claim_step, fact_step, head_step, subgoal_step, multiplier_step, MeetsEach, Run, stay, go}

-- no predicate is declared before another under its key
abbrev pub Distinct : List Predicate → Type 0
Distinct ps = (before after : List Predicate) (x : Predicate) → ps ≡ before ++ x ∷ after → declared_as (key_of x) before ≡ none

-- every rule is begun, and all but the last are whole
pub record Reached (p : Pack) : Type 0 where
  pub predicates : (x : Predicate) → x ∈ p.predicates → PredicateFits x
  pub distinct : Distinct p.predicates
  pub few_predicates : length p.predicates ≤ predicate_limit
  pub claims : (c : Claim) → c ∈ p.claims → ClaimFits p.predicates c
  pub few_claims : (k : Key) → length (claims_on k p.claims) ≤ claim_limit
  pub facts : (f : Atom) → f ∈ p.facts → FactFits p.predicates f
  pub met : (f : Atom) → f ∈ p.facts → MeetsEach (measure_in p) p.claims f
  pub rules : (r : Rule) → r ∈ p.rules → Begun (opening p) r
  pub earlier : (r : Rule) → r ∈ drop_last p.rules → IsWhole p.claims r
  pub few_rules : length p.rules ≤ rule_limit

distinct_end : (ps : List Predicate) (x : Predicate) → Distinct ps → declared_as (key_of x) ps ≡ none → Distinct (ps ++ (x ∷ []))
distinct_end ps x distinct new before after y e = cases (end_split ps before after y x e)
  where
    cases : ((before ≡ ps) × (y ≡ x)) ⊎ ((rest : List Predicate) × (ps ≡ before ++ (y ∷ rest))) → declared_as (key_of y) before ≡ none
    cases (inl last) = rw (last.0, last.1) new
    cases (inr inside) = distinct before inside.0 y inside.1

after_predicate : (x : Predicate) (p : Pack) → Reached p → from_claims p ≡ [] → PredicateFits x → declared_as (key_of x) p.predicates ≡ none
    → length p.predicates < predicate_limit → Reached (on_predicates (ending x) p)
after_predicate x p reached later fits new room = record {
  predicates = all_end PredicateFits p.predicates x reached.predicates fits;
  distinct = distinct_end p.predicates x reached.distinct new;
  few_predicates = omega (arith, length_end p.predicates x);
  claims = λ c m. absurd (member_unempty m (no_claims p later).0);
  few_claims = reached.few_claims;
  facts = λ f m. absurd (member_unempty m factless.0);
  met = λ f m. absurd (member_unempty m factless.0);
  rules = λ r m. absurd (member_unempty m (no_rules p factless.1));
  earlier = reached.earlier;
  few_rules = reached.few_rules;
}
  where
    factless : (p.facts ≡ []) × (from_rules p ≡ [])
    factless = no_facts p (no_claims p later).1

after_claim : (c : Claim) (p : Pack) → Reached p → from_facts p ≡ [] → ClaimFits p.predicates c → length (claims_on (claim_key c) p.claims) < claim_limit → Reached (on_claims (ending c) p)
after_claim c p reached later fits room = record {
  predicates = reached.predicates;
  distinct = reached.distinct;
  few_predicates = reached.few_predicates;
  claims = all_end (ClaimFits p.predicates) p.claims c reached.claims fits;
  few_claims = few_claims_end claim_limit p.claims c reached.few_claims room;
  facts = reached.facts;
  met = λ f m. absurd (member_unempty m factless.0);
  rules = λ r m. absurd (member_unempty m (no_rules p factless.1));
  earlier = λ r m. absurd (member_unempty (drop_last_member p.rules m) (no_rules p factless.1));
  few_rules = reached.few_rules;
}
  where
    factless : (p.facts ≡ []) × (from_rules p ≡ [])
    factless = no_facts p later

after_fact : (f : Atom) (p : Pack) → Reached p → from_rules p ≡ [] → FactFits p.predicates f → MeetsEach (measure_in p) p.claims f → Reached (on_facts (ending f) p)
after_fact f p reached later fits meets = record {
  predicates = reached.predicates;
  distinct = reached.distinct;
  few_predicates = reached.few_predicates;
  claims = reached.claims;
  few_claims = reached.few_claims;
  facts = all_end (FactFits p.predicates) p.facts f reached.facts fits;
  met = all_end (MeetsEach (measure_in p) p.claims) p.facts f reached.met meets;
  rules = λ r m. absurd (member_unempty m (no_rules p later));
  earlier = reached.earlier;
  few_rules = reached.few_rules;
}

-- with a begun rule after rules that are whole
after_last : (p : Pack) (earlier : List Rule) (r : Rule) → Reached p → ((s : Rule) → s ∈ earlier → s ∈ p.rules) → ((s : Rule) → s ∈ earlier → IsWhole p.claims s)
    → Begun (opening p) r → length (earlier ++ (r ∷ [])) ≤ rule_limit
    → Reached (on_rules (λ (rs : List Rule). ending r earlier) p)
after_last p earlier r reached kept whole begun few = record {
  predicates = reached.predicates;
  distinct = reached.distinct;
  few_predicates = reached.few_predicates;
  claims = reached.claims;
  few_claims = reached.few_claims;
  facts = reached.facts;
  met = reached.met;
  rules = all_end (Begun (opening p)) earlier r (λ s m. reached.rules s (kept s m)) begun;
  earlier = λ s m. whole s (subst (λ (l : List Rule). s ∈ l) (drop_last_end earlier r) m);
  few_rules = few;
}

-- with the last rule begun further
after_change : (change : Rule → Rule) (p : Pack) → Reached p → (p.rules ≡ [] → ⊥) → Begun (opening p) (change (last_rule p)) → Reached (on_rules (on_last change) p)
after_change change p reached unempty begun =
    subst (λ (rs : List Rule). Reached (on_rules (λ (old : List Rule). rs) p)) (sym (on_last_parts change no_rule p.rules unempty))
    (after_last p (drop_last p.rules) (change (last_rule p)) reached (λ s m. drop_last_member p.rules m) reached.earlier begun
    (omega (arith, length_end (drop_last p.rules) (change (last_rule p)), length_end (drop_last p.rules) (last_rule p), ap length (last_parts no_rule p.rules unempty), reached.few_rules)))

-- where all `M` lines are there, every rule is whole
pub all_whole : (p : Pack) → Reached p → is_complete p ≡ true → (r : Rule) → r ∈ p.rules → IsWhole p.claims r
all_whole p reached complete r m = cases (last_cases no_rule p.rules m)
  where
    cases : (r ∈ drop_last p.rules) ⊎ (r ≡ last_rule p) → IsWhole p.claims r
    cases (inl n) = reached.earlier r n
    cases (inr e) = subst (IsWhole p.claims) (sym e) (whole_from_complete p complete (member_unempty m))

last_begun : (p : Pack) → Reached p → (p.rules ≡ [] → ⊥) → Begun (opening p) (last_rule p)
last_begun p reached unempty = reached.rules (last_rule p) (last_member no_rule p.rules unempty)

step_reaches : {p q : Pack} {fields : List Bytes} → Step p fields q → Reached p → Reached q
step_reaches {p} (predicate_step x later fits new room) reached = after_predicate x p reached later fits new room
step_reaches {p} (claim_step c later fits room) reached = after_claim c p reached later fits room
step_reaches {p} (fact_step f later fits meets) reached = after_fact f p reached later fits meets
step_reaches {p} (head_step a complete fits is_ruled room few) reached =
    after_last p p.rules _ reached (λ s m. m) (all_whole p reached complete) (begun_head (opening p) a fits is_ruled few)
    (omega (arith, length_end p.rules (head_alone a), room))
step_reaches {p} (subgoal_step a unempty no_multipliers fits room few) reached =
    after_change (on_subgoals (ending a)) p reached unempty (begun_subgoal (opening p) a (last_rule p) (last_begun p reached unempty) no_multipliers fits room few)
step_reaches {p} (multiplier_step ms incomplete fits left) reached =
    let unempty = rule_from_incomplete p incomplete in
    after_change (on_multipliers (ending ms)) p reached unempty (begun_multipliers (opening p) ms (last_rule p) (last_begun p reached unempty) (due_from_incomplete p incomplete) fits left)

pub run_reaches : {p q : Pack} {ls : List (List Bytes)} → Run p ls q → Reached p → Reached q
run_reaches stay reached = reached
run_reaches (go step run) reached = run_reaches run (step_reaches step reached)
