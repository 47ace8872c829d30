-- Document 01, the table of "What check returns", with 02's 1/14, 3/14 and 5/14, in words: what each number says of a line by its letter,
-- by its fields and by what the lines before it write. In what order they apply is a table (proofs/Judging/Examples).
use Rattle.std.specs.Prelude.{◌≡◌, false, ◌⊎◌, ◌↔◌, List, [], ℕ, ◌+◌, ◌≤◌, ◌<◌, ℤ, pos, nat_abs, length, drop, ◌<ℤ◌}
use Rattle.theory.specs.Lists.{◌∈◌, ending}
use Rattle.theory.specs.Text.{Bytes, is_name, decimal, signed_decimal, fields_of}
use Rattle.theory.specs.Terms.{Term, WrittenAs, all_variables}
use Rattle.theory.specs.Packs.{Kind, given, ruled, Predicate, Claim, Rule, Pack, measure_in, predicate_limit, claim_limit, rule_limit, subgoal_limit, variable_limit, number_limit, key, key_of, claim_key, atom_key, claims_on, claims_on_all, kind_letter}
use Rattle.theory.specs.declared.Letter.{Letter}
use Rattle.theory.specs.declared.Letter.TheVariants.{P, C, G, H, B, M, E, NoLetter}
use Rattle.theory.specs.Written.{line_letter, field, atom_from, multipliers_from}
use Rattle.theory.specs.Residuals.{rule_variables}
use Rattle.theory.specs.Facts.{claim_at}
use Rattle.theory.specs.Faults.{last_rule, residual_due}
use Rattle.theory.specs.Limits.{HeadsRule}

-- ## Where a letter may stand

-- the last rule so far, of which this holds
pub record OfLast (p : Pack) (Holds : Rule → Type 0) : Type 0 where
  pub earlier : List Rule
  pub rule : Rule
  pub is_last : p.rules ≡ ending rule earlier
  pub holds : Holds rule

-- fewer lines of multipliers than claims on its head
abbrev pub Lacks : Pack → Rule → Type 0
Lacks p r = length r.multipliers < length (claims_on (atom_key r.head) p.claims)

-- `P` before the first claim, `C` before the first fact, `G` before the first rule; `B` while its rule has no multipliers; `M` while
-- one is lacking, `H` and `E` when none is.
abbrev pub MayStand : Pack → Letter → Type 0
MayStand p P = (p.claims ≡ []) × ((p.facts ≡ []) × (p.rules ≡ []))
MayStand p C = (p.facts ≡ []) × (p.rules ≡ [])
MayStand p G = p.rules ≡ []
MayStand p H = OfLast p (Lacks p) → ⊥
MayStand p B = OfLast p (λ r. r.multipliers ≡ [])
MayStand p M = OfLast p (Lacks p)
MayStand p E = OfLast p (Lacks p) → ⊥
MayStand p NoLetter = ⊥

-- ## Which predicate a line names

-- letters whose line names a predicate in its second field
pub data NamesOne : Letter → Type 0 where
  by_predicate : NamesOne P
  by_claim : NamesOne C
  by_fact : NamesOne G
  by_head : NamesOne H
  by_subgoal : NamesOne B

-- the line gives this arity: a `P` line writes it in its third field, on the others the fields are so many more than arguments
abbrev pub Gives : Letter → List Bytes → ℕ → Type 0
Gives P fields n = field 2 fields ≡ decimal n
Gives C fields n = length fields ≡ n + 3
Gives G fields n = length fields ≡ n + 2
Gives H fields n = length fields ≡ n + 2
Gives B fields n = length fields ≡ n + 2
Gives M fields n = ⊥
Gives E fields n = ⊥
Gives NoLetter fields n = ⊥

-- a declared predicate that the line names: its name in the second field, and its arity
pub record Meant (letter : Letter) (fields : List Bytes) (p : Pack) (x : Predicate) : Type 0 where
  pub declared : x ∈ p.predicates
  pub name : field 1 fields ≡ x.name
  pub arity : Gives letter fields x.arguments

-- letters whose 8 says just that the predicate is not declared
pub data AsksDeclared : Letter → Type 0 where
  on_claim : AsksDeclared C
  on_fact : AsksDeclared G
  on_subgoal : AsksDeclared B

-- ## What stands in its fields

-- letters whose fields after the name are terms
pub data HasTerms : Letter → Type 0 where
  of_fact : HasTerms G
  of_head : HasTerms H
  of_subgoal : HasTerms B

-- the third and fourth field of a `P` line: an arity up to 8, and a kind
pub record ArityAndKind (fields : List Bytes) : Type 0 where
  pub arity : ℕ
  pub few : arity ≤ 8
  pub is_arity : field 2 fields ≡ decimal arity
  pub kind : Kind
  pub is_kind : field 3 fields ≡ kind_letter kind

-- a claim's number, and a multiplier, written
pub record ClaimNumber (f : Bytes) : Type 0 where
  pub number : ℤ
  pub small : nat_abs number ≤ number_limit
  pub is : f ≡ signed_decimal number

pub record Multiplier (f : Bytes) : Type 0 where
  pub number : ℕ
  pub small : number ≤ number_limit
  pub is : f ≡ decimal number

-- one of some fields is not so
abbrev pub SomeNot : (Bytes → Type 0) → List Bytes → Type 0
SomeNot Good fields = (f : Bytes) × (f ∈ fields) × (Good f → ⊥)

-- a ruled predicate that has a claim and heads no rule
pub record Headless (p : Pack) (x : Predicate) : Type 0 where
  pub declared : x ∈ p.predicates
  pub is_ruled : x.kind ≡ ruled
  pub claim : Claim
  pub is_claim : claim ∈ p.claims
  pub on_it : claim_key claim ≡ key_of x
  pub heads_none : HeadsRule p x → ⊥

-- ## The numbers

-- Which numbers apply to a line after lines without a fault and without `E` that write p.
pub record LetterTold (p : Pack) (l : Bytes) (numbers : List ℕ) : Type 0 where
  pub misplaced : (5 ∈ numbers) ↔ (MayStand p (line_letter l) → ⊥)
  pub unnamed : NamesOne (line_letter l) → (7 ∈ numbers) ↔ (is_name (field 1 (fields_of l)) ≡ false)
  -- 8: on `P` declared already; on `C`, `G` and `B` not declared; on `H` not declared as ruled. 20: declared as ruled
  pub declared_already : line_letter l ≡ P → (8 ∈ numbers) ↔ ((x : Predicate) × Meant P (fields_of l) p x)
  pub undeclared : AsksDeclared (line_letter l) → (8 ∈ numbers) ↔ ((x : Predicate) → Meant (line_letter l) (fields_of l) p x → ⊥)
  pub unruled : line_letter l ≡ H → (8 ∈ numbers) ↔ ((x : Predicate) → Meant H (fields_of l) p x → x.kind ≡ given)
  pub ruled_fact : line_letter l ≡ G → (20 ∈ numbers) ↔ ((x : Predicate) × Meant G (fields_of l) p x × (x.kind ≡ ruled))
  -- 9: `P` has four fields, `E` one, `M` one more than there are claims on the subgoals' predicates
  pub predicate_fields : line_letter l ≡ P → (9 ∈ numbers) ↔ (length (fields_of l) ≡ 4 → ⊥)
  pub multiplier_fields : line_letter l ≡ M → (9 ∈ numbers) ↔ (length (fields_of l) ≡ length (claims_on_all p.claims (last_rule p).subgoals) + 1 → ⊥)
  pub end_fields : line_letter l ≡ E → (9 ∈ numbers) ↔ (length (fields_of l) ≡ 1 → ⊥)
  -- 10 and 11: a field does not write what it has to
  pub no_arity_or_kind : line_letter l ≡ P → (10 ∈ numbers) ↔ (ArityAndKind (fields_of l) → ⊥)
  pub no_claim_number : line_letter l ≡ C → (10 ∈ numbers) ↔ SomeNot ClaimNumber (drop 2 (fields_of l))
  pub no_multiplier : line_letter l ≡ M → (10 ∈ numbers) ↔ SomeNot Multiplier (drop 1 (fields_of l))
  pub no_term : HasTerms (line_letter l) → (11 ∈ numbers) ↔ SomeNot (λ f. (t : Term) × WrittenAs t f) (drop 2 (fields_of l))
  -- 12: as many predicates, claims on this one, rules or subgoals as may be are there already, or a rule has too many variables
  pub predicates : line_letter l ≡ P → (12 ∈ numbers) ↔ (predicate_limit ≤ length p.predicates)
  pub claims : line_letter l ≡ C → (n : ℕ) → Gives C (fields_of l) n → (12 ∈ numbers) ↔ (claim_limit ≤ length (claims_on (key (field 1 (fields_of l)) n) p.claims))
  pub rules : line_letter l ≡ H → (12 ∈ numbers) ↔ ((rule_limit ≤ length p.rules) ⊎ (variable_limit < length (rule_variables (atom_from (fields_of l)) [])))
  pub subgoals : line_letter l ≡ B → (12 ∈ numbers)
      ↔ ((subgoal_limit ≤ length (last_rule p).subgoals) ⊎ (variable_limit < length (rule_variables (last_rule p).head (ending (atom_from (fields_of l)) (last_rule p).subgoals))))
  -- 13: a number of the residual is below 0
  pub unjustified : line_letter l ≡ M → (13 ∈ numbers) ↔ ((z : ℤ) × (z ∈ residual_due p (multipliers_from (fields_of l))) × (z <ℤ pos 0))
  -- 21: some variable occurs; 22: it fails a claim on its predicate
  pub variable : line_letter l ≡ G → (21 ∈ numbers) ↔ ((x : Bytes) × (x ∈ all_variables (atom_from (fields_of l)).terms))
  pub unmet : line_letter l ≡ G → (22 ∈ numbers)
      ↔ ((c : Claim) × (c ∈ claims_on (atom_key (atom_from (fields_of l))) p.claims) × (claim_at (measure_in p) (atom_from (fields_of l)) c <ℤ pos 0))
  -- 24
  pub headless : line_letter l ≡ E → (24 ∈ numbers) ↔ ((x : Predicate) × Headless p x)
