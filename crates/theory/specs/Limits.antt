-- Document 01, "The pack", with 02's 1/14 and 5/14: the packs within the limits; "When a claim is justified", with 02's 3/14; and
-- demand 2, when a pack is accepted.
use Rattle.std.specs.Prelude.{◌≡◌, true, List, [], ◌∷◌, ◌++◌, ℕ, ◌≤◌, ◌<◌, ℤ, pos, nat_abs, length, get_or, ◌≤ℤ◌}
use Rattle.std.proofs.Math.Option.{some, none}
use Rattle.theory.specs.Lists.{◌∈◌}
use Rattle.theory.specs.Text.{Bytes, is_name}
use Rattle.theory.specs.Terms.{AllWellFormed, AllGround}
use Rattle.theory.specs.Forms.{Form}
use Rattle.theory.specs.Packs.{given, ruled, Predicate, Claim, Atom, Rule, Pack, opening, measure_in, text_limit, line_limit, predicate_limit, claim_limit, rule_limit, subgoal_limit, variable_limit, number_limit, Key, key_of, claim_key, atom_key, declared_as, claims_on, claims_on_all, pack_lines, written, no_claim}
use Rattle.theory.specs.Residuals.{residual, rule_variables, area_needed}
use Rattle.theory.specs.Facts.{MeetsAll}

pub record PredicateFits (x : Predicate) : Type 0 where
  pub named : is_name x.name ≡ true
  pub few : x.arguments ≤ 8

-- a claim: on a predicate declared with as many arguments as it has coefficients
pub record ClaimFits (ps : List Predicate) (c : Claim) : Type 0 where
  pub predicate : Predicate
  pub declared : declared_as (claim_key c) ps ≡ some predicate
  pub named : is_name c.name ≡ true
  pub constant : nat_abs c.constant ≤ number_limit
  pub coefficients : (z : ℤ) → z ∈ c.coefficients → nat_abs z ≤ number_limit

-- a head, a subgoal or a fact: of a predicate declared with as many arguments as it has terms
pub record AtomFits (ps : List Predicate) (a : Atom) : Type 0 where
  pub predicate : Predicate
  pub declared : declared_as (atom_key a) ps ≡ some predicate
  pub named : is_name a.name ≡ true
  pub formed : AllWellFormed a.terms

-- a fact that comes with the pack: of a given predicate, with ground terms
pub record FactFits (ps : List Predicate) (f : Atom) : Type 0 where
  pub atom : AtomFits ps f
  pub is_given : atom.predicate.kind ≡ given
  pub ground : AllGround f.terms

-- the multipliers of one `M` line: one for each claim on each subgoal's predicate
pub record MultipliersFit (claims : List Claim) (subgoals : List Atom) (ms : List ℕ) : Type 0 where
  pub full : length ms ≡ length (claims_on_all claims subgoals)
  pub small : (m : ℕ) → m ∈ ms → m ≤ number_limit

-- a rule under an opening: what it looks up are the opening's predicates and claims, and never other rules
pub record RuleFits (o : Pack) (r : Rule) : Type 0 where
  pub head : AtomFits o.predicates r.head
  pub is_ruled : head.predicate.kind ≡ ruled
  pub subgoals : (a : Atom) → a ∈ r.subgoals → AtomFits o.predicates a
  pub few_subgoals : length r.subgoals ≤ subgoal_limit
  pub few_variables : length (rule_variables r.head r.subgoals) ≤ variable_limit
  pub every_claim : length r.multipliers ≡ length (claims_on (atom_key r.head) o.claims)
  pub multipliers : (ms : List ℕ) → ms ∈ r.multipliers → MultipliersFit o.claims r.subgoals ms

-- each predicate, claim, fact and rule has its form, whatever their number
pub record Formed (p : Pack) : Type 0 where
  pub predicates : (x : Predicate) → x ∈ p.predicates → PredicateFits x
  -- none is declared before it under its key
  pub distinct : (before after : List Predicate) (x : Predicate) → p.predicates ≡ before ++ x ∷ after → declared_as (key_of x) before ≡ none
  pub claims : (c : Claim) → c ∈ p.claims → ClaimFits p.predicates c
  pub facts : (f : Atom) → f ∈ p.facts → FactFits p.predicates f
  pub rules : (r : Rule) → r ∈ p.rules → RuleFits (opening p) r

-- no count of the whole pack passes its limit
pub record WithinCounts (p : Pack) : Type 0 where
  pub predicates : length p.predicates ≤ predicate_limit
  pub claims : (k : Key) → length (claims_on k p.claims) ≤ claim_limit
  pub rules : length p.rules ≤ rule_limit

abbrev pub ShortLines : Pack → Type 0
ShortLines p = (l : Bytes) → l ∈ pack_lines p → length l ≤ line_limit

abbrev pub ShortText : Pack → Type 0
ShortText p = length (written p) ≤ text_limit

-- A pack within 01's limits.
pub record Fits (p : Pack) : Type 0 where
  pub formed : Formed p
  pub counts : WithinCounts p
  pub short_lines : ShortLines p
  pub short_text : ShortText p

-- A form over a rule's variables with no number below 0.
pub record NonNegative (xs : List Bytes) (f : Form) : Type 0 where
  pub constant : pos 0 ≤ℤ f.constant
  pub coefficient : (x : Bytes) → x ∈ xs → pos 0 ≤ℤ f.coefficient x

-- these multipliers justify the claim numbered i, from 0, on the head of a rule under an opening
abbrev pub JustifiedBy : Pack → Rule → ℕ → List ℕ → Type 0
JustifiedBy o r i ms = NonNegative (rule_variables r.head r.subgoals) (residual (measure_in o) o.claims r.head r.subgoals (get_or (claims_on (atom_key r.head) o.claims) i no_claim) ms)

-- Every claim on a rule's head is justified by the rule's own multipliers for it.
pub record RuleJustified (o : Pack) (r : Rule) : Type 0 where
  pub every : (i : ℕ) → i < length (claims_on (atom_key r.head) o.claims) → JustifiedBy o r i (get_or r.multipliers i [])

-- The rules of a pack justify the claims on their heads, and its facts meet the claims on their predicates.
pub record Justified (p : Pack) : Type 0 where
  pub facts : (f : Atom) → f ∈ p.facts → MeetsAll p f
  pub rules : (r : Rule) → r ∈ p.rules → RuleJustified (opening p) r

-- a rule of the pack whose head is of this predicate
pub record HeadsRule (p : Pack) (x : Predicate) : Type 0 where
  pub rule : Rule
  pub is_one : rule ∈ p.rules
  pub is_head : atom_key rule.head ≡ key_of x

-- Each ruled predicate that has a claim heads a rule (02, 3/14).
pub record Headed (p : Pack) : Type 0 where
  pub every : (x : Predicate) → x ∈ p.predicates → x.kind ≡ ruled → (c : Claim) → c ∈ p.claims → claim_key c ≡ key_of x → HeadsRule p x

-- A text that is a pack as written, within the limits and justified, whatever its heads.
pub record AcceptableButForHeads (text : Bytes) : Type 0 where
  pub pack : Pack
  pub is_written : text ≡ written pack
  pub fits : Fits pack
  pub justified : Justified pack

-- Demand 2: what an accepted area and text are. It mentions neither faults nor check.
pub record Acceptable (text : Bytes) (area : List ℤ) : Type 0 where
  pub room : area_needed ≤ length area
  pub made : AcceptableButForHeads text
  pub headed : Headed made.pack
