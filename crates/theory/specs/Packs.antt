-- Document 01, "The pack", with 02's 1/14 and 5/14: predicates, claims, facts that come with the pack, rules with their multipliers; and
-- how a pack is written, line by line.
use Rattle.std.specs.Prelude.{Bool, cond, ◌&&◌, ℕ, eqb, ℤ, pos, length}
use mathlib.Core.List.{List, [], ◌∷◌, ◌++◌, map, flat_map}
use Rattle.std.proofs.Math.Option.{Option, some, none}
use Prim.Native.Char.{code}
use Rattle.theory.specs.Text.{Bytes, bytes, same, joined, decimal, signed_decimal}
use Rattle.theory.specs.Terms.{Terms, nil, cons, arity, written_term}
use Rattle.theory.specs.Sizes.{Measure, structural}

-- Given: facts come from outside. Ruled: facts come from rules.
pub data Kind : Type 0 where
  given ruled : Kind

pub record Predicate : Type 0 where
  pub name : Bytes
  pub arguments : ℕ
  pub kind : Kind

-- A claim on the predicate of that name with an argument for each coefficient: constant + c1 times s1 + .. + cn times sn is
-- at least 0.
pub record Claim : Type 0 where
  pub name : Bytes
  pub constant : ℤ
  pub coefficients : List ℤ

-- a predicate's name with a term for each argument: a rule's head, a subgoal, a fact
pub record Atom : Type 0 where
  pub name : Bytes
  pub terms : Terms

-- multipliers: a list for each claim on the head, as the claims are numbered
pub record Rule : Type 0 where
  pub head : Atom
  pub subgoals : List Atom
  pub multipliers : List (List ℕ)

pub record Pack : Type 0 where
  pub predicates : List Predicate
  pub claims : List Claim
  -- the facts that come with the pack
  pub facts : List Atom
  pub rules : List Rule

-- a claim on no predicate, which stands for the claim of a number where there is none
unfoldable pub no_claim : Claim
no_claim = record { name = []; constant = pos 0; coefficients = [] }

-- a rule's head, before its other lines
abbrev pub head_alone : Atom → Rule
head_alone a = record { head = a; subgoals = []; multipliers = [] }

abbrev pub empty_pack : Pack
empty_pack = record { predicates = []; claims = []; facts = []; rules = [] }

-- ## One field changed

abbrev pub on_subgoals : (List Atom → List Atom) → Rule → Rule
on_subgoals change r = record { head = r.head; subgoals = change r.subgoals; multipliers = r.multipliers }

abbrev pub on_multipliers : (List (List ℕ) → List (List ℕ)) → Rule → Rule
on_multipliers change r = record { head = r.head; subgoals = r.subgoals; multipliers = change r.multipliers }

abbrev pub on_predicates : (List Predicate → List Predicate) → Pack → Pack
on_predicates change p = record { predicates = change p.predicates; claims = p.claims; facts = p.facts; rules = p.rules }

abbrev pub on_claims : (List Claim → List Claim) → Pack → Pack
on_claims change p = record { predicates = p.predicates; claims = change p.claims; facts = p.facts; rules = p.rules }

abbrev pub on_facts : (List Atom → List Atom) → Pack → Pack
on_facts change p = record { predicates = p.predicates; claims = p.claims; facts = change p.facts; rules = p.rules }

abbrev pub on_rules : (List Rule → List Rule) → Pack → Pack
on_rules change p = record { predicates = p.predicates; claims = p.claims; facts = p.facts; rules = change p.rules }

-- a pack's opening: the pack without its rules
abbrev pub opening : Pack → Pack
opening p = on_rules (λ (rules : List Rule). []) p

-- The measure by which every size of a pack is taken: whatever the pack, the structural one.
abbrev pub measure_in : Pack → Measure
measure_in p = structural

-- ## Limits

abbrev pub text_limit : ℕ
text_limit = 32768

abbrev pub line_limit : ℕ
line_limit = 1024

abbrev pub predicate_limit : ℕ
predicate_limit = 32

-- claims on one predicate
abbrev pub claim_limit : ℕ
claim_limit = 16

abbrev pub rule_limit : ℕ
rule_limit = 64

-- subgoals in one rule
abbrev pub subgoal_limit : ℕ
subgoal_limit = 8

-- variables in one rule
abbrev pub variable_limit : ℕ
variable_limit = 16

-- the largest claim number and multiplier
abbrev pub number_limit : ℕ
number_limit = 9999

-- ## Which predicate is meant

-- Predicates go by key: the name with the arity (02, 5/14). Two are the same only if both agree.
pub record Key : Type 0 where
  pub name : Bytes
  pub arity : ℕ

abbrev pub key : Bytes → ℕ → Key
key name n = record { name = name; arity = n }

unfoldable pub same_key : Key → Key → Bool
same_key k l = same k.name l.name && eqb k.arity l.arity

abbrev pub key_of : Predicate → Key
key_of p = key p.name p.arguments

abbrev pub claim_key : Claim → Key
claim_key c = key c.name (length c.coefficients)

abbrev pub atom_key : Atom → Key
atom_key a = key a.name (arity a.terms)

-- the predicate declared under a key
unfoldable pub declared_as : Key → List Predicate → Option Predicate
declared_as k [] = none
declared_as k (p ∷ ps) = cond (same_key k (key_of p)) (some p) (declared_as k ps)

-- the claims on the predicate under a key, in their order: numbered from 1
unfoldable pub claims_on : Key → List Claim → List Claim
claims_on k [] = []
claims_on k (c ∷ cs) = cond (same_key k (claim_key c)) (c ∷ claims_on k cs) (claims_on k cs)

-- the claims on the predicates of subgoals, subgoal after subgoal
abbrev pub claims_on_all : List Claim → List Atom → List Claim
claims_on_all claims subgoals = flat_map (λ (a : Atom). claims_on (atom_key a) claims) subgoals

-- ## How a pack is written: each line as its fields

unfoldable pub kind_letter : Kind → Bytes
kind_letter given = bytes "G"
kind_letter ruled = bytes "R"

unfoldable pub term_fields : Terms → List Bytes
term_fields nil = []
term_fields (cons t ts) = written_term t ∷ term_fields ts

unfoldable pub predicate_line : Predicate → List Bytes
predicate_line p = bytes "P" ∷ p.name ∷ decimal p.arguments ∷ kind_letter p.kind ∷ []

unfoldable pub claim_line : Claim → List Bytes
claim_line c = bytes "C" ∷ c.name ∷ signed_decimal c.constant ∷ map signed_decimal c.coefficients

unfoldable pub fact_line : Atom → List Bytes
fact_line a = bytes "G" ∷ a.name ∷ term_fields a.terms

unfoldable pub head_line : Atom → List Bytes
head_line a = bytes "H" ∷ a.name ∷ term_fields a.terms

unfoldable pub subgoal_line : Atom → List Bytes
subgoal_line a = bytes "B" ∷ a.name ∷ term_fields a.terms

unfoldable pub multiplier_line : List ℕ → List Bytes
multiplier_line ms = bytes "M" ∷ map decimal ms

unfoldable pub end_line : List Bytes
end_line = bytes "E" ∷ []

unfoldable pub rule_lines : Rule → List (List Bytes)
rule_lines r = head_line r.head ∷ map subgoal_line r.subgoals ++ map multiplier_line r.multipliers

-- Sections follow one another: predicates, claims, facts, rules. The lines from each section on:
unfoldable pub from_rules : Pack → List (List Bytes)
from_rules p = flat_map rule_lines p.rules

unfoldable pub from_facts : Pack → List (List Bytes)
from_facts p = map fact_line p.facts ++ from_rules p

unfoldable pub from_claims : Pack → List (List Bytes)
from_claims p = map claim_line p.claims ++ from_facts p

unfoldable pub from_predicates : Pack → List (List Bytes)
from_predicates p = map predicate_line p.predicates ++ from_claims p

-- the lines before `E`
abbrev pub open_lines : Pack → List (List Bytes)
open_lines p = from_predicates p

-- fields parted by commas
abbrev pub line : List Bytes → Bytes
line fields = joined (code ",") fields

-- lines, each with its byte 10
unfoldable pub text_of : List Bytes → Bytes
text_of [] = []
text_of (l ∷ ls) = l ++ 10 ∷ text_of ls

-- The lines of a pack, and the pack as text.
unfoldable pub pack_lines : Pack → List Bytes
pack_lines p = map line (open_lines p ++ (end_line ∷ []))

unfoldable pub written : Pack → Bytes
written p = text_of (pack_lines p)
