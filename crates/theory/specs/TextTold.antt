-- Document 01, "Terms and their size" (names, variables), "The pack" (lines, fields, numbers, which claims are on a predicate) and
-- "What check returns" (the last byte, the count of `M` lines), in words, with 02's 5/14 (keys): what the words of Text, Terms, Packs,
-- Residuals and Check that all other files use say of bytes and lists. All of it is proved of every input.
use Rattle.std.specs.Prelude.{◌≡◌, true, ◌↔◌, ℕ, suc, ◌+◌, ◌/◌, ◌%◌, ◌≤◌, ◌<◌, ℤ, pos, negsuc, nat_abs, length, get_or}
use mathlib.Core.List.{List, [], ◌∷◌, ◌++◌, map, flat_map}
use Rattle.std.proofs.Math.Option.{some, none}
use Rattle.theory.specs.Lists.{◌∈◌, passing, total}
use Rattle.theory.specs.Text.{Bytes, joined, lines_of, fields_of, is_name, is_variable, is_decimal, value_after, natural, integer, decimal, signed_decimal}
use Rattle.theory.specs.Terms.{Term, Terms, tokens, all_tokens, WellFormed, AllWellFormed, variables, all_variables}
use Rattle.theory.specs.Packs.{Predicate, Claim, Atom, Rule, Key, same_key, key_of, claim_key, declared_as, claims_on, text_of}
use Rattle.theory.specs.Residuals.{atoms_variables}
use Rattle.theory.specs.Check.{multiplier_lines, is_finished}

-- ## Names and variables, by the numbers of their bytes

pub data NameByte (b : ℕ) : Type 0 where
  small : 97 ≤ b → b ≤ 122 → NameByte b
  large : 65 ≤ b → b ≤ 90 → NameByte b
  digit : 48 ≤ b → b ≤ 57 → NameByte b
  underscore : b ≡ 95 → NameByte b

-- a byte from low to high, and after it at most 15 that are letters, digits or underscores
pub record Word (low high : ℕ) (bs : Bytes) : Type 0 where
  pub first : ℕ
  pub rest : Bytes
  pub are : bs ≡ first ∷ rest
  pub least : low ≤ first
  pub most : first ≤ high
  pub few : length rest ≤ 15
  pub each : (b : ℕ) → b ∈ rest → NameByte b

pub record WordTold (bs : Bytes) : Type 0 where
  pub name : (is_name bs ≡ true) ↔ Word 97 122 bs
  pub variable : (is_variable bs ≡ true) ↔ Word 65 90 bs

-- ## Numbers

-- How a number is written: as itself if it is below 10, otherwise the digits of its tenth and then the last digit. There are only
-- digits in it, they have its value, and 0 alone begins with the digit 0. Below 0 a `-` (byte 45) comes first.
pub record DecimalTold (n : ℕ) : Type 0 where
  pub one : n < 10 → decimal n ≡ (48 + n) ∷ []
  pub more : 10 ≤ n → decimal n ≡ decimal (n / 10) ++ ((48 + n % 10) ∷ [])
  pub digits : (b : ℕ) → b ∈ decimal n → (48 ≤ b) × (b ≤ 57)
  pub value : value_after 0 (decimal n) ≡ n
  pub no_leading_zero : get_or (decimal n) 0 0 ≡ 48 → n ≡ 0
  pub unsigned : signed_decimal (pos n) ≡ decimal n
  pub signed : signed_decimal (negsuc n) ≡ 45 ∷ decimal (suc n)

-- How it is read: as the number that is written so, if that is within the limit; with a sign likewise.
pub record NumberTold (bs : Bytes) : Type 0 where
  pub decimals : (is_decimal bs ≡ true) ↔ ((n : ℕ) × (bs ≡ decimal n))
  pub unsigned : (limit n : ℕ) → (natural limit bs ≡ some n) ↔ ((bs ≡ decimal n) × (n ≤ limit))
  pub signed : (limit : ℕ) (z : ℤ) → (integer limit bs ≡ some z) ↔ ((bs ≡ signed_decimal z) × (nat_abs z ≤ limit))

-- ## Lines and fields

-- A text is finished if its last byte is 10. Its lines, each with that byte after it, are the text; of no text has a line that byte
-- in it.
pub record TextCut (text : Bytes) : Type 0 where
  pub finished : (is_finished text ≡ true) ↔ ((front : Bytes) × (text ≡ front ++ (10 ∷ [])))
  pub together : is_finished text ≡ true → text_of (lines_of text) ≡ text
  pub no_line_end : (l : Bytes) → l ∈ lines_of text → 10 ∈ l → ⊥

-- The fields of a line, with commas (byte 44) between them, are the line; no field has a comma in it, and there is at least one.
pub record LineCut (l : Bytes) : Type 0 where
  pub together : joined 44 (fields_of l) ≡ l
  pub no_comma : (field : Bytes) → field ∈ fields_of l → 44 ∈ field → ⊥
  pub not_none : fields_of l ≡ [] → ⊥

-- ## Look-up by key

-- Two keys are the same if names and arities are. What is found under a key is in the list and has it; where nothing is found,
-- nothing in the list has it.
pub record KeyTold (k : Key) : Type 0 where
  pub agree : (l : Key) → (same_key k l ≡ true) ↔ ((k.name ≡ l.name) × (k.arity ≡ l.arity))
  pub found : (ps : List Predicate) (x : Predicate) → declared_as k ps ≡ some x → (x ∈ ps) × (key_of x ≡ k)
  pub missing : (ps : List Predicate) → declared_as k ps ≡ none → (x : Predicate) → x ∈ ps → key_of x ≡ k → ⊥

-- The claims on a key are those of the list that have it, each once for once, in the order of the list.
pub record ClaimsTold (k : Key) : Type 0 where
  pub members : (cs : List Claim) (c : Claim) → (c ∈ claims_on k cs) ↔ ((c ∈ cs) × (claim_key c ≡ k))
  pub once : (c : Claim) → claim_key c ≡ k → claims_on k (c ∷ []) ≡ c ∷ []
  pub ordered : (cs ds : List Claim) → claims_on k (cs ++ ds) ≡ claims_on k cs ++ claims_on k ds

-- ## Variables as they stand in the text

-- Those of a term are the tokens that are variables, those of several terms likewise; those of atoms come atom after atom.
pub record OrderTold : Type 0 where
  pub term : (t : Term) → WellFormed t → variables t ≡ passing is_variable (tokens t)
  pub terms : (ts : Terms) → AllWellFormed ts → all_variables ts ≡ passing is_variable (all_tokens ts)
  pub atoms : (list : List Atom) → atoms_variables list ≡ flat_map (λ (a : Atom). all_variables a.terms) list

-- ## All of it

pub record TextPromised : Type 0 where
  pub words : (bs : Bytes) → WordTold bs
  pub decimals : (n : ℕ) → DecimalTold n
  pub numbers : (bs : Bytes) → NumberTold bs
  pub texts : (text : Bytes) → TextCut text
  pub lines : (l : Bytes) → LineCut l
  pub keys : (k : Key) → KeyTold k
  pub claims : (k : Key) → ClaimsTold k
  pub variables : OrderTold
  -- how many `M` lines rules have: the lists of multipliers of each, added up
  pub counts : (rules : List Rule) → multiplier_lines rules ≡ total (map (λ (r : Rule). length r.multipliers) rules)
