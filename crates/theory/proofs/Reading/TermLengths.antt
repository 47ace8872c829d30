-- Tokens against lengths: a term has no more symbols and variables than its text has bytes, and one; and so for the terms of a line.
use mathlib.Core.Path.{◌≡◌, refl, ap}
use mathlib.Core.List.{List, [], ◌∷◌, ◌++◌}
use Prim.Native.Nat.{ℕ, suc, ◌+◌, ◌≤◌}
use Prim.Native.Char.{code}
use native.Mathlib.Omega.{arith}
use lib.ListN.{length, length-append}
use Rattle.theory.specs.Text.{Bytes, parts_at, joined}
use Rattle.theory.specs.Terms.{Term, Terms, variable, symbol, nil, cons, arity, symbol_token, tokens, all_tokens, written_term}
use Rattle.theory.specs.Packs.{Atom, term_fields, line}
use Rattle.theory.proofs.Reading.Separators.{joined_of_parts}

-- ---- parts with separators between them

-- the lengths of parts, each with the separator before it
unfoldable pub lengths_after : List Bytes → ℕ
lengths_after [] = 0
lengths_after (part ∷ parts) = suc (length part) + lengths_after parts

pub joined_length : (separator : ℕ) (first : Bytes) (parts : List Bytes) → length (joined separator (first ∷ parts)) ≡ length first + lengths_after parts
unfolding joined lengths_after
joined_length separator first [] = omega arith
joined_length separator first (next ∷ parts) =
    omega (arith, length-append first (separator ∷ joined separator (next ∷ parts)), joined_length separator next parts)

pub count_after : (parts : List Bytes) → length parts ≤ lengths_after parts
unfolding lengths_after
count_after [] = omega arith
count_after (part ∷ parts) = omega (arith, count_after parts)

pub joined_count : (separator : ℕ) (parts : List Bytes) → length parts ≤ suc (length (joined separator parts))
joined_count separator [] = omega arith
joined_count separator (part ∷ parts) = omega (arith, joined_length separator part parts, count_after parts)

pub parts_count : (separator : ℕ) (bs : Bytes) → length (parts_at separator bs) ≤ suc (length bs)
parts_count separator bs = omega (arith, joined_count separator (parts_at separator bs), ap length (joined_of_parts separator bs))

pub after_append : (ws vs : List Bytes) → lengths_after (ws ++ vs) ≡ lengths_after ws + lengths_after vs
unfolding lengths_after
after_append [] vs = omega arith
after_append (w ∷ ws) vs = omega (arith, after_append ws vs)

-- ---- one term

-- how many symbols and variables some terms have
abbrev pub token_count : Terms → ℕ
token_count ts = length (all_tokens ts)

pub tokens_written : (t : Term) → length (tokens t) ≤ suc (length (written_term t))
unfolding written_term
tokens_written t = joined_count (code " ") (tokens t)

-- ---- the terms of a line

pub terms_length : (ts : Terms) → token_count ts ≤ lengths_after (term_fields ts)
unfolding lengths_after term_fields all_tokens
terms_length nil = omega arith
terms_length (cons t ts) = omega (arith, length-append (tokens t) (all_tokens ts), tokens_written t, terms_length ts)

-- a term's field, with what comes before it
term_after : (t : Term) → suc (length (written_term t)) ≡ lengths_after (tokens t)
unfolding written_term tokens lengths_after
term_after (variable x) = omega (arith, joined_length 32 x [])
term_after (symbol f ts) = omega (arith, joined_length 32 (symbol_token f (arity ts)) (all_tokens ts))

pub fields_after : (ts : Terms) → lengths_after (term_fields ts) ≡ lengths_after (all_tokens ts)
unfolding term_fields lengths_after tokens
fields_after nil = refl
fields_after (cons t ts) = omega (arith, term_after t, fields_after ts, after_append (tokens t) (all_tokens ts))

-- a head's or a subgoal's line
pub atom_line_length : (letter : Bytes) (a : Atom) → token_count a.terms ≤ length (line (letter ∷ a.name ∷ term_fields a.terms))
unfolding lengths_after
atom_line_length letter a = omega (arith, terms_length a.terms, joined_length (code ",") letter (a.name ∷ term_fields a.terms))
