-- Document 01, "The pack", with 02's 1/14: what lines write. It knows no faults: of a line that is no line of a pack it takes what it can.
use Rattle.std.specs.Prelude.{Bool, false, cond, ◌||◌, List, [], ◌∷◌, map, ℕ, ℤ, pos, get_or, drop}
use Rattle.std.proofs.Math.Option
use Rattle.theory.specs.declared.Letter.{Letter}
use Rattle.theory.specs.declared.Letter.TheVariants.{P, C, G, H, B, M, E, NoLetter}
use Rattle.theory.specs.Lists.{ending}
use Rattle.theory.specs.Text.{Bytes, bytes, same, fields_of, lines_of, natural, integer}
use Rattle.theory.specs.Terms.{Terms, variable, nil, cons, read_term}
use Rattle.theory.specs.Packs.{Kind, given, ruled, Predicate, Claim, Atom, Rule, Pack, head_alone, empty_pack, on_subgoals, on_multipliers, on_predicates, on_claims, on_facts, on_rules, number_limit}

-- what a line is, by its first field
unfoldable pub letter_of : Bytes → Letter
letter_of field =
    cond (same field (bytes "P")) P
    (cond (same field (bytes "C")) C
    (cond (same field (bytes "G")) G
    (cond (same field (bytes "H")) H
    (cond (same field (bytes "B")) B
    (cond (same field (bytes "M")) M
    (cond (same field (bytes "E")) E NoLetter))))))

-- the ith field, from 0
abbrev pub field : ℕ → List Bytes → Bytes
field i fields = get_or fields i []

unfoldable pub terms_from : List Bytes → Terms
terms_from [] = nil
terms_from (f ∷ fs) = cons (Option.get_or (read_term f) (variable [])) (terms_from fs)

-- ## What the fields of one line write

unfoldable pub kind_from : Bytes → Kind
kind_from f = cond (same f (bytes "G")) given ruled

abbrev pub integer_from : Bytes → ℤ
integer_from f = Option.get_or (integer number_limit f) (pos 0)

abbrev pub multiplier_from : Bytes → ℕ
multiplier_from f = Option.get_or (natural number_limit f) 0

unfoldable pub predicate_from : List Bytes → Predicate
predicate_from fields = record { name = field 1 fields; arguments = Option.get_or (natural 8 (field 2 fields)) 0; kind = kind_from (field 3 fields) }

unfoldable pub claim_from : List Bytes → Claim
claim_from fields = record { name = field 1 fields; constant = integer_from (field 2 fields); coefficients = map integer_from (drop 3 fields) }

unfoldable pub atom_from : List Bytes → Atom
atom_from fields = record { name = field 1 fields; terms = terms_from (drop 2 fields) }

unfoldable pub multipliers_from : List Bytes → List ℕ
multipliers_from fields = map multiplier_from (drop 1 fields)

-- ## What lines write together

-- what lines have written, and whether an `E` was among them
pub record Written : Type 0 where
  pub pack : Pack
  pub ended : Bool

unfoldable pub nothing : Written
nothing = record { pack = empty_pack; ended = false }

-- the last rule changed
unfoldable pub on_last : (Rule → Rule) → List Rule → List Rule
on_last change [] = []
on_last change (r ∷ []) = change r ∷ []
on_last change (r ∷ s ∷ rs) = r ∷ on_last change (s ∷ rs)

-- a pack with what a line of a letter adds
unfoldable pub add : Letter → List Bytes → Pack → Pack
add P fields p = on_predicates (ending (predicate_from fields)) p
add C fields p = on_claims (ending (claim_from fields)) p
add G fields p = on_facts (ending (atom_from fields)) p
add H fields p = on_rules (ending (head_alone (atom_from fields))) p
add B fields p = on_rules (on_last (on_subgoals (ending (atom_from fields)))) p
add M fields p = on_rules (on_last (on_multipliers (ending (multipliers_from fields)))) p
add E fields p = p
add NoLetter fields p = p

abbrev pub line_letter : Bytes → Letter
line_letter l = letter_of (field 0 (fields_of l))

unfoldable pub write : Written → Bytes → Written
write w l = record { pack = add (line_letter l) (fields_of l) w.pack; ended = w.ended || same (field 0 (fields_of l)) (bytes "E") }

unfoldable pub write_all : Written → List Bytes → Written
write_all w [] = w
write_all w (l ∷ ls) = write_all (write w l) ls

-- The predicates, claims, facts and rules that a pack's lines write.
unfoldable pub pack_of : Bytes → Pack
pack_of text = (write_all nothing (lines_of text)).pack
