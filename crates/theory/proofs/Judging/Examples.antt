-- Which numbers apply to a line, as one table: a row for each letter and each number that can occur on a line of it, and for each two
-- numbers that can meet on a line. A row has all numbers that apply, in the order of the tests; check answers with the first.
use mathlib.Core.Path.{◌≡◌, refl}
use mathlib.Core.List.{List, [], ◌∷◌, ◌++◌, map, flat_map, flatten}
use Prim.Native.Nat.{ℕ, zero, suc}
use Prim.Native.String.{String}
use lib.ListN.{get_or}
use Rattle.theory.specs.Lists.{every, any, is_some, is_empty, total}
use Rattle.theory.specs.Text.{Bytes, bytes, same, among, parts_at, lines_of, is_name_byte, is_word, value_after, is_decimal, natural, negated, integer, last_digits, decimal}
use Rattle.theory.specs.Terms.{arity, symbol_from, symbol_in, token_of, first_terms, after, after_all, terms_of, the_only, read_term, variables}
use Rattle.theory.specs.Sizes.{structural, flagged, constant_of, occurrences, counted}
use Rattle.theory.specs.Forms.{zero_form, plus, times, minus, constant_form, form_of}
use Rattle.theory.specs.Packs.{same_key, declared_as, claims_on, no_claim, from_rules, from_facts, from_claims, fact_line, rule_lines, claim_line, head_line}
use Rattle.theory.specs.Written.{letter_of, terms_from, kind_from, predicate_from, claim_from, atom_from, multipliers_from, nothing, on_last, add, write, write_all}
use Rattle.theory.specs.Residuals.{weighted, claim_form, subgoal_forms, combined, residual, numbered, atoms_variables, rule_variables, residual_numbers, is_justified}
use Rattle.theory.specs.Facts.{weighted_sizes, is_met}
use Rattle.theory.specs.Faults.{first_given, is_unfit, less, line_arity, declared_for, is_given, given_in, ruled_in, no_rule, last_of, may_stand, residual_due, predicate_tests, claim_tests, atom_tests, fact_tests, head_tests, subgoal_tests, multiplier_tests, end_tests, tests, fault}
use Rattle.theory.specs.Check.{refused, judge, is_finished, judgement_of, verdict_of}
use Rattle.theory.specs.LinesTold.{found, applying}

-- a line with the numbers that apply to it, where it stands
pub record Row : Type 0 where
  pub text : String
  pub numbers : List ℕ

infix 10 ◌has◌
abbrev pub ◌has◌ : String → List ℕ → Row
◌has◌ text numbers = record { text = text; numbers = numbers }

-- after some lines, so as the line of a number
pub record Place : Type 0 where
  pub before : Bytes
  pub line : ℕ
  pub rows : List Row

abbrev pub place : Bytes → ℕ → List Row → Place
place before line rows = record { before = before; line = line; rows = rows }

-- what the definitions say of it: the numbers that apply, and check's number and line
pub record Said : Type 0 where
  pub numbers : List ℕ
  pub number : ℕ
  pub line : ℕ

abbrev pub said : List ℕ → ℕ → ℕ → Said
said numbers number line = record { numbers = numbers; number = number; line = line }

unfoldable pub said_of : Bytes → Bytes → Said
unfolding bytes same among every any parts_at lines_of is_name_byte is_word value_after is_decimal natural negated integer arity symbol_from symbol_in token_of first_terms after after_all terms_of the_only read_term structural flagged total flatten constant_of counted variables occurrences zero_form plus times minus constant_form form_of same_key declared_as claims_on letter_of terms_from kind_from predicate_from claim_from atom_from multipliers_from nothing on_last add write write_all weighted claim_form subgoal_forms combined residual numbered atoms_variables rule_variables residual_numbers is_justified weighted_sizes is_met first_given is_some is_unfit less line_arity declared_for is_given given_in ruled_in is_empty no_rule last_of from_rules from_facts from_claims rule_lines claim_line fact_line head_line may_stand no_claim residual_due predicate_tests claim_tests atom_tests fact_tests head_tests subgoal_tests multiplier_tests end_tests tests fault refused judge is_finished judgement_of flat_map found
said_of before l =
    let verdict = (verdict_of (before ++ (l ++ (10 ∷ [])))).returned in
    said (applying (write_all nothing (lines_of before)) l) verdict.number verdict.line

-- ---- lines before

-- a text for each number below another
abbrev pub for_each : ℕ → (ℕ → Bytes) → Bytes
for_each zero text = []
for_each (suc n) text = for_each n text ++ text n

-- as many predicates, claims, rules and subgoals as may be
unfoldable pub thirty_two : Bytes
unfolding bytes decimal last_digits
thirty_two = for_each 32 (λ i. bytes "P,p" ++ (decimal i ++ bytes ",0,R\n"))

unfoldable pub sixteen : Bytes
unfolding bytes
sixteen = bytes "P,k,0,G\n" ++ for_each 16 (λ i. bytes "C,k,0\n")

unfoldable pub sixty_four : Bytes
unfolding bytes
sixty_four = bytes "P,k,0,R\n" ++ for_each 64 (λ i. bytes "H,k\n")

unfoldable pub eight : Bytes
unfolding bytes
eight = bytes "P,k,1,R\nH,k,X\n" ++ for_each 8 (λ i. bytes "B,k,X\n")

-- ---- the table, letter by letter

abbrev pub predicate_lines : List Place
predicate_lines =
    (place (bytes "P,k,1,G\n") 2
    (("P,K,1,G" has (7 ∷ []))
    ∷ ("P,k,1,R" has (8 ∷ []))
    ∷ ("P,j,1,G,x" has (9 ∷ []))
    ∷ ("P,j,9,G" has (10 ∷ []))
    ∷ ("P,k,1" has (8 ∷ 9 ∷ 10 ∷ []))
    ∷ ("P,K" has (7 ∷ 9 ∷ 10 ∷ []))
    ∷ ("P,\t" has (4 ∷ 7 ∷ 9 ∷ 10 ∷ []))
    ∷ []))
    ∷ (place (bytes "P,k,1,G\nC,k,0,0\n") 3
    (("P,j,1,R" has (5 ∷ []))
    ∷ []))
    ∷ (place (bytes "P,k,1,G\nE\n") 3
    (("P,k,1,\t" has (4 ∷ 5 ∷ 8 ∷ 10 ∷ []))
    ∷ ("P,\t" has (4 ∷ 5 ∷ 7 ∷ 9 ∷ 10 ∷ []))
    ∷ []))
    ∷ (place thirty_two 33
    (("P,q,0,R" has (12 ∷ []))
    ∷ ("P,Q,0" has (7 ∷ 9 ∷ 10 ∷ 12 ∷ []))
    ∷ []))
    ∷ (place (thirty_two ++ bytes "E\n") 34
    (("P,p0,0,\t" has (4 ∷ 5 ∷ 8 ∷ 10 ∷ 12 ∷ []))
    ∷ []))
    ∷ []

abbrev pub claim_lines : List Place
claim_lines =
    (place (bytes "P,k,0,G\n") 2
    (("C,K,x" has (7 ∷ 8 ∷ 10 ∷ []))
    ∷ ("C,j,0" has (8 ∷ []))
    ∷ ("C,k,x" has (10 ∷ []))
    ∷ ("C,j,x" has (8 ∷ 10 ∷ []))
    ∷ ("C,k,\t" has (4 ∷ 10 ∷ []))
    ∷ []))
    ∷ (place (bytes "P,k,0,G\nG,k\n") 3
    (("C,k,0" has (5 ∷ []))
    ∷ []))
    ∷ (place sixteen 18
    (("C,k,0" has (12 ∷ []))
    ∷ ("C,k,x" has (10 ∷ 12 ∷ []))
    ∷ ("C,k" has (8 ∷ 12 ∷ []))
    ∷ []))
    ∷ (place (sixteen ++ bytes "E\n") 19
    (("C,k,\t" has (4 ∷ 5 ∷ 10 ∷ 12 ∷ []))
    ∷ []))
    ∷ (place (bytes "E\n") 2
    (("C,\t,x" has (4 ∷ 5 ∷ 7 ∷ 8 ∷ 10 ∷ []))
    ∷ []))
    ∷ []

abbrev pub fact_lines : List Place
fact_lines =
    (place (bytes "P,k,1,G\nP,r,1,R\nC,k,0,-1\nC,r,0,-1\n") 5
    (("G,K,x" has (7 ∷ 8 ∷ 11 ∷ 21 ∷ []))
    ∷ ("G,j,a/0" has (8 ∷ []))
    ∷ ("G,j,x" has (8 ∷ 11 ∷ 21 ∷ []))
    ∷ ("G,r,a/0" has (20 ∷ []))
    ∷ ("G,r,x" has (20 ∷ 11 ∷ 21 ∷ []))
    ∷ ("G,r,f/1 X" has (20 ∷ 21 ∷ 22 ∷ []))
    ∷ ("G,k,x" has (11 ∷ 21 ∷ []))
    ∷ ("G,k,X" has (21 ∷ []))
    ∷ ("G,k,f/1 X" has (21 ∷ 22 ∷ []))
    ∷ ("G,k,f/1 a/0" has (22 ∷ []))
    ∷ []))
    ∷ (place (bytes "P,k,1,G\nC,k,-1,0\n") 3
    (("G,k,x" has (11 ∷ 21 ∷ 22 ∷ []))
    ∷ []))
    ∷ (place (bytes "P,k,1,G\nP,r,0,R\nH,r\n") 4
    (("G,k,a/0" has (5 ∷ []))
    ∷ []))
    ∷ (place (bytes "P,k,1,G\nP,r,1,R\nC,k,-1,0\nE\n") 5
    (("G,k,\t" has (4 ∷ 5 ∷ 11 ∷ 21 ∷ 22 ∷ []))
    ∷ ("G,r,\t" has (4 ∷ 5 ∷ 20 ∷ 11 ∷ 21 ∷ []))
    ∷ ("G,\t,\t" has (4 ∷ 5 ∷ 7 ∷ 8 ∷ 11 ∷ 21 ∷ []))
    ∷ []))
    ∷ []

abbrev pub head_lines : List Place
head_lines =
    (place (bytes "P,k,1,R\nP,g,1,G\n") 3
    (("H,K,x" has (7 ∷ 8 ∷ 11 ∷ []))
    ∷ ("H,j,X" has (8 ∷ []))
    ∷ ("H,g,X" has (8 ∷ []))
    ∷ ("H,j,x" has (8 ∷ 11 ∷ []))
    ∷ ("H,k,x" has (11 ∷ []))
    ∷ []))
    ∷ (place (bytes "P,k,1,R\nC,k,0,1\nH,k,X\n") 4
    (("H,k,X" has (5 ∷ []))
    ∷ []))
    ∷ (place (bytes "P,k,2,R\n") 2
    (("H,k,f/9 A B C D E F G I J,f/8 K L M N O P Q R" has (12 ∷ []))
    ∷ []))
    ∷ (place sixty_four 66
    (("H,k" has (12 ∷ []))
    ∷ ("H,K,x" has (7 ∷ 8 ∷ 11 ∷ 12 ∷ []))
    ∷ []))
    ∷ (place (sixty_four ++ bytes "E\n") 67
    (("H,K,\t" has (4 ∷ 5 ∷ 7 ∷ 8 ∷ 11 ∷ 12 ∷ []))
    ∷ []))
    ∷ []

abbrev pub subgoal_lines : List Place
subgoal_lines =
    (place (bytes "P,k,1,R\nH,k,X\n") 3
    (("B,K,x" has (7 ∷ 8 ∷ 11 ∷ []))
    ∷ ("B,j,X" has (8 ∷ []))
    ∷ ("B,j,x" has (8 ∷ 11 ∷ []))
    ∷ ("B,k,x" has (11 ∷ []))
    ∷ []))
    ∷ (place (bytes "P,k,1,R\nC,k,0,1\nH,k,X\nM\n") 5
    (("B,k,X" has (5 ∷ []))
    ∷ []))
    ∷ (place (bytes "P,k,2,R\nH,k,f/9 A B C D E F G I J,f/8 K L M N O P Q A\n") 3
    (("B,k,X,Y" has (12 ∷ []))
    ∷ []))
    ∷ (place eight 11
    (("B,k,X" has (12 ∷ []))
    ∷ ("B,K,x" has (7 ∷ 8 ∷ 11 ∷ 12 ∷ []))
    ∷ []))
    ∷ (place (eight ++ bytes "E\n") 12
    (("B,K,\t" has (4 ∷ 5 ∷ 7 ∷ 8 ∷ 11 ∷ 12 ∷ []))
    ∷ []))
    ∷ []

abbrev pub multiplier_lines : List Place
multiplier_lines =
    (place (bytes "P,k,1,R\nC,k,0,1\nH,k,X\nB,k,X\n") 5
    (("M" has (9 ∷ []))
    ∷ ("M,x" has (10 ∷ []))
    ∷ ("M,2" has (13 ∷ []))
    ∷ ("M,x,0" has (9 ∷ 10 ∷ []))
    ∷ []))
    ∷ (place (bytes "P,k,1,R\nC,k,-1,1\nH,k,X\nB,k,X\n") 5
    (("M" has (9 ∷ 13 ∷ []))
    ∷ ("M,x" has (10 ∷ 13 ∷ []))
    ∷ ("M,x,0" has (9 ∷ 10 ∷ 13 ∷ []))
    ∷ []))
    ∷ (place (bytes "P,k,1,R\nC,k,0,1\nH,k,X\nM\n") 5
    (("M" has (5 ∷ []))
    ∷ []))
    ∷ (place (bytes "P,k,1,R\nC,k,-1,1\nH,k,X\nB,k,X\nM,1\nE\n") 7
    (("M,1,\t" has (4 ∷ 5 ∷ 9 ∷ 10 ∷ 13 ∷ []))
    ∷ []))
    ∷ []

abbrev pub end_lines : List Place
end_lines =
    (place (bytes "P,k,0,G\n") 2
    (("E," has (9 ∷ []))
    ∷ []))
    ∷ (place (bytes "P,k,1,R\nC,k,0,1\n") 3
    (("E" has (24 ∷ []))
    ∷ ("E," has (9 ∷ 24 ∷ []))
    ∷ []))
    ∷ (place (bytes "P,k,1,R\nC,k,0,1\nH,k,X\n") 4
    (("E" has (5 ∷ []))
    ∷ []))
    ∷ (place (bytes "P,j,0,R\nP,k,1,R\nC,j,0\nC,k,0,1\nH,k,X\n") 6
    (("E" has (5 ∷ 24 ∷ []))
    ∷ ("E,\t" has (4 ∷ 5 ∷ 9 ∷ 24 ∷ []))
    ∷ []))
    ∷ []

abbrev pub other_lines : List Place
other_lines =
    (place (bytes "E\n") 2
    (("\t" has (4 ∷ 5 ∷ []))
    ∷ []))
    ∷ (place (bytes "") 1
    (("Z" has (5 ∷ []))
    ∷ ("" has (5 ∷ []))
    ∷ ("PP,k,0,G" has (5 ∷ []))
    ∷ []))
    ∷ []

-- ---- it is met

-- what is asked of each row: the numbers, the first of them as check's, and the line
abbrev pub asked : Place → List Said
asked p = map (λ r. said r.numbers (get_or r.numbers 0 0) p.line) p.rows

abbrev pub answered : Place → List Said
answered p = map (λ r. said_of p.before (bytes r.text)) p.rows

abbrev pub lines : List Place
lines = predicate_lines ++ (claim_lines ++ (fact_lines ++ (head_lines ++ (subgoal_lines ++ (multiplier_lines ++ (end_lines ++ other_lines))))))

pub lines_are_met : map answered lines ≡ map asked lines
unfolding said_of thirty_two sixteen sixty_four eight bytes
lines_are_met = refl
