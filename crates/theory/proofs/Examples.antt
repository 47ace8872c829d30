-- The starred examples of document 01 as one table, and those of 02's 1/14 to 5/14 as others: the definitions
-- compute every answer.
use mathlib.Core.Path.{◌≡◌, refl, sym, ap, subst}
use mathlib.Core.List.Memᴰ
use mathlib.Core.List.{List, [], ◌∷◌, ◌++◌, map, flat_map, flatten}
use mathlib.Core.Option
use mathlib.Core.Option.{Option, some}
use Prim.Native.Nat.{ℕ}
use Prim.Native.Char.{code}
use native.Mathlib.Omega.{arith}
use Prim.Native.String.{String}
use lib.IntN.{ℤ, pos, negsuc}
use lib.ListN.{replicate}
use Rattle.theory.specs.Lists.{◌∈◌, total, every, any, is_some, is_empty}
use Rattle.theory.specs.Text.{Bytes, bytes, same, among, parts_at, joined, lines_of, is_name_byte, is_word, value_after, is_decimal, natural, negated, integer, last_digits, decimal}
use Rattle.theory.specs.Terms.{Term, variable, nil, cons, arity, symbol_from, symbol_in, token_of, first_terms, after, after_all, terms_of, the_only, read_term, variables}
use Rattle.theory.specs.Sizes.{arities_of, sum_of_arities, occurrences, occurrences_in, structural, flagged, constant_of, counted}
use Rattle.theory.specs.Forms.{zero_form, plus, times, minus, constant_form, form_of}
use Rattle.theory.specs.Packs.{given, Predicate, Atom, Rule, text_of, from_rules, from_facts, from_claims, fact_line, rule_lines, claim_line, head_line, same_key, declared_as, claims_on, no_claim}
use Rattle.theory.specs.Written.{letter_of, terms_from, kind_from, predicate_from, claim_from, atom_from, multipliers_from, nothing, on_last, add, write, write_all, pack_of}
use Rattle.theory.specs.Residuals.{weighted, claim_form, subgoal_forms, combined, residual, numbered, atoms_variables, rule_variables, residual_numbers, is_justified}
use Rattle.theory.specs.Facts.{weighted_sizes, is_met}
use Rattle.theory.specs.Faults.{first_given, is_unfit, less, line_arity, declared_for, is_given, given_in, ruled_in, no_rule, last_of, may_stand, residual_due, predicate_tests, claim_tests, atom_tests, fact_tests, head_tests, subgoal_tests, multiplier_tests, end_tests, tests, fault}
use Rattle.theory.specs.Check.{numbers, Checked, multiplier_lines, refused, judge, is_finished, judgement_of, check_of}
use Rattle.theory.specs.Measure.{Measured, measured, measure_term, measure_of}
use Rattle.theory.specs.Pages.{Paged, paged, after_verdict}
use Rattle.theory.specs.Sheet.{spaces, right_aligned, left_aligned, columns, sheet_line, sheet_lines, sheet, sheet_of}
use Rattle.theory.specs.Program.{whole_lines, through_end, after_end, pack_part, queries, printed_numbers, printed_fields, reply}
use Rattle.theory.specs.Witnesses.{joining, shipping}
use Rattle.theory.specs.Derivations.{GivenFact, Derivable, by_rule, atom_under}
use Rattle.theory.proofs.Judging.Keys.{declared_member}
use Rattle.theory.specs.Reserve.{Fields, fields, size_from, query_from, query_of, query_fault, unknowns_at_most_zero, known_part, is_usable, numerator, bound_by, usable_from, impossibles, smallest, bounded, impossible_or, reservation, refusal, answer_of, reserve_of}

-- a call with quoted texts or with bytes, and what it answers
pub data Example : Type 0 where
  check : String → List ℤ → Example
  check_on : Bytes → List ℤ → Example
  reserve : String → String → Example
  measure : String → Example
  measure_on : Bytes → Example
  sheet_on : String → Bytes → Example
  reply_to : String → Example

pub data Answer : Type 0 where
  checked : Checked → Answer
  reserved : Fields → Answer
  sized : Measured → Answer
  filed : Paged → Answer
  printed : Bytes → Answer

unfoldable pub answer_to : Example → Answer
unfolding bytes same among every any parts_at joined lines_of is_name_byte is_word value_after is_decimal natural negated integer arity symbol_from symbol_in token_of first_terms after after_all terms_of the_only read_term structural flagged total flatten constant_of counted variables occurrences zero_form plus times minus constant_form form_of same_key declared_as claims_on letter_of terms_from kind_from predicate_from claim_from atom_from multipliers_from nothing on_last add write write_all pack_of weighted claim_form subgoal_forms combined residual numbered atoms_variables rule_variables residual_numbers is_justified weighted_sizes is_met first_given is_some is_unfit less line_arity declared_for is_given given_in ruled_in is_empty no_rule last_of from_rules from_facts from_claims rule_lines claim_line fact_line head_line may_stand no_claim residual_due predicate_tests claim_tests atom_tests fact_tests head_tests subgoal_tests multiplier_tests end_tests tests fault multiplier_lines refused judge is_finished judgement_of check_of measure_term measure_of size_from query_from query_of query_fault unknowns_at_most_zero known_part is_usable numerator bound_by usable_from impossibles smallest bounded impossible_or reservation refusal answer_of reserve_of flat_map text_of decimal last_digits spaces right_aligned left_aligned columns sheet_line sheet_lines sheet after_verdict sheet_of whole_lines through_end after_end pack_part queries printed_numbers printed_fields reply
answer_to (check pack area) = checked (check_of (bytes pack) area)
answer_to (check_on pack area) = checked (check_of pack area)
answer_to (reserve pack query) = reserved (reserve_of (bytes pack) (bytes query))
answer_to (measure term) = sized (measure_of (bytes term))
answer_to (measure_on term) = sized (measure_of term)
answer_to (sheet_on pack page) = filed (sheet_of (bytes pack) page)
answer_to (reply_to input) = printed (reply (bytes input))

-- an area at entry: 19 numbers, none of them 0
abbrev pub before : List ℤ
before = replicate 19 (pos 7)

-- at exit, where the residual lies in it: its first numbers, zeros up to 17, and the last two as they were
abbrev left : ℕ → List ℤ → List ℤ
left zeros numbers = numbers ++ (replicate zeros (pos 0) ++ replicate 2 (pos 7))

abbrev pub unchanged : ℕ → ℕ → ℕ → ℕ → Answer
unchanged a b c d = checked (record { returned = numbers a b c d; area = before })

abbrev unjustified : ℕ → ℕ → ℕ → List ℤ → Answer
unjustified l r c area = checked (record { returned = numbers 13 l r c; area = area })

-- what is said besides of a pack: it has facts, but none has a derivation
abbrev NothingDerivable : String → Type 0
NothingDerivable pack = (f : Atom) → Derivable (pack_of (bytes pack)) (GivenFact (pack_of (bytes pack))) f → ⊥

pub record Row : Type 1 where
  pub call : Example
  pub answer : Answer
  pub besides : Type 0

infix 10 ◌gives◌
abbrev pub ◌gives◌ : Example → Answer → Row
◌gives◌ e a = record { call = e; answer = a; besides = Unit {0} }

-- a claim that contradicts itself
abbrev contradicted : String
contradicted = "P,k,1,R\nC,k,-1,0\nH,k,X\nB,k,X\nM,1\nE\n"

abbrev pub starred : List Row
starred =
    (check joining before gives unchanged 0 11 2 4)
    ∷ (check "P,join,3,R\nC,join,0,1,1,-1\nC,join,0,-1,-1,1\nH,join,nil/0,Y,Y\nM\nM\nH,join,cons/2 X Xs,Y,cons/2 X Zs\nB,join,Xs,Y,Zs\nM,0,1\nM,0,1\nE\n" before gives unjustified 9 2 1 (left 12 (pos 0 ∷ pos 0 ∷ pos 2 ∷ pos 2 ∷ negsuc 1 ∷ [])))
    ∷ (check "E\n" before gives unchanged 0 1 0 0)
    ∷ (check "" before gives unchanged 3 0 0 0)
    ∷ (check "E\nE\n" before gives unchanged 5 2 0 0)
    ∷ (check "P,k,1,R\nC,k,-1,1\nH,k,nil/0\nM\nE\n" before gives unjustified 4 1 1 (left 16 (negsuc 0 ∷ [])))
    ∷ (check "P,k,1,R\nC,k,0,1\nH,k,nil/0\nM\nE\n" before gives unchanged 0 5 1 1)
    ∷ record { call = check contradicted before; answer = unchanged 0 6 1 1; besides = NothingDerivable contradicted }
    ∷ (reserve "P,k,1,G\nC,k,7,-2\nE\n" "k,1,-" gives reserved (fields (code "B") 3 1))
    ∷ (measure "a/0" gives sized (measured 0 0))
    ∷ (measure "cons/2 a/0" gives sized (measured 11 0))
    ∷ []

-- ---- what is said besides

-- its only predicate is ruled
no_given : (x : Predicate) → x ∈ (pack_of (bytes contradicted)).predicates → x.kind ≡ given → ⊥
unfolding bytes same every parts_at lines_of is_name_byte is_word value_after is_decimal natural negated integer arity symbol_from symbol_in token_of first_terms after after_all terms_of the_only read_term same_key declared_as claims_on letter_of terms_from kind_from predicate_from claim_from atom_from multipliers_from nothing on_last add write write_all pack_of
no_given x m e = let z : ◌≡◌ {A = ℕ} 0 1 = cc (ap (λ (y : Predicate). y.kind) (Memᴰ.eq_of_singleton m)) in omega arith

-- and its only rule has a subgoal
rule_subgoal : (r : Rule) → r ∈ (pack_of (bytes contradicted)).rules → (a : Atom) × (a ∈ r.subgoals)
unfolding bytes same every parts_at lines_of is_name_byte is_word value_after is_decimal natural negated integer arity symbol_from symbol_in token_of first_terms after after_all terms_of the_only read_term same_key declared_as claims_on letter_of terms_from kind_from predicate_from claim_from atom_from multipliers_from nothing on_last add write write_all pack_of
rule_subgoal r m = (record { name = bytes "k"; terms = cons (variable (bytes "X")) nil }, subst (λ (s : Rule). record { name = bytes "k"; terms = cons (variable (bytes "X")) nil } ∈ s.subgoals) (sym (Memᴰ.eq_of_singleton m)) (Memᴰ.head refl))

-- so a derivation would need another before it, and so on
nothing_derivable : NothingDerivable contradicted
nothing_derivable f (Derivable.is_given g) = no_given g.fact.predicate (declared_member _ _ g.fact.predicate g.fact.declared).0 g.is_given
nothing_derivable f (by_rule r m σ below) = let (a, n) = rule_subgoal r m in nothing_derivable (atom_under σ a) (below a n)

abbrev AllBesides : List Row → Type 0
AllBesides [] = Unit {0}
AllBesides (r ∷ rows) = r.besides × AllBesides rows

-- every answer of a table
abbrev pub AnswersMet : List Row → Type 0
AnswersMet rows = map (λ (r : Row). answer_to r.call) rows ≡ map (λ (r : Row). r.answer) rows

-- A table as a whole: every answer, and what is said besides.
pub record TableMet (rows : List Row) : Type 0 where
  pub answers : AnswersMet rows
  pub besides : AllBesides rows

-- Document 01's starred examples.
pub starred_are_met : TableMet starred
unfolding answer_to
starred_are_met = record { answers = refl; besides = (tt, (tt, (tt, (tt, (tt, (tt, (tt, (nothing_derivable, (tt, (tt, (tt, tt))))))))))) }

-- ---- 02, 1/14: facts that come with the pack

-- accepted; a ruled predicate, before the variable; a variable, before the claim; a claim that the second fact fails
abbrev pub with_facts : List Row
with_facts =
    (check shipping before gives unchanged 0 9 1 1)
    ∷ (check "P,k,1,R\nG,k,X\nE\n" before gives unchanged 20 2 0 0)
    ∷ (check "P,k,1,G\nC,k,-1,0\nG,k,X\nE\n" before gives unchanged 21 3 0 0)
    ∷ (check "P,k,1,G\nC,k,0,-1\nG,k,a/0\nG,k,f/1 a/0\nE\n" before gives unchanged 22 4 0 0)
    ∷ (check "P,k,0,G\nG,k\nC,k,0\nE\n" before gives unchanged 5 3 0 0)
    ∷ []

pub facts_are_met : TableMet with_facts
unfolding answer_to
facts_are_met = record { answers = refl; besides = (tt, (tt, (tt, (tt, (tt, tt))))) }

-- ---- 02, 2/14: the sheet

-- a page at entry
abbrev dots : ℕ → Bytes
dots n = replicate n (code ".")

abbrev joined_sheet : Bytes
joined_sheet = bytes "   1 join              0   2                                    \n   2 join              1   2                                    \n"

-- ten rules, the last with a name of 16 bytes and ten `M` lines, and the first 28 columns of each line
abbrev ten_rules : String
ten_rules = "P,k,0,R\nP,abcdefghijklmn_9,0,R\nC,abcdefghijklmn_9,0\nC,abcdefghijklmn_9,0\nC,abcdefghijklmn_9,0\nC,abcdefghijklmn_9,0\nC,abcdefghijklmn_9,0\nC,abcdefghijklmn_9,0\nC,abcdefghijklmn_9,0\nC,abcdefghijklmn_9,0\nC,abcdefghijklmn_9,0\nC,abcdefghijklmn_9,0\nH,k\nH,k\nH,k\nH,k\nH,k\nH,k\nH,k\nH,k\nH,k\nH,abcdefghijklmn_9\nM\nM\nM\nM\nM\nM\nM\nM\nM\nM\nE\n"

abbrev ten_lines : List String
ten_lines =
    "   1 k                 0   0"
    ∷ "   2 k                 0   0"
    ∷ "   3 k                 0   0"
    ∷ "   4 k                 0   0"
    ∷ "   5 k                 0   0"
    ∷ "   6 k                 0   0"
    ∷ "   7 k                 0   0"
    ∷ "   8 k                 0   0"
    ∷ "   9 k                 0   0"
    ∷ "  10 abcdefghijklmn_9  0  10"
    ∷ []

-- a page that is longer, just long enough, and too short; no rules, and no page; a refused pack, and no page; wide entries
abbrev pub with_sheets : List Row
with_sheets =
    (sheet_on joining (dots 133) gives filed (paged (numbers 0 11 2 4) (joined_sheet ++ dots 3)))
    ∷ (sheet_on joining (dots 130) gives filed (paged (numbers 0 11 2 4) joined_sheet))
    ∷ (sheet_on joining (dots 129) gives filed (paged (numbers 23 0 0 0) (dots 129)))
    ∷ (sheet_on "E\n" [] gives filed (paged (numbers 0 1 0 0) []))
    ∷ (sheet_on "P,k,0,R\nH,k\nH,k,x\nE\n" (dots 5) gives filed (paged (numbers 8 3 0 0) (dots 5)))
    ∷ (sheet_on ten_rules (dots 650) gives filed (paged (numbers 0 33 10 10) (flat_map (λ (s : String). bytes s ++ (replicate 36 (code " ") ++ (10 ∷ []))) ten_lines)))
    ∷ []

pub sheets_are_met : TableMet with_sheets
unfolding answer_to
sheets_are_met = record { answers = refl; besides = (tt, (tt, (tt, (tt, (tt, (tt, tt)))))) }

-- ---- 02, 3/14: a misspelt head

-- the buyer's: `trail` has the claim, and `trial` the rules
abbrev pub misspelt : String
misspelt = "P,next,2,G\nP,trail,2,R\nP,trial,2,R\nC,next,0,1,-1\nC,trail,0,1,-1\nH,trial,X,Y\nB,next,X,Y\nE\n"

-- refused, whatever is asked; a given predicate, and one without a claim, need no rule; a field too many on the `E` line, and
-- a line after it; one of two that heads none, the second or the first
abbrev pub with_heads : List Row
with_heads =
    (check misspelt before gives unchanged 24 8 0 0)
    ∷ (reserve misspelt "next,1,-,2" gives reserved (fields (code "R") 24 0))
    ∷ (sheet_on misspelt (dots 3) gives filed (paged (numbers 24 8 0 0) (dots 3)))
    ∷ (check "P,k,1,G\nC,k,0,1\nE\n" before gives unchanged 0 3 0 0)
    ∷ (check "P,k,1,R\nE\n" before gives unchanged 0 2 0 0)
    ∷ (check "P,k,1,R\nC,k,0,1\nE,\n" before gives unchanged 9 3 0 0)
    ∷ (check "P,k,1,R\nC,k,0,1\nE\nE\n" before gives unchanged 24 3 0 0)
    ∷ (check "P,j,0,R\nP,k,0,R\nC,j,0\nC,k,0\nH,j\nM\nE\n" before gives unchanged 24 7 0 0)
    ∷ (check "P,j,0,R\nP,k,0,R\nC,j,0\nC,k,0\nH,k\nM\nE\n" before gives unchanged 24 7 0 0)
    ∷ []

pub heads_are_met : TableMet with_heads
unfolding answer_to
heads_are_met = record { answers = refl; besides = (tt, (tt, (tt, (tt, (tt, (tt, (tt, (tt, (tt, tt))))))))) }

-- ---- 02, 4/14: the examples of 000, section 1.4

-- a term's sum of arities, and how often these variables occur in it
unfoldable pub parts_of : String → List String → Option (List ℕ)
parts_of term names = Option.map (λ (t : Term). sum_of_arities t ∷ map (λ (x : String). occurrences_in t (bytes x)) names) (read_term (bytes term))

-- 3 + U + V; and the two arguments of one head: 4 + V1 + 2 V2, and 0 + V1
pub record SectionMet : Type 0 where
  pub alone : parts_of "f/3 U V a/0" ("U" ∷ "V" ∷ []) ≡ some (3 ∷ 1 ∷ 1 ∷ [])
  pub first : parts_of "f/3 V1 g/1 V2 V2" ("V1" ∷ "V2" ∷ []) ≡ some (4 ∷ 1 ∷ 2 ∷ [])
  pub second : parts_of "V1" ("V1" ∷ "V2" ∷ []) ≡ some (0 ∷ 1 ∷ 0 ∷ [])

pub section_is_met : SectionMet
unfolding parts_of bytes same every parts_at is_name_byte is_word value_after is_decimal natural arity symbol_from symbol_in token_of first_terms after after_all terms_of the_only read_term arities_of sum_of_arities total variables occurrences occurrences_in
section_is_met = record { alone = refl; first = refl; second = refl }

-- the same sizes as check works them out, each less one more than its constant
abbrev pub with_sizes : List Row
with_sizes =
    (check "P,p,1,R\nC,p,-4,1\nH,p,f/3 U V a/0\nM\nE\n" before gives unjustified 4 1 1 (left 14 (negsuc 0 ∷ pos 1 ∷ pos 1 ∷ [])))
    ∷ (check "P,p,2,R\nC,p,-5,1,0\nH,p,f/3 V1 g/1 V2 V2,V1\nM\nE\n" before gives unjustified 4 1 1 (left 14 (negsuc 0 ∷ pos 1 ∷ pos 2 ∷ [])))
    ∷ (check "P,p,2,R\nC,p,-1,0,1\nH,p,f/3 V1 g/1 V2 V2,V1\nM\nE\n" before gives unjustified 4 1 1 (left 15 (negsuc 0 ∷ pos 1 ∷ [])))
    ∷ []

pub sizes_are_met : TableMet with_sizes
unfolding answer_to
sizes_are_met = record { answers = refl; besides = (tt, (tt, (tt, tt))) }

-- ---- 02, 5/14: same name, another arity

-- `path` with two arguments by `path` with three, each with a claim of its own
abbrev pub paths : String
paths = "P,edge,2,G\nP,path,2,R\nP,path,3,R\nC,edge,-1,1,-1\nC,path,0,1,-1\nC,path,-1,1,-1,0\nH,path,X,Y\nB,path,X,Y,Z\nM,1\nH,path,X,Y,e/0\nB,edge,X,Y\nM,1\nE\n"

-- accepted, and reserved by the claims of the one or the other; a claim without a constant; an arity that is malformed, or
-- missing, or that of a declared predicate in a line that has too few fields; another arity than the given one, as a head and
-- as a fact; a query without fields for its sizes, for the asked argument, and one of another arity
abbrev pub with_arities : List Row
with_arities =
    (check paths before gives unchanged 0 13 2 2)
    ∷ (reserve paths "path,2,5,-" gives reserved (fields (code "B") 5 1))
    ∷ (reserve paths "path,2,5,-,-" gives reserved (fields (code "B") 4 1))
    ∷ (check "P,k,0,G\nC,k\nE\n" before gives unchanged 8 2 0 0)
    ∷ (check "P,k,0,R\nP,k,x,R\nE\n" before gives unchanged 10 2 0 0)
    ∷ (check "P,k,0,R\nP,k\nE\n" before gives unchanged 9 2 0 0)
    ∷ (check "P,k,2,R\nP,k,2\nE\n" before gives unchanged 8 2 0 0)
    ∷ (check "P,k,1,G\nH,k,a/0,b/0\nE\n" before gives unchanged 8 2 0 0)
    ∷ (check "P,k,1,R\nG,k,a/0,b/0\nE\n" before gives unchanged 8 2 0 0)
    ∷ (reserve "P,k,0,G\nE\n" "k" gives reserved (fields (code "R") 14 0))
    ∷ (reserve "P,k,0,G\nE\n" "k,1" gives reserved (fields (code "R") 16 0))
    ∷ (reserve "P,k,2,G\nE\n" "k,1,-" gives reserved (fields (code "R") 14 0))
    ∷ []

pub arities_are_met : TableMet with_arities
unfolding answer_to
arities_are_met = record { answers = refl; besides = (tt, (tt, (tt, (tt, (tt, (tt, (tt, (tt, (tt, (tt, (tt, (tt, tt)))))))))))) }
