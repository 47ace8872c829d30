-- The promises are not about nothing (specs/Witnesses.antt): facts that have derivations, by rules and as given, from the bytes of document
-- 01's packs, with the known sizes of queries that are answered.
use mathlib.Core.Path.{◌≡◌, refl, ◌∙◌, ap}
use mathlib.Core.Bool.{Bool, true, false, ◌&&◌}
use mathlib.Core.List.Memᴰ
use mathlib.Core.List.{List, [], ◌∷◌, flat_map, flatten}
use mathlib.Core.Option.{Option, some, none, some-injective, none-ne-some}
use Prim.Native.Nat as N
use Prim.Native.Nat.{ℕ, suc}
use Prim.Native.Char.{code}
use Prim.Native.String.{String}
use lib.Dec.{eqb}
use lib.ListN.{get_or}
use Rattle.groundwork.proofs.Lists.{all_cons}
use Rattle.groundwork.proofs.Order.{nonneg_pos}
use Rattle.groundwork.proofs.Truth.{never_both, and_left, and_right, eqb-equal}
use Rattle.theory.specs.Lists.{total, every}
use Rattle.theory.specs.Text.{Bytes, bytes, same, parts_at, lines_of, is_name_byte, is_word, value_after, is_decimal, natural, negated, integer}
use Rattle.theory.specs.Terms.{arity, symbol_from, symbol_in, token_of, first_terms, after, after_all, terms_of, the_only, read_term, variables, Substitution, under, all_under, all_variables}
use Rattle.theory.specs.Sizes.{structural, flagged, constant_of}
use Rattle.theory.specs.Packs.{same_key, declared_as, claims_on, Atom, ruled}
use Rattle.theory.specs.Written.{letter_of, terms_from, kind_from, predicate_from, claim_from, atom_from, multipliers_from, nothing, on_last, add, write, write_all, pack_of}
use Rattle.theory.specs.Faults.{no_rule}
use Rattle.theory.specs.Facts.{Meets, weighted_sizes}
use Rattle.theory.specs.Reserve.{Query, Fields, fields, size_from, query_from, query_of, size_at, HasKnownSizes, reserve_of}
use Rattle.theory.specs.Derivations.{GivenFact, Derivable, by_rule}
use Rattle.theory.specs.Witnesses.{joining, giving, shipping, climbing, empty, empties, in_front, list, wide, zero, next, numeral, joins, is_k, trails, climbed, Reached, LineJudged, Witnessed}
use Rattle.theory.proofs.Examples.{Answer, checked, reserved, sized, filed, printed, reserve, answer_to}
use Rattle.theory.proofs.Joined.{all_joined, lists_joined, list_size, any_granted, wide_granted}
use Rattle.theory.proofs.Climbed.{climbed_derived}
use Rattle.theory.proofs.Shipped.{trail_derived, absent_meets, absent_underivable}

-- ---- facts of the pack that joins lists

-- every variable is the empty list
unfoldable all_empty : Substitution
unfolding bytes variables
all_empty = record { for = λ x. empty; ground = λ x. refl }

pub empty_joined : Derivable (pack_of (bytes joining)) (GivenFact (pack_of (bytes joining))) (joins empty empty empty)
unfolding bytes same every parts_at lines_of is_name_byte is_word value_after is_decimal natural negated integer arity symbol_from symbol_in token_of first_terms after after_all terms_of the_only read_term constant_of variables same_key declared_as claims_on letter_of terms_from kind_from predicate_from claim_from atom_from multipliers_from nothing on_last add write write_all pack_of no_rule flat_map under all_under all_variables all_empty
empty_joined = by_rule (get_or (pack_of (bytes joining)).rules 0 no_rule) (Memᴰ.head refl) all_empty (λ a none. absurd (Memᴰ.not-nil none))

-- ---- a given fact

-- its size is 3, and 7 - 2 times 3 is at least 0
pub given_derived : Derivable (pack_of (bytes giving)) (GivenFact (pack_of (bytes giving))) (is_k (wide 3))
unfolding bytes same every parts_at lines_of is_name_byte is_word value_after is_decimal natural negated integer arity symbol_from symbol_in token_of first_terms after after_all terms_of the_only read_term constant_of variables same_key declared_as claims_on letter_of terms_from kind_from predicate_from claim_from atom_from multipliers_from nothing on_last add write write_all pack_of no_rule flat_map under all_under all_variables all_empty empties structural flagged total flatten weighted_sizes
given_derived = Derivable.is_given (record {
  fact = record { predicate = get_or (pack_of (bytes giving)).predicates 0 (record { name = []; arguments = 0; kind = ruled }); declared = refl; ground = refl };
  is_given = refl;
  meets = record { meets = all_cons (Meets structural (is_k (wide 3))) (record { holds = nonneg_pos 1 }) (λ c none. absurd (Memᴰ.not-nil none)) };
})

-- ---- queries

-- what a row of the table's kind says of reserve
answer_is : (pack query : String) (x : Fields) → answer_to (reserve pack query) ≡ reserved x → reserve_of (bytes pack) (bytes query) ≡ x
unfolding answer_to
answer_is pack query x e = ap of e
  where
    of : Answer → Fields
    of (checked c) = x
    of (reserved y) = y
    of (sized m) = x
    of (filed page) = x
    of (printed text) = x

-- each size that is known is the one at its place, as a test
unfoldable agree : List (Option ℕ) → List ℕ → Bool
agree [] sizes = true
agree (o ∷ known) [] = false
agree (none ∷ known) (s ∷ sizes) = agree known sizes
agree (some t ∷ known) (s ∷ sizes) = eqb s t && agree known sizes

agrees : (known : List (Option ℕ)) (sizes : List ℕ) → agree known sizes ≡ true → (i s : ℕ) → get_or known i none ≡ some s → get_or sizes i 0 ≡ s
unfolding agree
agrees [] sizes e i s h = absurd (none-ne-some s h)
agrees (o ∷ known) [] e i s h = never_both e refl
agrees (none ∷ known) (t ∷ sizes) e N.zero s h = absurd (none-ne-some s h)
agrees (none ∷ known) (t ∷ sizes) e (suc i) s h = agrees known sizes e i s h
agrees (some u ∷ known) (t ∷ sizes) e N.zero s h = eqb-equal t u (and_left (eqb t u) _ e) ∙ some-injective u s h
agrees (some u ∷ known) (t ∷ sizes) e (suc i) s h = agrees known sizes (and_right (eqb t u) _ e) i s h

-- ---- with the known sizes of queries

abbrev asks : Bytes → ℕ → List (Option ℕ) → Query
asks name asked sizes = record { name = name; asked = asked; sizes = sizes }

third_asked : query_of (bytes "join,3,2,0,-") ≡ asks (bytes "join") 2 (some 2 ∷ some 0 ∷ none ∷ [])
unfolding bytes same every parts_at is_decimal value_after natural size_from query_from query_of
third_asked = refl

first_asked : query_of (bytes "join,1,-,0,0") ≡ asks (bytes "join") 0 (none ∷ some 0 ∷ some 0 ∷ [])
unfolding bytes same every parts_at is_decimal value_after natural size_from query_from query_of
first_asked = refl

only_asked : query_of (bytes "k,1,-") ≡ asks (bytes "k") 0 (none ∷ [])
unfolding bytes same every parts_at is_decimal value_after natural size_from query_from query_of
only_asked = refl

second_asked : query_of (bytes "trail,2,2,-") ≡ asks (bytes "trail") 1 (some 2 ∷ none ∷ [])
unfolding bytes same every parts_at is_decimal value_after natural size_from query_from query_of
second_asked = refl

eighth_asked : query_of (bytes "climb,8,1,2,3,4,5,6,7,-") ≡ asks (bytes "climb") 7 (some 1 ∷ some 2 ∷ some 3 ∷ some 4 ∷ some 5 ∷ some 6 ∷ some 7 ∷ none ∷ [])
unfolding bytes same every parts_at is_decimal value_after natural size_from query_from query_of
eighth_asked = refl

-- a fact has the sizes, and its asked size is the bound
record Has (q : Query) (f : Atom) (bound : ℕ) : Type 0 where
  known : HasKnownSizes structural q f
  reached : size_at structural q.asked f ≡ bound

single_has : Has (asks (bytes "join") 2 (some 2 ∷ some 0 ∷ none ∷ [])) (joins (list 1) empty (list 1)) 2
unfolding agree bytes in_front empties arity constant_of structural flagged total flatten
single_has = record { known = record { of_predicate = refl; known = agrees (some 2 ∷ some 0 ∷ none ∷ []) (2 ∷ 0 ∷ 2 ∷ []) refl }; reached = refl }

empty_has : Has (asks (bytes "join") 0 (none ∷ some 0 ∷ some 0 ∷ [])) (joins empty empty empty) 0
unfolding agree bytes arity constant_of structural flagged total flatten
empty_has = record { known = record { of_predicate = refl; known = agrees (none ∷ some 0 ∷ some 0 ∷ []) (0 ∷ 0 ∷ 0 ∷ []) refl }; reached = refl }

three_has : Has (asks (bytes "k") 0 (none ∷ [])) (is_k (wide 3)) 3
unfolding agree bytes empties arity constant_of structural flagged total flatten
three_has = record { known = record { of_predicate = refl; known = agrees (none ∷ []) (3 ∷ []) refl }; reached = refl }

trail_has : Has (asks (bytes "trail") 1 (some 2 ∷ none ∷ [])) (trails (next (next zero)) (next zero)) 1
unfolding agree bytes arity constant_of structural flagged total flatten
trail_has = record { known = record { of_predicate = refl; known = agrees (some 2 ∷ none ∷ []) (2 ∷ 1 ∷ []) refl }; reached = refl }

climbed_has : Has (asks (bytes "climb") 7 (some 1 ∷ some 2 ∷ some 3 ∷ some 4 ∷ some 5 ∷ some 6 ∷ some 7 ∷ none ∷ [])) climbed 8
unfolding agree bytes numeral arity constant_of structural flagged total flatten
climbed_has = record { known = record { of_predicate = refl; known = agrees (some 1 ∷ some 2 ∷ some 3 ∷ some 4 ∷ some 5 ∷ some 6 ∷ some 7 ∷ none ∷ []) (1 ∷ 2 ∷ 3 ∷ 4 ∷ 5 ∷ 6 ∷ 7 ∷ 8 ∷ []) refl }; reached = refl }

reaches : {text query : Bytes} {Given : Atom → Type 0} {bound claim : ℕ} {f : Atom} {q : Query} → query_of query ≡ q → reserve_of text query ≡ fields (code "B") bound claim → Derivable (pack_of text) Given f → Has q f bound
    → Reached text Given query bound claim f
reaches {q = q} is answer derived has = record { answer = answer; derived = derived; known = rw is has.known; reached = rw is has.reached }

climbed_answer : reserve_of (bytes climbing) (bytes "climb,8,1,2,3,4,5,6,7,-") ≡ fields (code "B") 8 1
unfolding answer_to
climbed_answer = answer_is climbing "climb,8,1,2,3,4,5,6,7,-" _ refl

climbed_reaches : Reached (bytes climbing) (GivenFact (pack_of (bytes climbing))) (bytes "climb,8,1,2,3,4,5,6,7,-") 8 1 climbed
climbed_reaches = reaches eighth_asked climbed_answer climbed_derived climbed_has

-- ---- lines of multipliers that are judged

fine_line_lem : LineJudged (bytes "P,k,1,R\nC,k,0,1\nH,k,nil/0\nM\nE\n") 0
unfolding answer_to
fine_line_lem = record { before = bytes "P,k,1,R" ∷ bytes "C,k,0,1" ∷ bytes "H,k,nil/0" ∷ []; multipliers = bytes "M"; after = bytes "E" ∷ []; are = refl; fine = (refl, (refl, (refl, tt))); letter = refl; has = refl }

unjustified_line_lem : LineJudged (bytes "P,k,1,R\nC,k,-1,1\nH,k,nil/0\nM\nE\n") 13
unfolding answer_to
unjustified_line_lem = record { before = bytes "P,k,1,R" ∷ bytes "C,k,-1,1" ∷ bytes "H,k,nil/0" ∷ []; multipliers = bytes "M"; after = bytes "E" ∷ []; are = refl; fine = (refl, (refl, (refl, tt))); letter = refl; has = refl }

-- ---- all together

pub witnessed : Witnessed
unfolding answer_to
witnessed = record {
  ruled = reaches third_asked (answer_is joining "join,3,2,0,-" _ refl) (lists_joined 1) single_has;
  impossible = answer_is joining "join,1,-,1,0" _ refl;
  one_apart = reaches first_asked (answer_is joining "join,1,-,0,0" _ refl) empty_joined empty_has;
  joined = all_joined;
  lists = lists_joined;
  list_sizes = list_size;
  climbs = climbed_reaches;
  granted = any_granted;
  unwritten = wide_granted;
  given = reaches only_asked (answer_is giving "k,1,-" _ refl) given_derived three_has;
  shipped = reaches second_asked (answer_is shipping "trail,2,2,-" _ refl) trail_derived trail_has;
  absent = absent_meets;
  underivable = absent_underivable;
  fine_line = fine_line_lem;
  unjustified_line = unjustified_line_lem;
}
