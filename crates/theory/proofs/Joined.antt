-- Derivations have no limit of depth, and terms in them none of size (specs/Witnesses.antt): in the pack that joins lists every list of ground
-- terms is joined with any other, and any ground term is a given fact's.
use mathlib.Core.Path.{◌≡◌, refl, ◌∙◌}
use mathlib.Core.Bool.{Bool, cond}
use mathlib.Core.List.Memᴰ
use mathlib.Core.List.{List, [], ◌∷◌, ◌++◌, append-nil, cons-ne-nil}
use Prim.Native.Nat as N
use Prim.Native.Nat.{ℕ, suc, ◌+◌}
use Prim.Native.String.{String}
use native.Mathlib.Omega.{arith}
use lib.IntN.{pos, negsuc}
use Rattle.groundwork.proofs.Lists.{all_cons}
use Rattle.groundwork.proofs.Truth.{by_truth}
use Rattle.theory.specs.Lists.{total, every}
use Rattle.theory.specs.Text.{Bytes, bytes, same, parts_at, lines_of, is_name_byte, is_word, value_after, is_decimal, natural, negated, integer}
use Rattle.theory.specs.Terms.{Term, Terms, variable, symbol, nil, cons, arity, symbol_from, symbol_in, token_of, first_terms, after, after_all, terms_of, the_only, read_term, variables, all_variables, Substitution, under, all_under}
use Rattle.theory.specs.Sizes.{structural, flagged, constant_of, size}
use Rattle.theory.specs.Packs.{given, ruled, Atom, Rule, Pack, same_key, declared_as, claims_on}
use Rattle.theory.specs.Written.{letter_of, terms_from, kind_from, predicate_from, claim_from, atom_from, multipliers_from, nothing, on_last, add, write, write_all, pack_of}
use Rattle.theory.specs.Derivations.{GivenFact, Derivable, by_rule, atom_under}
use Rattle.theory.specs.Witnesses.{joining, granting, empty, in_front, empties, list, wide, joins, is_k, Derived}

-- ---- what the lines write

abbrev named : String → Term
named x = variable (bytes x)

abbrev both : Term → Term → Term
both t l = symbol (bytes "cons") (cons t (cons l nil))

abbrev at_end : Rule
at_end = record { head = joins empty (named "Y") (named "Y"); subgoals = []; multipliers = [] ∷ [] ∷ [] }

abbrev one_more : Rule
one_more = record {
  head = joins (both (named "X") (named "Xs")) (named "Y") (both (named "X") (named "Zs"));
  subgoals = joins (named "Xs") (named "Y") (named "Zs") ∷ [];
  multipliers = (1 ∷ 0 ∷ []) ∷ (0 ∷ 1 ∷ []) ∷ [];
}

abbrev pack : Pack
pack = record {
  predicates = record { name = bytes "join"; arguments = 3; kind = ruled } ∷ [];
  claims = record { name = bytes "join"; constant = pos 0; coefficients = pos 1 ∷ pos 1 ∷ negsuc 0 ∷ [] } ∷ record { name = bytes "join"; constant = pos 0; coefficients = negsuc 0 ∷ negsuc 0 ∷ pos 1 ∷ [] } ∷ [];
  facts = [];
  rules = at_end ∷ one_more ∷ [];
}

written_so : pack_of (bytes joining) ≡ pack
unfolding bytes same every parts_at lines_of is_name_byte is_word value_after is_decimal natural negated integer arity symbol_from symbol_in token_of first_terms after after_all terms_of the_only read_term letter_of terms_from kind_from predicate_from claim_from atom_from multipliers_from nothing on_last add write write_all pack_of
written_so = refl

-- ---- ground terms

-- lists that are empty together are so one by one
left_empty : {A : Type 0} (l k : List A) → l ++ k ≡ [] → l ≡ []
left_empty [] k e = refl
left_empty (a ∷ l) k e = absurd (cons-ne-nil a (l ++ k) e)

right_empty : {A : Type 0} (l k : List A) → l ++ k ≡ [] → k ≡ []
right_empty [] k e = e
right_empty (a ∷ l) k e = absurd (cons-ne-nil a (l ++ k) e)

front_ground : (ts : Terms) (l : Term) → all_variables ts ≡ [] → variables l ≡ [] → variables (in_front ts l) ≡ []
unfolding in_front variables
front_ground nil l g h = h
front_ground (cons t ts) l g h = rw (left_empty (variables t) _ g, front_ground ts l (right_empty (variables t) _ g) h)

empties_ground : (n : ℕ) → all_variables (empties n) ≡ []
unfolding empties variables
empties_ground N.zero = refl
empties_ground (suc n) = empties_ground n

-- ---- substitutions

-- one term for every variable
unfoldable everywhere : (t : Term) → variables t ≡ [] → Substitution
everywhere t g = record { for = λ x. t; ground = λ x. g }

-- another term for one of them
unfoldable setting : Bytes → (t : Term) → variables t ≡ [] → Substitution → Substitution
setting name t g σ = record { for = λ x. cond (same x name) t (σ.for x); ground = λ x. by_truth (λ (b : Bool). variables (cond b t (σ.for x)) ≡ []) (same x name) (λ e. g) (λ e. σ.ground x) }

-- ---- every list of ground terms is joined with any other

join_derived : (ts : Terms) (l : Term) → all_variables ts ≡ [] → variables l ≡ [] → Derivable pack (GivenFact pack) (joins (in_front ts empty) l (in_front ts l))
unfolding in_front bytes same under all_under variables everywhere setting
join_derived nil l g h = by_rule at_end (Memᴰ.head refl) (everywhere l h) (λ a none. absurd (Memᴰ.not-nil none))
join_derived (cons t ts) l g h =
    let first : variables t ≡ [] = left_empty (variables t) _ g in
    let rest : all_variables ts ≡ [] = right_empty (variables t) _ g in
    let σ : Substitution = setting (bytes "X") t first (setting (bytes "Xs") (in_front ts empty) (front_ground ts empty rest refl) (setting (bytes "Zs") (in_front ts l) (front_ground ts l rest h) (everywhere l h))) in
    by_rule one_more (Memᴰ.tail (Memᴰ.head refl)) σ (all_cons (λ (a : Atom). Derivable pack (GivenFact pack) (atom_under σ a)) (join_derived ts l rest h) (λ a none. absurd (Memᴰ.not-nil none)))

pub all_joined : (ts : Terms) (l : Term) → all_variables ts ≡ [] → variables l ≡ [] → Derived joining (joins (in_front ts empty) l (in_front ts l))
all_joined ts l g h = rw written_so (join_derived ts l g h)

pub lists_joined : (n : ℕ) → Derived joining (joins (list n) empty (list n))
unfolding variables
lists_joined n = all_joined (empties n) empty (empties_ground n) refl

-- two for each element
pub list_size : (n : ℕ) → size structural (list n) ≡ n + n
unfolding in_front empties bytes arity structural flagged total constant_of
list_size N.zero = refl
list_size (suc n) = let fewer : size structural (list n) ≡ n + n = list_size n in omega (arith, fewer)

-- ---- any ground term from outside

granted_so : pack_of (bytes granting) ≡ record { predicates = record { name = bytes "k"; arguments = 1; kind = given } ∷ []; claims = []; facts = []; rules = [] }
unfolding bytes same every parts_at lines_of is_name_byte is_word value_after is_decimal natural negated integer arity symbol_from symbol_in token_of first_terms after after_all terms_of the_only read_term letter_of terms_from kind_from predicate_from claim_from atom_from multipliers_from nothing on_last add write write_all pack_of
granted_so = refl

pub any_granted : (t : Term) → variables t ≡ [] → Derived granting (is_k t)
unfolding bytes same arity same_key declared_as claims_on variables
any_granted t g = rw granted_so (Derivable.is_given (record {
  fact = record { predicate = record { name = bytes "k"; arguments = 1; kind = given }; declared = refl; ground = append-nil (variables t) ∙ g };
  is_given = refl;
  meets = record { meets = λ c none. absurd (Memᴰ.not-nil none) };
}))

pub wide_granted : Derived granting (is_k (wide 10))
unfolding variables
wide_granted = any_granted (wide 10) (empties_ground 10)
