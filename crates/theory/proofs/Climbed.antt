-- A fact by a rule with eight subgoals, of a predicate with eight arguments (specs/Witnesses.antt).
use mathlib.Core.Path.{◌≡◌, refl}
use mathlib.Core.List.Memᴰ
use mathlib.Core.List.{[], ◌∷◌, flatten}
use Prim.Native.Nat as N
use Prim.Native.Nat.{ℕ, suc, ◌-◌}
use Prim.Native.String.{String}
use lib.IntN.{pos, negsuc}
use lib.ListN.{get_or}
use lib.Signed.{◌≤ℤ◌}
use Rattle.groundwork.proofs.Lists.{all_cons}
use Rattle.groundwork.proofs.Order.{nonneg_pos}
use Rattle.theory.specs.Lists.{total, every}
use Rattle.theory.specs.Text.{bytes, same, parts_at, lines_of, is_name_byte, is_word, value_after, is_decimal, natural, negated, integer}
use Rattle.theory.specs.Terms.{Term, variable, nil, cons, arity, symbol_from, symbol_in, token_of, first_terms, after, after_all, terms_of, the_only, read_term, variables, all_variables, Substitution, under, all_under}
use Rattle.theory.specs.Sizes.{structural, flagged, constant_of}
use Rattle.theory.specs.Packs.{given, ruled, Claim, Atom, Rule, Pack, same_key, declared_as, claims_on}
use Rattle.theory.specs.Written.{letter_of, terms_from, kind_from, predicate_from, claim_from, atom_from, multipliers_from, nothing, on_last, add, write, write_all, pack_of}
use Rattle.theory.specs.Facts.{Meets, weighted_sizes, claim_at}
use Rattle.theory.specs.Derivations.{GivenFact, Derivable, by_rule, atom_under}
use Rattle.theory.specs.Witnesses.{climbing, zero, numeral, climbed, Derived}

-- ---- what the lines write

abbrev steps : Term → Term → Atom
steps a b = record { name = bytes "step"; terms = cons a (cons b nil) }

abbrev named : String → Term
named x = variable (bytes x)

abbrev rule : Rule
rule = record {
  head = record { name = bytes "climb"; terms = cons (named "A") (cons (named "B") (cons (named "C") (cons (named "D") (cons (named "E") (cons (named "F") (cons (named "G") (cons (named "H") nil))))))) };
  subgoals = steps zero (named "A") ∷ steps (named "A") (named "B") ∷ steps (named "B") (named "C") ∷ steps (named "C") (named "D") ∷ steps (named "D") (named "E") ∷ steps (named "E") (named "F") ∷ steps (named "F") (named "G") ∷ steps (named "G") (named "H") ∷ [];
  multipliers = (1 ∷ 1 ∷ 1 ∷ 1 ∷ 1 ∷ 1 ∷ 1 ∷ 1 ∷ []) ∷ [];
}

abbrev rises : Claim
rises = record { name = bytes "step"; constant = pos 1; coefficients = pos 1 ∷ negsuc 0 ∷ [] }

abbrev highest : Claim
highest = record { name = bytes "climb"; constant = pos 8; coefficients = pos 0 ∷ pos 0 ∷ pos 0 ∷ pos 0 ∷ pos 0 ∷ pos 0 ∷ pos 0 ∷ negsuc 0 ∷ [] }

abbrev pack : Pack
pack = record {
  predicates = record { name = bytes "step"; arguments = 2; kind = given } ∷ record { name = bytes "climb"; arguments = 8; kind = ruled } ∷ [];
  claims = rises ∷ highest ∷ [];
  facts = [];
  rules = rule ∷ [];
}

written_so : pack_of (bytes climbing) ≡ pack
unfolding bytes same every parts_at lines_of is_name_byte is_word value_after is_decimal natural negated integer arity symbol_from symbol_in token_of first_terms after after_all terms_of the_only read_term letter_of terms_from kind_from predicate_from claim_from atom_from multipliers_from nothing on_last add write write_all pack_of
written_so = refl

-- ---- each step is given

step_given : (s t : Term) → all_variables (cons s (cons t nil)) ≡ [] → pos 0 ≤ℤ claim_at structural (steps s t) rises → Derivable pack (GivenFact pack) (steps s t)
unfolding bytes same arity same_key declared_as claims_on
step_given s t g m = Derivable.is_given (record {
  fact = record { predicate = record { name = bytes "step"; arguments = 2; kind = given }; declared = refl; ground = g };
  is_given = refl;
  meets = record { meets = all_cons (Meets structural (steps s t)) (record { holds = m }) (λ c none. absurd (Memᴰ.not-nil none)) };
})

-- ---- and with all of them the rule applies

numeral_ground : (n : ℕ) → variables (numeral n) ≡ []
unfolding numeral variables
numeral_ground N.zero = refl
numeral_ground (suc n) = rw (numeral_ground n)

-- A is 1, B is 2, and so on
unfoldable heights : Substitution
heights = record { for = λ x. numeral (get_or x 0 0 - 64); ground = λ x. numeral_ground (get_or x 0 0 - 64) }

pub climbed_derived : Derived climbing climbed
unfolding bytes under all_under variables heights numeral arity constant_of structural flagged total flatten weighted_sizes
climbed_derived =
    let P : Atom → Type 0 = λ (a : Atom). Derivable pack (GivenFact pack) (atom_under heights a) in
    rw written_so (by_rule rule (Memᴰ.head refl) heights
    (all_cons P (step_given (numeral 0) (numeral 1) refl (nonneg_pos 0))
    (all_cons P (step_given (numeral 1) (numeral 2) refl (nonneg_pos 0))
    (all_cons P (step_given (numeral 2) (numeral 3) refl (nonneg_pos 0))
    (all_cons P (step_given (numeral 3) (numeral 4) refl (nonneg_pos 0))
    (all_cons P (step_given (numeral 4) (numeral 5) refl (nonneg_pos 0))
    (all_cons P (step_given (numeral 5) (numeral 6) refl (nonneg_pos 0))
    (all_cons P (step_given (numeral 6) (numeral 7) refl (nonneg_pos 0))
    (all_cons P (step_given (numeral 7) (numeral 8) refl (nonneg_pos 0))
    (λ a none. absurd (Memᴰ.not-nil none)))))))))))
