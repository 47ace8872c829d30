-- Demand 3 of the facts that come with a pack is not about nothing, and not about too much. From the bytes of one pack: a fact
-- derived by a rule from the one on its `G` line; and a fact of the same given predicate that meets its claims and has no
-- derivation, since it stands on no `G` line.
use mathlib.Core.Path.{◌≡◌, refl, sym, ◌∙◌, ap}
use mathlib.Core.Bool.{Bool, cond}
use mathlib.Core.List.Memᴰ
use mathlib.Core.List.{[], ◌∷◌, flatten}
use Prim.Native.Nat.{ℕ}
use native.Mathlib.Omega.{arith}
use lib.IntN.{pos, negsuc}
use lib.ListN.{length, get_or}
use Rattle.groundwork.proofs.Lists.{all_cons}
use Rattle.groundwork.proofs.Order.{nonneg_pos}
use Rattle.groundwork.proofs.Truth.{by_truth}
use Rattle.theory.specs.Lists.{total, every}
use Rattle.theory.specs.Text.{Bytes, bytes, same, parts_at, lines_of, is_name_byte, is_word, value_after, is_decimal, natural, negated, integer}
use Rattle.theory.specs.Terms.{Term, variable, arity, symbol_from, symbol_in, token_of, first_terms, after, after_all, terms_of, the_only, read_term, variables, all_variables, Substitution, under, all_under}
use Rattle.theory.specs.Sizes.{structural, flagged, constant_of, argument_sizes}
use Rattle.theory.specs.Packs.{given, ruled, Claim, Atom, Rule, Pack, same_key, declared_as, claims_on}
use Rattle.theory.specs.Written.{letter_of, terms_from, kind_from, predicate_from, claim_from, atom_from, multipliers_from, nothing, on_last, add, write, write_all, pack_of}
use Rattle.theory.specs.Facts.{Meets, weighted_sizes}
use Rattle.theory.specs.Derivations.{GivenFact, ShippedFact, Derivable, by_rule, atom_under}
use Rattle.theory.specs.Witnesses.{shipping, zero, next, nexts, trails}

-- ---- what the lines write

abbrev X : Term
X = variable (bytes "X")

abbrev Y : Term
Y = variable (bytes "Y")

abbrev rule : Rule
rule = record { head = trails X Y; subgoals = nexts X Y ∷ []; multipliers = (1 ∷ []) ∷ [] }

abbrev falls : Bytes → Claim
falls name = record { name = name; constant = negsuc 0; coefficients = pos 1 ∷ negsuc 0 ∷ [] }

abbrev pack : Pack
pack = record {
  predicates = record { name = bytes "next"; arguments = 2; kind = given } ∷ record { name = bytes "trail"; arguments = 2; kind = ruled } ∷ [];
  claims = falls (bytes "next") ∷ falls (bytes "trail") ∷ [];
  facts = nexts (next (next zero)) (next zero) ∷ [];
  rules = rule ∷ [];
}

written_so : pack_of (bytes shipping) ≡ pack
unfolding bytes same every parts_at lines_of is_name_byte is_word value_after is_decimal natural negated integer arity symbol_from symbol_in token_of first_terms after after_all terms_of the_only read_term letter_of terms_from kind_from predicate_from claim_from atom_from multipliers_from nothing on_last add write write_all pack_of
written_so = refl

-- ---- a fact by a rule from the one that is shipped

pub shipped_derived : Derivable (pack_of (bytes shipping)) (ShippedFact (pack_of (bytes shipping))) (nexts (next (next zero)) (next zero))
shipped_derived = rw written_so (Derivable.is_given (record { stands = Memᴰ.head refl }))

-- X is the first argument of the shipped fact, and every other variable the second
unfoldable places : Substitution
unfolding bytes variables
places = record { for = λ x. cond (same x (bytes "X")) (next (next zero)) (next zero); ground = λ x. by_truth (λ (b : Bool). variables (cond b (next (next zero)) (next zero)) ≡ []) (same x (bytes "X")) (λ e. refl) (λ e. refl) }

pub trail_derived : Derivable (pack_of (bytes shipping)) (ShippedFact (pack_of (bytes shipping))) (trails (next (next zero)) (next zero))
unfolding bytes same under all_under places
trail_derived = rw written_so (by_rule rule (Memᴰ.head refl) places (all_cons (λ (a : Atom). Derivable pack (ShippedFact pack) (atom_under places a)) (rw written_so at shipped_derived) (λ a none. absurd (Memᴰ.not-nil none))))

-- ---- a fact that meets its claims and is not shipped

abbrev absent : Atom
absent = nexts (next zero) zero

-- document 01 would take it as given
pub absent_meets : GivenFact (pack_of (bytes shipping)) absent
unfolding bytes same arity same_key declared_as claims_on constant_of variables all_variables structural flagged total flatten weighted_sizes
absent_meets = rw written_so (record {
  fact = record { predicate = record { name = bytes "next"; arguments = 2; kind = given }; declared = refl; ground = refl };
  is_given = refl;
  meets = record { meets = all_cons (Meets structural absent) (record { holds = nonneg_pos 0 }) (λ c none. absurd (Memᴰ.not-nil none)) };
})

-- the size of the first argument tells it from the shipped fact, the length of its name from a head
abbrev first_size : Atom → ℕ
first_size f = get_or (argument_sizes structural f.terms) 0 0

underivable : (f : Atom) → Derivable pack (ShippedFact pack) f → f ≡ absent → ⊥
unfolding bytes constant_of arity structural flagged total
underivable f (Derivable.is_given shipped) is = let sizes : ◌≡◌ {A = ℕ} 1 2 = ap first_size (sym is ∙ Memᴰ.eq_of_singleton shipped.stands) in omega arith
underivable f (by_rule r m σ below) is = let names : length (bytes "trail") ≡ 4 = ap (λ (s : Rule). length s.head.name) (sym (Memᴰ.eq_of_singleton m)) ∙ ap (λ (a : Atom). length a.name) is in absurd (omega arith)

pub absent_underivable : Derivable (pack_of (bytes shipping)) (ShippedFact (pack_of (bytes shipping))) absent → ⊥
absent_underivable d = underivable absent (rw written_so at d) refl
