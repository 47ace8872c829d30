-- The predicates that owe a rule, with one claim more: the claim's predicate is among them unless it is given.
use mathlib.Core.Path.{◌≡◌, refl, ◌∙◌, ap}
use mathlib.Core.Bool.{Bool, true, false, not, ◌&&◌, ◌||◌, or-false}
use mathlib.Core.List.{List}
use Prim.Native.Nat.{ℕ, ◌<◌}
use lib.Dec.{eqb}
use lib.ListN.{length}
use Rattle.groundwork.proofs.Truth.{never_both, eqb-equal}
use Rattle.theory.specs.Lists.{ending}
use Rattle.theory.specs.Packs.{Kind as PredicateKind, given, ruled, Predicate, Claim, same_key, key_of, claim_key}
use Rattle.theory.specs.Faults.{is_given, owes_rule}
use Rattle.theory.proofs.Reading.Every.{any_end}
use Rattle.tables.specs.declared.Kind.{Kind}
use Rattle.tables.specs.Tables.{predicate_at, kind_of, SetOf, has_key_in}
use Rattle.tables.proofs.PredicateSets.{Alone, key_at, set_same, set_with}
use Rattle.declarations.specs.Ends.{owing_with}

-- a claim on a given predicate adds none, and one on a ruled predicate adds that
none_owed_lem : (is_free has here : Bool) → (here ≡ true → is_free ≡ true) → (not is_free && (has || here)) ≡ (not is_free && has)
none_owed_lem true has here free = refl
none_owed_lem false has true free = never_both (free refl) refl
none_owed_lem false has false free = or-false has

one_owed : (is_free has here : Bool) → (here ≡ true → is_free ≡ false) → (not is_free && (has || here)) ≡ ((not is_free && has) || here)
one_owed true has true bound = never_both refl (bound refl)
one_owed true has false bound = refl
one_owed false has here bound = refl

module _ (ps : List Predicate) (cs : List Claim) (c : Claim) (place : ℕ) (alone : Alone ps place) (below : place < length ps) (is : key_of (predicate_at ps place) ≡ claim_key c) where
  abbrev is_free : ℕ → Bool
  is_free i = is_given (predicate_at ps i).kind

  owes_end : (i : ℕ) → i < length ps → owes_rule (ending c cs) (predicate_at ps i) ≡ (not (is_free i) && (has_key_in claim_key cs (predicate_at ps i) || eqb i place))
  owes_end i h =
      ap (λ (b : Bool). not (is_free i) && b)
      (any_end (λ (d : Claim). same_key (key_of (predicate_at ps i)) (claim_key d)) cs c ∙ ap (λ (b : Bool). has_key_in claim_key cs (predicate_at ps i) || b) (key_at ps place alone (claim_key c) is i h))

  free_here : {b : Bool} → is_free place ≡ b → (i : ℕ) → eqb i place ≡ true → is_free i ≡ b
  free_here told i e = ap is_free (eqb-equal i place e) ∙ told

  pub owed : {set : ℕ} → SetOf (owes_rule cs) ps set → (kept : Kind) → kept ≡ kind_of (predicate_at ps place).kind → SetOf (owes_rule (ending c cs)) ps (owing_with set place kept)
  unfolding is_given
  owed {set} holds kept is_kept = by_kind (predicate_at ps place).kind refl
    where
      by_kind : (k : PredicateKind) → (predicate_at ps place).kind ≡ k → SetOf (owes_rule (ending c cs)) ps (owing_with set place kept)
      by_kind given e = rw (is_kept ∙ ap kind_of e) (set_same holds (owes_rule (ending c cs)) λ i h. owes_end i h ∙ none_owed_lem (is_free i) _ _ (free_here (ap is_given e) i))
      by_kind ruled e = rw (is_kept ∙ ap kind_of e) (set_with holds (owes_rule (ending c cs)) place below λ i h. owes_end i h ∙ one_owed (is_free i) _ _ (free_here (ap is_given e) i))
