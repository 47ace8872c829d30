-- The set of the predicates that have a fact: empty at first, when a predicate is declared, and with one fact more.
use mathlib.Core.Path.{◌≡◌, refl, sym, ◌∙◌}
use mathlib.Core.List.{List, [], ◌∷◌, ◌++◌}
use Prim.Native.Nat.{ℕ, ◌^◌, ◌<◌}
use lib.Bits.{bit_or}
use lib.ListN.{length}
use Rattle.groundwork.proofs.Bits.{bit, bit_unzero, or_bit, one_bit}
use Rattle.groundwork.proofs.Truth.{or_right, eqb_same, eqb-different}
use Rattle.theory.specs.Lists.{any, is_empty}
use Rattle.theory.specs.Packs.{Predicate, Atom, key_of, atom_key}
use Rattle.theory.proofs.Reading.Presence.{end_filled}
use Rattle.tables.specs.Tables.{predicate_at, has_key_in, Ships}
use Rattle.tables.proofs.PredicateSets.{Alone, set_nothing, set_declared, set_ending}

pub ships_nothing : Ships 0 [] []
unfolding is_empty
ships_nothing = record { none = refl; is = set_nothing (has_key_in atom_key []) }

-- where there is no fact, none is of a predicate that is declared
pub ships_still : {set : ℕ} {ps : List Predicate} {facts : List Atom} → Ships set ps facts → facts ≡ [] → (x : Predicate) → Ships set (ps ++ (x ∷ [])) facts
unfolding any
ships_still ships none x = record { none = ships.none; is = set_declared ships.is x (rw none) }

pub ships_more : {set : ℕ} {ps : List Predicate} {facts : List Atom} → Ships set ps facts → (f : Atom) (place : ℕ) → Alone ps place → place < length ps → key_of (predicate_at ps place) ≡ atom_key f → Ships (bit_or set (2 ^ place)) ps (facts ++ (f ∷ []))
ships_more {set} {facts = facts} ships f place alone below is = record {
  none = eqb-different _ 0 (bit_unzero _ place (or_bit set (2 ^ place) place ∙ or_right (bit set place) _ (one_bit place place ∙ eqb_same place))) ∙ sym (end_filled facts f);
  is = set_ending atom_key facts f ships.is place alone below is;
}
