-- Document 01, "Derivations", with 02's 1/14: which facts are given, and what has a derivation from them.
use Rattle.std.specs.Prelude.{◌≡◌}
use Rattle.theory.specs.Lists.{◌∈◌}
use Rattle.theory.specs.Terms.{Substitution, all_under}
use Rattle.theory.specs.Packs.{given, Atom, Rule, Pack}
use Rattle.theory.specs.Facts.{IsFact, MeetsAll}

-- A fact of a given predicate that meets the claims on it.
pub record GivenFact (p : Pack) (f : Atom) : Type 0 where
  pub fact : IsFact p f
  pub is_given : fact.predicate.kind ≡ given
  pub meets : MeetsAll p f

-- A fact that comes with the pack: it stands on a `G` line.
pub record ShippedFact (p : Pack) (f : Atom) : Type 0 where
  pub stands : f ∈ p.facts

abbrev pub atom_under : Substitution → Atom → Atom
atom_under σ a = record { name = a.name; terms = all_under σ a.terms }

-- What has a derivation, by the rules of a pack, from the facts that are given: in these two ways, and no third.
pub data Derivable (p : Pack) (Given : Atom → Type 0) : Atom → Type 0 where
  is_given : {f : Atom} → Given f → Derivable p Given f
  by_rule : (r : Rule) → r ∈ p.rules → (σ : Substitution)
      → ((a : Atom) → a ∈ r.subgoals → Derivable p Given (atom_under σ a))
      → Derivable p Given (atom_under σ r.head)
