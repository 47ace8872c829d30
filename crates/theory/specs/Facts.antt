-- Document 01, "Derivations": facts, and when a fact meets a claim. 02's 1/14 asks the same of the facts that come with a pack.
use Rattle.std.specs.Prelude.{◌≡◌, Bool, List, [], ◌∷◌, ℕ, ℤ, pos, ◌+ℤ◌, ◌*ℤ◌, ◌≤ℤ◌}
use Rattle.std.proofs.Math.Option.{some}
use Rattle.std.specs.Int.Signed.{non_neg}
use Rattle.theory.specs.Lists.{◌∈◌, every}
use Rattle.theory.specs.Terms.{AllGround}
use Rattle.theory.specs.Sizes.{Measure, argument_sizes}
use Rattle.theory.specs.Packs.{Predicate, Claim, Atom, Pack, measure_in, atom_key, declared_as, claims_on}

-- What is a fact: an atom of a declared predicate, so with as many terms as that has arguments, and no variable in them.
pub record IsFact (p : Pack) (f : Atom) : Type 0 where
  pub predicate : Predicate
  pub declared : declared_as (atom_key f) p.predicates ≡ some predicate
  pub ground : AllGround f.terms

-- each coefficient times the size of its argument, added up
unfoldable pub weighted_sizes : List ℤ → List ℕ → ℤ
weighted_sizes [] sizes = pos 0
weighted_sizes (c ∷ cs) [] = pos 0
weighted_sizes (c ∷ cs) (s ∷ sizes) = c *ℤ pos s +ℤ weighted_sizes cs sizes

-- what a claim says is at least 0, at the sizes of a fact's arguments
abbrev pub claim_at : Measure → Atom → Claim → ℤ
claim_at m f c = c.constant +ℤ weighted_sizes c.coefficients (argument_sizes m f.terms)

-- The claim holds of a fact.
pub record Meets (m : Measure) (f : Atom) (c : Claim) : Type 0 where
  pub holds : pos 0 ≤ℤ claim_at m f c

-- it meets every claim on its predicate
pub record MeetsAll (p : Pack) (f : Atom) : Type 0 where
  pub meets : (c : Claim) → c ∈ claims_on (atom_key f) p.claims → Meets (measure_in p) f c

-- the same as a test
unfoldable pub is_met : Measure → Atom → Claim → Bool
is_met m f c = non_neg (claim_at m f c)

abbrev pub meets_every : Pack → Atom → Bool
meets_every p f = every (is_met (measure_in p) f) (claims_on (atom_key f) p.claims)
