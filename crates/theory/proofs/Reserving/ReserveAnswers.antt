-- What an answer of reserve other than a refusal tells: of the text, of the query, and of its reservation.
use mathlib.Core.Path.{◌≡◌, sym, ap}
use mathlib.Core.Bool.{false, cond}
use mathlib.Core.Option.{none}
use Prim.Native.Nat.{ℕ, ◌<◌}
use Prim.Native.Char.{code}
use lib.Dec.{eqb}
use lib.ListN.{length}
use Rattle.groundwork.proofs.Truth.{by_truth, eqb-equal, eqb-unequal}
use Rattle.theory.specs.Lists.{◌∈◌}
use Rattle.theory.specs.Text.{Bytes}
use Rattle.theory.specs.Packs.{Predicate, Pack}
use Rattle.theory.specs.Written.{pack_of}
use Rattle.theory.specs.Check.{verdict_of}
use Rattle.theory.specs.Reserve.{Query, query_of, size_given, query_fault, Fields, reservation, refusal, answer_of, reserve_of}
use Rattle.theory.specs.Limits.{PredicateFits}
use Rattle.theory.proofs.Reserving.QueryWords.{query_written}

-- ---- answers

-- the text is accepted, the query has no fault, and x is what is said of them
pub record Answered (text query : Bytes) (x : Fields) : Type 0 where
  pub accepted : (verdict_of text).returned.number ≡ 0
  pub faultless : query_fault (pack_of text) query ≡ 0
  pub says : reservation (pack_of text) (query_of query) ≡ x

-- either a fault is refused, or there is none
unrefused : (fault : ℕ) (y x : Fields) → eqb x.letter (code "R") ≡ false → cond (eqb fault 0) y (refusal fault) ≡ x → (fault ≡ 0) × (y ≡ x)
unfolding refusal
unrefused fault y x other e =
    by_truth (λ t. cond t y (refusal fault) ≡ x → (fault ≡ 0) × (y ≡ x)) (eqb fault 0)
    (λ faultless e. (eqb-equal fault 0 faultless, e))
    (λ refused e. absurd (eqb-unequal x.letter (code "R") other (sym (ap (λ (y : Fields). y.letter) e))))
    e

-- an answer with another letter than `R`
pub answered : (text query : Bytes) (x : Fields) → eqb x.letter (code "R") ≡ false → reserve_of text query ≡ x → Answered text query x
unfolding reserve_of answer_of
answered text query x other e =
    let checked = unrefused (verdict_of text).returned.number _ x other e in
    let asked = unrefused (query_fault (pack_of text) query) _ x other checked.1 in
    record { accepted = checked.0; faultless = asked.0; says = asked.1 }

-- and what is answered is what the claims give
pub reserves : (text query : Bytes) → (verdict_of text).returned.number ≡ 0 → query_fault (pack_of text) query ≡ 0 → reserve_of text query ≡ reservation (pack_of text) (query_of query)
unfolding reserve_of answer_of
reserves text query accepted faultless = rw (accepted, faultless)

-- ---- queries with no fault

-- A query that asks for an unknown size of one of its arguments.
pub record Asks (q : Query) : Type 0 where
  pub within : q.asked < length q.sizes
  pub unknown : size_given q.asked q ≡ none

pub asks : (p : Pack) → ((x : Predicate) → x ∈ p.predicates → PredicateFits x) → (query : Bytes) → query_fault p query ≡ 0 → Asks (query_of query)
asks p fits query e = let w = query_written p fits query e in record { within = w.fits.within; unknown = w.fits.unknown }
