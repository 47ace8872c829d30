-- What comes of a claim and of all claims on a predicate, by the tables.
use Rattle.std.specs.Prelude.{◌≡◌, cond, List, ℕ, ◌<◌, ◌^◌, ltb, ℤ, pos, nat_abs, ◌*ℤ◌, length, get_or, Option, Some, None}
use Rattle.std.proofs.Math.Option as M
use Rattle.std.specs.Int.Signed.{lt_z}
use Rattle.theory.specs.Packs.{Claim, no_claim}
use Rattle.theory.specs.Reserve.{Query, unknowns_at_most_zero, is_usable, numerator, bound_by, Fields, usable_from, impossibles, bounded, impossible_or}
use Rattle.theory.specs.Answers.{reserved_fields, passed_on}
use Rattle.theory.specs.declared.Bound.{Bound}
use Rattle.theory.specs.declared.Reservation.{Reservation}
use Rattle.tables.specs.Tables.{claim_place, ClaimAt}
use Rattle.queries.specs.declared.query.Asked.{Asked}
use Rattle.queries.specs.Queries.{SizesStand}
use Rattle.bounds.specs.declared.Use.{Use}
use Rattle.bounds.specs.declared.Use.TheVariants.{Impossible, AtMost}

-- what an argument adds; none where its size is unknown and the number above 0
abbrev pub share : ℤ → Option ℕ → Option ℤ
share number (Some size) = Some (number *ℤ pos size)
share number None = cond (lt_z (pos 0) number) None (Some (pos 0))

-- a claim at a place of the table, with as many coefficients as the query gives sizes, and what the query asks
pub record ClaimStands (claims : List ℤ) (place : ℕ) (a : Asked) (q : Query) (c : Claim) : Type 0 where
  pub at : ClaimAt claims place c
  pub full : length c.coefficients ≡ a.arity
  pub known : length q.sizes ≡ a.arity
  pub asks : a.asked ≡ q.asked
  pub stand : SizesStand a.sizes q.sizes

-- a claim's numerator, where no unknown argument rules it out
abbrev pub weighed : Query → Claim → Option ℤ
weighed q c = cond (unknowns_at_most_zero c.coefficients q.sizes) (Some (numerator q c)) None

pub record Weighs (claims : List ℤ) (place : ℕ) (a : Asked) (r : Option ℤ) : Type 0 where
  pub small : (z : ℤ) → r ≡ Some z → nat_abs z < 2 ^ 40
  pub tells : (q : Query) (c : Claim) → ClaimStands claims place a q c → r ≡ weighed q c

-- what comes of a claim
abbrev pub used : Query → Claim → Option Use
used q c = cond (is_usable q c) (Some (cond (lt_z (numerator q c) (pos 0)) Impossible (AtMost (bound_by q c)))) None

pub record Uses (claims : List ℤ) (place : ℕ) (a : Asked) (r : Option Use) : Type 0 where
  pub tells : (q : Query) (c : Claim) → ClaimStands claims place a q c → r ≡ used q c

-- the smaller bound, the first of equal ones
abbrev pub better_of : Option Bound → Bound → Bound
better_of (Some best) next = cond (ltb next.size best.size) next best
better_of None next = next

-- the reservation that claims give, numbered from k
abbrev pub reservation_from : ℕ → Query → List Claim → Fields
reservation_from k q cs = impossible_or (bounded q (usable_from k q cs)) (impossibles q (usable_from k q cs))

-- the claims on the query's predicate, and what the query asks
pub record ClaimsStand (claims : List ℤ) (count : ℕ) (a : Asked) (q : Query) (cs : List Claim) : Type 0 where
  pub all : count ≡ length cs
  pub at : (j : ℕ) → j < length cs → ClaimStands claims (claim_place a.predicate j) a q (get_or cs j no_claim)

-- what they say of the query; and it is never a pack's refusal
pub record ReservesBy (claims : List ℤ) (count : ℕ) (a : Asked) (r : Reservation) : Type 0 where
  pub tells : (q : Query) (cs : List Claim) → ClaimsStand claims count a q cs → reserved_fields r ≡ reservation_from 1 q cs
  pub passes_none : passed_on r ≡ M.none
