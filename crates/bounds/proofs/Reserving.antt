-- The loop over the claims on a predicate.
use mathlib.Core.Path.{◌≡◌, refl, sym, ◌∙◌, ap}
use mathlib.Core.Bool.{Bool, true, false, cond}
use mathlib.Core.List.{List, ◌∷◌}
use Prim.Native.Nat.{ℕ, ◌+◌, ◌≤◌, ◌<◌}
use Prim.Native.Char.{code}
use native.Mathlib.Numerals.{add-one}
use native.Mathlib.Omega.{arith}
use lib.IntN.{ℤ}
use lib.ListN.{length, get_or, drop, drop_of_length-le}
use lib.Seq.{drop-cons}
use Rattle.std.specs.Prelude.{Option, Some, None}
use Rattle.theory.specs.Packs.{Claim, no_claim}
use Rattle.theory.specs.Reserve.{Query, is_usable, bound_by, fields}
use Rattle.theory.specs.declared.Bound.{Bound}
use Rattle.theory.specs.declared.Reservation.TheVariants.{Bounded, NoBound, Impossible}
use Rattle.theory.proofs.Reserving.UsableClaims.{is_impossible}
use Rattle.tables.specs.Tables.{claim_place}
use Rattle.queries.specs.declared.query.Asked.{Asked}
use Rattle.bounds.specs.declared.Use.{Use}
use Rattle.bounds.specs.declared.Use.TheVariants.{Impossible as NoFact, AtMost}
use Rattle.bounds.specs.Bounds.{used, Uses, better_of, reservation_from, ClaimsStand, ReservesBy}
use Rattle.bounds.proofs.Resuming.{bound_of, settled, resumed, from_first}

-- the loop's invariant: what the claims before place i leave to say
pub record Reserving (claims : List ℤ) (count : ℕ) (a : Asked) (i : ℕ) (best : Option Bound) : Type 0 where
  tells : (q : Query) (cs : List Claim) → ClaimsStand claims count a q cs → reservation_from 1 q cs ≡ resumed q best (i + 1) (drop i cs)

-- ---- one claim

module _ (q : Query) (c : Claim) (best : Option Bound) (k : ℕ) (cs : List Claim) where
  resumed_unused : None ≡ used q c → resumed q best k (c ∷ cs) ≡ resumed q best (k + 1) cs
  unfolding resumed
  resumed_unused = by (is_usable q c) (is_impossible q c)
    where
      by : (usable impossible : Bool) → None ≡ cond usable (Some (cond impossible NoFact (AtMost (bound_by q c)))) None
          → cond usable (cond impossible (fields (code "I") 0 k) (resumed q (Some (better_of best (bound_of (bound_by q c) k))) (k + 1) cs)) (resumed q best (k + 1) cs) ≡ resumed q best (k + 1) cs
      by true impossible e = cc
      by false impossible e = refl

  resumed_impossible : Some NoFact ≡ used q c → resumed q best k (c ∷ cs) ≡ fields (code "I") 0 k
  unfolding resumed
  resumed_impossible = by (is_usable q c) (is_impossible q c)
    where
      by : (usable impossible : Bool) → Some NoFact ≡ cond usable (Some (cond impossible NoFact (AtMost (bound_by q c)))) None
          → cond usable (cond impossible (fields (code "I") 0 k) (resumed q (Some (better_of best (bound_of (bound_by q c) k))) (k + 1) cs)) (resumed q best (k + 1) cs) ≡ fields (code "I") 0 k
      by true true e = refl
      by true false e = cc
      by false impossible e = cc

  resumed_bound : {size : ℕ} → Some (AtMost size) ≡ used q c → resumed q best k (c ∷ cs) ≡ resumed q (Some (better_of best (bound_of size k))) (k + 1) cs
  unfolding resumed
  resumed_bound {size} = by (is_usable q c) (is_impossible q c)
    where
      by : (usable impossible : Bool) → Some (AtMost size) ≡ cond usable (Some (cond impossible NoFact (AtMost (bound_by q c)))) None
          → cond usable (cond impossible (fields (code "I") 0 k) (resumed q (Some (better_of best (bound_of (bound_by q c) k))) (k + 1) cs)) (resumed q best (k + 1) cs) ≡ resumed q (Some (better_of best (bound_of size k))) (k + 1) cs
      by true true e = cc
      by true false e = let same : bound_by q c ≡ size = cc in ap (λ s. resumed q (Some (better_of best (bound_of s k))) (k + 1) cs) same
      by false impossible e = cc

-- ---- the loop

module _ {claims : List ℤ} {count : ℕ} {a : Asked} where
  pub reserving_none : Reserving claims count a 0 None
  reserving_none = record { tells = λ q cs stands. from_first q 1 cs }

  module _ {i : ℕ} {best : Option Bound} (reserving : Reserving claims count a i best) where
    -- a turn
    module _ (less : i < count) where
      module _ {u : Option Use} (uses : Uses claims (claim_place a.predicate i) a u) {q : Query} {cs : List Claim} (stands : ClaimsStand claims count a q cs) where
        within : i < length cs
        within = omega (arith, stands.all)

        is_used : u ≡ used q (get_or cs i no_claim)
        is_used = uses.tells q _ (stands.at i within)

        remaining : reservation_from 1 q cs ≡ resumed q best (i + 1) (get_or cs i no_claim ∷ drop (i + 1) cs)
        remaining = reserving.tells q cs stands ∙ rw (add-one i, drop-cons cs i no_claim within) refl

      pub reserving_impossible : Uses claims (claim_place a.predicate i) a (Some NoFact) → ReservesBy claims count a (Impossible (i + 1))
      reserving_impossible uses = record {
        tells = λ q cs stands. sym (remaining uses stands ∙ resumed_impossible q _ best _ _ (is_used uses stands));
        passes_none = refl;
      }

      pub reserving_bound : {size : ℕ} → Uses claims (claim_place a.predicate i) a (Some (AtMost size)) → Reserving claims count a (i + 1) (Some (better_of best (bound_of size (i + 1))))
      reserving_bound uses = record { tells = λ q cs stands. remaining uses stands ∙ resumed_bound q _ best _ _ (is_used uses stands) }

      pub reserving_unused : Uses claims (claim_place a.predicate i) a None → Reserving claims count a (i + 1) best
      reserving_unused uses = record { tells = λ q cs stands. remaining uses stands ∙ resumed_unused q _ best _ _ (is_used uses stands) }

    -- after the last claim
    module _ (all : count ≤ i) where
      over : {q : Query} {cs : List Claim} → ClaimsStand claims count a q cs → reservation_from 1 q cs ≡ settled best
      unfolding resumed
      over {q} {cs} stands = reserving.tells q cs stands ∙ ap (resumed q best (i + 1)) (drop_of_length-le cs {i = i} (omega (arith, stands.all)))

      pub reserving_bounded : {b : Bound} → best ≡ Some b → ReservesBy claims count a (Bounded b)
      reserving_bounded is = record { tells = λ q cs stands. sym (over stands ∙ ap settled is); passes_none = refl }

      pub reserving_unbounded : best ≡ None → ReservesBy claims count a NoBound
      reserving_unbounded is = record { tells = λ q cs stands. sym (over stands ∙ ap settled is); passes_none = refl }
