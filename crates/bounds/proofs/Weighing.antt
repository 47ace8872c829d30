-- The loop over the arguments of a claim.
use mathlib.Core.Path.{◌≡◌, refl, sym, ◌∙◌, ap}
use mathlib.Core.Bool.{Bool, true, false, not, cond, ◌&&◌}
use mathlib.Core.List.{List, [], ◌∷◌}
use mathlib.Core.Option as M
use Prim.Native.Nat.{ℕ, zero, suc, ◌+◌, ◌*◌, ◌≤◌, ◌<◌}
use native.Mathlib.Numerals.{add-one}
use native.Mathlib.Omega.{arith}
use lib.IntN.{ℤ, pos, negsuc, nat_abs, ◌+ℤ◌, ◌*ℤ◌, +ℤ_idl, +ℤ_idr, +ℤ_assoc}
use lib.ListN.{length, get_or, drop, drop_of_length-le}
use lib.Seq.{drop-cons}
use lib.Signed.{lt_z, le_z}
use mir.Syntax.{w64}
use mir.Val.{SFits}
use Rattle.std.specs.Prelude.{Option, Some, None}
use Rattle.groundwork.proofs.Magnitude.{nat_abs_add}
use Rattle.groundwork.proofs.Truth.{gt-leb, lt-ltb}
use Rattle.theory.specs.Packs.{Claim}
use Rattle.theory.specs.Reserve.{Query, unknowns_at_most_zero, known_part, numerator}
use Rattle.tables.specs.Tables.{SafeClaims}
use Rattle.queries.specs.declared.query.Asked.{Asked}
use Rattle.queries.specs.Queries.{entry_of}
use Rattle.bounds.proofs.Numbers.{fits_64}
use Rattle.bounds.specs.Bounds.{share, ClaimStands, Weighs}

-- ---- one argument

at_most_zero : (c : ℤ) → le_z c (pos 0) ≡ not (lt_z (pos 0) c)
at_most_zero (pos zero) = refl
at_most_zero (pos (suc n)) = rw (gt-leb (suc n) 0 (omega arith), lt-ltb 0 (suc n) (omega arith))
at_most_zero (negsuc n) = refl

module _ (number : ℤ) (numbers : List ℤ) (sizes : List (M.Option ℕ)) where
  -- an argument that rules the claim out
  none_first : (size : M.Option ℕ) → share number (entry_of size) ≡ None → unknowns_at_most_zero (number ∷ numbers) (size ∷ sizes) ≡ false
  unfolding unknowns_at_most_zero
  none_first M.none e = rw (at_most_zero number) (positive (lt_z (pos 0) number) e)
    where
      positive : (b : Bool) → cond b None (Some (pos 0)) ≡ None → (not b && unknowns_at_most_zero numbers sizes) ≡ false
      positive true is = refl
      positive false is = cc
  none_first (M.some s) e = cc

  -- or that does not, and what it adds
  some_first : (size : M.Option ℕ) {z : ℤ} → share number (entry_of size) ≡ Some z
      → (unknowns_at_most_zero (number ∷ numbers) (size ∷ sizes) ≡ unknowns_at_most_zero numbers sizes) × (known_part (number ∷ numbers) (size ∷ sizes) ≡ z +ℤ known_part numbers sizes)
  unfolding unknowns_at_most_zero known_part
  some_first M.none {z} e = rw (at_most_zero number) (positive (lt_z (pos 0) number) e)
    where
      positive : (b : Bool) → cond b None (Some (pos 0)) ≡ Some z → ((not b && unknowns_at_most_zero numbers sizes) ≡ unknowns_at_most_zero numbers sizes) × (known_part numbers sizes ≡ z +ℤ known_part numbers sizes)
      positive true is = cc
      positive false is = let zero_part : pos 0 ≡ z = cc in (refl, sym (ap (λ y. y +ℤ known_part numbers sizes) (sym zero_part) ∙ +ℤ_idl (known_part numbers sizes)))
  some_first (M.some s) e = let same : number *ℤ pos s ≡ _ = cc in (refl, ap (λ y. y +ℤ known_part numbers sizes) same)

-- ---- the arguments from a place on

abbrev unknowns_from : Query → Claim → ℕ → Bool
unknowns_from q c k = unknowns_at_most_zero (drop k c.coefficients) (drop k q.sizes)

abbrev known_from : Query → Claim → ℕ → ℤ
known_from q c k = known_part (drop k c.coefficients) (drop k q.sizes)

-- the number of the claim at a place of the table for the argument at place k
abbrev argument_number : List ℤ → ℕ → ℕ → ℤ
argument_number claims place k = get_or claims (place + 1 + k) (pos 0)

-- what the argument at place k adds
abbrev share_at : List ℤ → ℕ → Asked → ℕ → Option ℤ
share_at claims place a k = share (argument_number claims place k) (get_or a.sizes k None)

module _ {claims : List ℤ} {place : ℕ} {a : Asked} {q : Query} {c : Claim} (stands : ClaimStands claims place a q c) {k : ℕ} (less : k < a.arity) where
  within : k < length c.coefficients
  within = omega (arith, stands.full)

  size_within : k < length q.sizes
  size_within = omega (arith, stands.known)

  share_is : share_at claims place a k ≡ share (get_or c.coefficients k (pos 0)) (entry_of (get_or q.sizes k M.none))
  share_is = rw (stands.at.coefficient k (omega (arith, a.low)), stands.stand.entry k size_within) refl

  none_next : share_at claims place a k ≡ None → unknowns_from q c k ≡ false
  none_next e =
      rw (drop-cons c.coefficients k (pos 0) within, drop-cons q.sizes k M.none size_within)
      (none_first _ _ _ _ (sym share_is ∙ e))

  some_next : {z : ℤ} → share_at claims place a k ≡ Some z → (unknowns_from q c k ≡ unknowns_from q c (k + 1)) × (known_from q c k ≡ z +ℤ known_from q c (k + 1))
  some_next e =
      rw (add-one k, drop-cons c.coefficients k (pos 0) within, drop-cons q.sizes k M.none size_within)
      (some_first _ _ _ _ (sym share_is ∙ e))

-- ---- the loop

-- what the arguments before place k leave to the others
record Left (q : Query) (c : Claim) (k : ℕ) (sum : ℤ) : Type 0 where
  unknowns : unknowns_at_most_zero c.coefficients q.sizes ≡ unknowns_from q c k
  sums : numerator q c ≡ sum +ℤ known_from q c k

-- the loop's invariant
pub record Weighing (claims : List ℤ) (place : ℕ) (a : Asked) (k : ℕ) (sum : ℤ) : Type 0 where
  pub small : nat_abs sum ≤ 9999 + k * 655294464
  tells : (q : Query) (c : Claim) → ClaimStands claims place a q c → Left q c k sum

module _ {claims : List ℤ} {place : ℕ} {a : Asked} where
  pub weighing_none : SafeClaims claims → Weighing claims place a 0 (get_or claims place (pos 0))
  unfolding numerator
  weighing_none safe = record {
    small = omega (arith, safe.small place);
    tells = λ q c stands. record { unknowns = refl; sums = ap (λ y. y +ℤ known_from q c 0) (sym stands.at.constant) };
  }

  module _ {k : ℕ} {sum : ℤ} (weighing : Weighing claims place a k sum) where
    pub weighing_done : k ≡ a.arity → Weighs claims place a (Some sum)
    unfolding unknowns_at_most_zero known_part
    weighing_done all = record {
      small = λ z e. let same : sum ≡ z = cc in rw (← same) (omega (arith, weighing.small, a.low));
      tells = λ q c stands.
          let left = weighing.tells q c stands in
          let none : drop k c.coefficients ≡ [] = drop_of_length-le c.coefficients {i = k} (omega (arith, stands.full)) in
          let clear = left.unknowns ∙ ap (λ cs. unknowns_at_most_zero cs (drop k q.sizes)) none in
          rw (clear, left.sums, none) (ap Some (sym (+ℤ_idr sum)));
    }

    -- a turn
    module _ (less : k < a.arity) where
      pub weighing_blocked : share_at claims place a k ≡ None → Weighs claims place a None
      weighing_blocked e = record {
        small = λ z is. cc;
        tells = λ q c stands. rw ((weighing.tells q c stands).unknowns ∙ none_next stands less e) refl;
      }

      module _ {z : ℤ} (is : share_at claims place a k ≡ Some z) (few : nat_abs z ≤ 655294464) where
        pub sum_fits : SFits w64 (sum +ℤ z)
        sum_fits = fits_64 (sum +ℤ z) (omega (arith, nat_abs_add sum z, weighing.small, a.low))

        pub weighing_more : Weighing claims place a (k + 1) (sum +ℤ z)
        weighing_more = record {
          small = omega (arith, weighing.small, nat_abs_add sum z, few);
          tells = λ q c stands.
              let left = weighing.tells q c stands in
              let next = some_next stands less is in
              record { unknowns = left.unknowns ∙ next.0; sums = left.sums ∙ rw next.1 (sym (+ℤ_assoc sum _ _)) };
        }
