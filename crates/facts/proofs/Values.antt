-- A claim at the sizes of a fact's arguments: how large it gets, argument by argument, and the claims one by one.
use mathlib.Core.Path.{◌≡◌, refl, sym, ◌∙◌, ap}
use mathlib.Core.Bool.{Bool, true, false}
use mathlib.Core.List.{List}
use Prim.Native.Nat.{ℕ, zero, suc, ◌+◌, ◌*◌, ◌≤◌, ◌<◌, ◌^◌}
use native.Mathlib.Nat.{mul-le-mul, zero-add}
use native.Mathlib.Numerals.{add-one}
use native.Mathlib.Omega.{arith}
use borrow.Author.Count.{below_more}
use lib.IntN.{ℤ, pos, nat_abs, ◌+ℤ◌, ◌*ℤ◌}
use lib.ListN.{length, get_or}
use lib.Signed.{non_neg, ◌≤ℤ◌, ◌<ℤ◌}
use Rattle.std.specs.Bool.{MatchBool}
use Rattle.std.specs.List.{AllWithin, HoldsAt, range_with_len}
use Rattle.std.proofs.lemmas.List.FromFn.{length-range_with_len, get_or-range_with_len}
use Rattle.std.proofs.lemmas.Int.{ints}
use mir.Syntax.{w16, w64}
use Rattle.groundwork.proofs.Magnitude.{nat_abs_add, nat_abs_mul}
use Rattle.groundwork.proofs.Truth.{by_truth, never_both, and_left, and_right, and_both}
use Rattle.forms.proofs.Kept.{kept_at, small_kept}
use Rattle.forms.proofs.Results.{kept}
use Rattle.tables.specs.Tables.{claim_place, row_place, SafeClaims, SafeRows}
use Rattle.facts.specs.Ends.{value_to, met_to}

module _ (claims : List ℤ) (rows : List ℕ) (safe : SafeClaims claims) (small : SafeRows rows) where
  pub value_small : (place k : ℕ) → nat_abs (value_to claims place rows k) ≤ 9999 + k * 655284465
  unfolding value_to
  value_small place zero = omega (arith, safe.small place)
  value_small place (suc k) =
      let z = get_or claims (place + 1 + k) (pos 0) in
      let n = get_or rows (row_place 0 k) 0 in
      let low : n ≤ 65535 = omega (arith, small.small (row_place 0 k)) in
      omega (arith, nat_abs_add (value_to claims place rows k) (z *ℤ pos n), nat_abs_mul z (pos n), mul-le-mul (safe.small (place + 1 + k)) low, value_small place k)

  pub value_room : (place k : ℕ) → k ≤ 8 → {sum : ℤ} → sum ≡ value_to claims place rows k → nat_abs sum ≤ 2 ^ 40
  value_room place k few is = rw is (omega (arith, value_small place k))

  -- the next argument: r is the sum as the code keeps it
  pub value_more : (place k : ℕ) → k < 8 → {sum number r : ℤ} {size : ℕ} → sum ≡ value_to claims place rows k → number ≡ get_or claims (place + 1 + k) (pos 0) → size ≡ get_or rows (row_place 0 k) 0
      → r ≡ sum +ℤ number *ℤ pos size → kept r ≡ value_to claims place rows (k + 1)
  unfolding value_to
  value_more place k less {sum} {number} {r} {size} is numbered sized added =
      let sums : sum +ℤ number *ℤ pos size ≡ value_to claims place rows (suc k) = rw (is, numbered, sized) in
      rw (added, sums, add-one k) (small_kept w64 (value_to claims place rows (suc k)) (omega (arith, value_small place (suc k))))

pub value_none : (claims : List ℤ) (place : ℕ) (rows : List ℕ) {sum : ℤ} → sum ≡ get_or claims place (pos 0) → sum ≡ value_to claims place rows 0
unfolding value_to
value_none claims place rows is = is

-- a claim's number, as the code reads it at 16 bits and keeps it at 64
pub number_kept : {number n : ℤ} → nat_abs number ≤ 9999 → n ≡ kept_at w16 number → kept n ≡ number
number_kept {number} small is =
    let whole = is ∙ small_kept w16 number (omega (arith, small)) in
    ap kept whole ∙ small_kept w64 number (omega (arith, small))

-- ---- claim after claim

module _ (claims : List ℤ) (predicate : ℕ) (rows : List ℕ) (arity : ℕ) where
  abbrev value_of : ℕ → ℤ
  value_of j = value_to claims (claim_place predicate j) rows arity

  -- all of the first are met exactly if each is
  pub met_at : (count : ℕ) → met_to claims predicate rows arity count ≡ true → (j : ℕ) → j < count → non_neg (value_of j) ≡ true
  unfolding met_to
  met_at zero e = λ j less. absurd (omega arith)
  met_at (suc count) e =
      λ j less.
      below_more (λ (i : ℕ). non_neg (value_of i) ≡ true) count
      (met_at count (and_left (met_to claims predicate rows arity count) _ e))
      (and_right (met_to claims predicate rows arity count) _ e)
      j
      (omega arith)

  pub met_all : (count : ℕ) → ((j : ℕ) → j < count → non_neg (value_of j) ≡ true) → met_to claims predicate rows arity count ≡ true
  unfolding met_to
  met_all zero each = refl
  met_all (suc count) each = and_both (met_to claims predicate rows arity count) _ (met_all count (λ j less. each j (omega arith))) (each count (omega arith))

  -- what a pass over the first claims says
  pub met_told : (count : ℕ) {r : Bool}
      → MatchBool r (AllWithin (λ j. pos 0 ≤ℤ value_of j) (range_with_len 0 count) 0 (length (range_with_len 0 count))) ((k : ℕ) × (k < length (range_with_len 0 count)) × HoldsAt (λ j. value_of j <ℤ pos 0) (range_with_len 0 count) k)
      → r ≡ met_to claims predicate rows arity count
  met_told count {r = true} each =
      sym (met_all count (λ j less. let here = rw (get_or-range_with_len 0 count j 0 less, zero-add) at (each j 0 (omega arith) (rw (length-range_with_len 0 count) less)) in grind (arith, ints, here)))
  met_told count {r = false} found =
      let less : found.0 < count = rw (length-range_with_len 0 count) at found.1 in
      let here = rw (get_or-range_with_len 0 count found.0 0 less, zero-add) at (found.2 0) in
      by_truth (λ (b : Bool). false ≡ b) (met_to claims predicate rows arity count) (λ met. never_both (met_at count met found.0 less) (grind (arith, ints, here))) (λ no. refl)
