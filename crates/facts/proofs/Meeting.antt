-- The claims on a fact's predicate, at the sizes of its arguments, by the tables: each value is the definition's, so what the
-- tables say of all of them is whether the fact meets them.
use mathlib.Core.Path.{◌≡◌, refl, sym, ◌∙◌, ap}
use mathlib.Core.Bool.{Bool, false}
use mathlib.Core.List.{List}
use Prim.Native.Nat.{ℕ, zero, suc, ◌+◌, ◌≤◌, ◌<◌}
use native.Mathlib.Omega.{arith}
use lib.IntN.{ℤ, pos, ◌+ℤ◌, ◌*ℤ◌, +ℤ_assoc, +ℤ_idr}
use lib.ListN.{length, get_or, drop, drop_of_length-le}
use lib.Seq.{drop-cons}
use lib.Signed.{non_neg}
use Rattle.groundwork.proofs.Truth.{by_truth, never_both}
use Rattle.theory.specs.Lists.{every}
use Rattle.theory.specs.Text.{Bytes}
use Rattle.theory.specs.Terms.{Terms, nil, cons, arity}
use Rattle.theory.specs.Sizes.{Measure, size, argument_sizes, constant_of}
use Rattle.theory.specs.Forms.{form_of}
use Rattle.theory.specs.Packs.{Claim, Atom, no_claim}
use Rattle.theory.specs.Facts.{weighted_sizes, claim_at, is_met}
use Rattle.theory.proofs.Reading.Places.{every_place, places_every}
use Rattle.theory.proofs.Soundness.Sizes.{length_sizes}
use Rattle.tables.specs.Tables.{claim_place, row_place, ClaimAt, argument, AtomStands}
use Rattle.facts.specs.Ends.{value_to, met_to}
use Rattle.facts.proofs.Values.{met_at, met_all}

-- ---- one claim

size_at_lem : (m : Measure) (ts : Terms) (k : ℕ) → k < arity ts → get_or (argument_sizes m ts) k 0 ≡ size m (argument ts k)
unfolding constant_of argument arity
size_at_lem m nil k inside = absurd (omega arith)
size_at_lem m (cons t ts) zero inside = refl
size_at_lem m (cons t ts) (suc k) inside = size_at_lem m ts k (omega arith)

-- the constant of an argument's row is its size
row_size_lem : {m : Measure} {rows : List ℕ} {xs : List Bytes} {ts : Terms} → AtomStands m rows 0 xs ts → (k : ℕ) → k < arity ts → pos (get_or rows (row_place 0 k) 0) ≡ pos (get_or (argument_sizes m ts) k 0)
unfolding form_of
row_size_lem {m} {ts = ts} stands k inside = (stands.row k inside).constant ∙ ap pos (sym (size_at_lem m ts k inside))

module _ {m : Measure} {claims : List ℤ} {place : ℕ} {rows : List ℕ} {xs : List Bytes} (f : Atom) (c : Claim) (at : ClaimAt claims place c) (stands : AtomStands m rows 0 xs f.terms) (full : length c.coefficients ≡ arity f.terms) where
  -- the arguments from a place on
  abbrev later : ℕ → ℤ
  later k = weighted_sizes (drop k c.coefficients) (drop k (argument_sizes m f.terms))

  next : (k : ℕ) → k < arity f.terms → later k ≡ get_or claims (place + 1 + k) (pos 0) *ℤ pos (get_or rows (row_place 0 k) 0) +ℤ later (suc k)
  unfolding weighted_sizes
  next k inside =
      rw (
        drop-cons c.coefficients k (pos 0) (omega arith),
        drop-cons (argument_sizes m f.terms) k 0 (omega (arith, length_sizes m f.terms)),
        at.coefficient k (omega (arith, stands.few)),
        row_size_lem stands k inside,
      )

  passed : (k : ℕ) → k ≤ arity f.terms → value_to claims place rows k +ℤ later k ≡ claim_at m f c
  unfolding value_to
  passed zero inside = ap (λ (z : ℤ). z +ℤ later 0) at.constant
  passed (suc k) inside =
      +ℤ_assoc (value_to claims place rows k) _ (later (suc k))
      ∙ ap (λ (z : ℤ). value_to claims place rows k +ℤ z) (sym (next k (omega arith)))
      ∙ passed k (omega arith)

  value_is : value_to claims place rows (arity f.terms) ≡ claim_at m f c
  unfolding weighted_sizes
  value_is =
      let all = passed (arity f.terms) (omega arith) in
      let none = drop_of_length-le c.coefficients {i = arity f.terms} (omega arith) in
      sym (+ℤ_idr (value_to claims place rows (arity f.terms))) ∙ rw none at all

-- ---- all claims on the predicate

-- the claims stand at their places, each with a number for each argument
module _ {m : Measure} {claims : List ℤ} (predicate : ℕ) {rows : List ℕ} {xs : List Bytes} (f : Atom) (cs : List Claim) (stands : AtomStands m rows 0 xs f.terms)
    (at : (j : ℕ) → j < length cs → ClaimAt claims (claim_place predicate j) (get_or cs j no_claim)) (full : (j : ℕ) → j < length cs → length (get_or cs j no_claim).coefficients ≡ arity f.terms) where
  met_here : (j : ℕ) → j < length cs → non_neg (value_to claims (claim_place predicate j) rows (arity f.terms)) ≡ is_met m f (get_or cs j no_claim)
  unfolding is_met
  met_here j less = ap non_neg (value_is f (get_or cs j no_claim) (at j less) stands (full j less))

  pub met_is : met_to claims predicate rows (arity f.terms) (length cs) ≡ every (is_met m f) cs
  met_is =
      by_truth (λ (b : Bool). b ≡ every (is_met m f) cs) (met_to claims predicate rows (arity f.terms) (length cs))
      (λ met. sym (places_every (is_met m f) cs no_claim (λ j less. sym (met_here j less) ∙ met_at claims predicate rows _ (length cs) met j less)))
      (λ unmet. sym (by_truth (λ (b : Bool). b ≡ false) (every (is_met m f) cs)
      (λ all. never_both (met_all claims predicate rows _ (length cs) (λ j less. met_here j less ∙ every_place (is_met m f) cs no_claim all j less)) unmet)
      (λ e. refl)))
