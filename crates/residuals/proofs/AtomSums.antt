-- An atom's rows, each times a number of a claim, sum to the claim's form with the atom's sizes put in, number by number.
use mathlib.Core.Path.{◌≡◌, refl, sym, ◌∙◌, ap, ap₂}
use mathlib.Core.List.{List}
use Prim.Native.Nat.{ℕ, zero, suc, ◌+◌, ◌*◌, ◌≤◌, ◌<◌}
use native.Mathlib.Omega.{arith}
use native.Mathlib.Decide.{dec_lt}
use lib.IntN.{ℤ, pos, ◌+ℤ◌, ◌*ℤ◌}
use lib.ListN.{length}
use Rattle.groundwork.proofs.Stretches.{elements, from}
use Rattle.theory.specs.Text.{Bytes}
use Rattle.theory.specs.Terms.{Term, arity}
use Rattle.theory.specs.Sizes.{Measure}
use Rattle.theory.specs.Forms.{form_of}
use Rattle.theory.specs.Packs.{Claim, Atom}
use Rattle.theory.specs.Residuals.{claim_form}
use Rattle.terms.specs.TermForms.{RowStands}
use Rattle.tables.specs.Tables.{row_place, ClaimAt, AtomStands}
use Rattle.residuals.specs.Sums.{width, seen, rows_sum, own_part, atom_sum, atoms_sum}
use Rattle.residuals.proofs.Rows.{seen_count, seen_none, seen_constant, width_narrow, width_whole}
use Rattle.residuals.proofs.WeightedSums.{same_place, sum_below, sum_first, own, weighted_sum, weighted_same}
use Rattle.residuals.proofs.FormNumbers.{form_number, coefficient_at, coefficient_beyond, number_claim}

-- argument k of an atom, at one place of its row, as it is looked at
abbrev pub row_at : List ℕ → ℕ → ℕ → ℕ → ℕ → ℤ
row_at rows variables atom i k = pos (seen rows (width variables) (row_place atom k) i)

-- what is not looked at is past the variables
width_covers : (variables i : ℕ) → width variables ≤ i → i < 16 → variables ≤ i
width_covers variables i high less = go (dec_lt 8 variables)
  where
    go : Dec (8 < variables) → variables ≤ i
    go (yes many) = absurd (omega (arith, width_whole variables many))
    go (no few) = omega (arith, width_narrow variables (omega arith))

row_number : {m : Measure} (rows : List ℕ) (base : ℕ) (xs : List Bytes) (t : Term) (i : ℕ) → i < 17 → RowStands m rows base xs t → pos (seen rows (width (length xs)) base i) ≡ form_number xs (form_of m t) i
row_number rows base xs t zero less row = ap pos (seen_constant rows (width (length xs)) base) ∙ row.constant
row_number {m} rows base xs t (suc i) less row = go (dec_lt i (length xs)) (dec_lt i (width (length xs)))
  where
    form : Bytes → ℤ
    form = (form_of m t).coefficient

    go : Dec (i < length xs) → Dec (i < width (length xs)) → pos (seen rows (width (length xs)) base (suc i)) ≡ form_number xs (form_of m t) (suc i)
    go (yes inside) (yes looked) = ap pos (seen_count rows (width (length xs)) base i looked) ∙ (row.coefficient i inside ∙ sym (coefficient_at form xs i inside))
    go (yes inside) (no not-looked) = absurd (omega (arith, width_covers (length xs) i (omega arith) (omega arith)))
    go (no past) (yes looked) = ap pos (seen_count rows (width (length xs)) base i looked ∙ row.beyond i (omega arith) (omega arith)) ∙ sym (coefficient_beyond form xs i (omega arith))
    go (no past) (no not-looked) = ap pos (seen_none rows (width (length xs)) base i (omega arith)) ∙ sym (coefficient_beyond form xs i (omega arith))

-- a claim's numbers as the weights of an atom
pub claim_number : {m : Measure} (rows : List ℕ) (atom : ℕ) (xs : List Bytes) (a : Atom) (claims : List ℤ) (place : ℕ) (c : Claim) (i : ℕ) → i < 17
    → AtomStands m rows atom xs a.terms → ClaimAt claims place c → length c.coefficients ≡ arity a.terms
    → weighted_sum (from claims place) (row_at rows (length xs) atom i) i ≡ form_number xs (claim_form m a c) i
claim_number {m} rows atom xs a claims place c i less stands numbered full =
    number_claim xs m (from claims place) (row_at rows (length xs) atom i) i a c full stands.few
    (same_place (elements claims) (place + 0) place (omega arith) ∙ numbered.constant)
    (λ k below. same_place (elements claims) (place + suc k) (place + 1 + k) (omega arith) ∙ numbered.coefficient k below)
    (λ k below. row_number rows (row_place atom k) xs _ i less (stands.row k below))

-- ---- an atom's sum

module _ (weights : List ℤ) (rows : List ℕ) (variables : ℕ) where
  own_sum : (atom i : ℕ) → own_part weights atom i ≡ own (elements weights (atom * 9 + 0)) i
  own_sum atom zero = same_place (elements weights) (atom * 9) (atom * 9 + 0) (omega arith)
  own_sum atom (suc i) = refl

  rows_sum_lem : (atom i n : ℕ) → rows_sum weights rows (width variables) atom i n ≡ sum_below (λ k. elements weights (atom * 9 + suc k) *ℤ row_at rows variables atom i k) n
  unfolding rows_sum sum_below
  rows_sum_lem atom i zero = refl
  rows_sum_lem atom i (suc n) =
      ap₂ ◌+ℤ◌ (rows_sum_lem atom i n) (ap (λ z. z *ℤ row_at rows variables atom i n) (same_place (elements weights) (atom * 9 + 1 + n) (atom * 9 + suc n) (omega arith)))

  -- the weights may be known otherwise
  pub atom_sum_lem : (atom i : ℕ) (weight : ℕ → ℤ) → ((j : ℕ) → j < 9 → elements weights (atom * 9 + j) ≡ weight j) → atom_sum weights rows (width variables) atom i ≡ weighted_sum weight (row_at rows variables atom i) i
  atom_sum_lem atom i weight same = ap₂ ◌+ℤ◌ (own_sum atom i) (rows_sum_lem atom i 8) ∙ weighted_same _ weight (row_at rows variables atom i) i same

  -- ---- all atoms

  atoms_below : (i n : ℕ) → atoms_sum weights rows (width variables) i n ≡ sum_below (λ atom. atom_sum weights rows (width variables) atom i) n
  unfolding atoms_sum sum_below
  atoms_below i zero = refl
  atoms_below i (suc n) = ap (λ z. z +ℤ atom_sum weights rows (width variables) n i) (atoms_below i n)

  pub atoms_sum_lem : (i n : ℕ) → atoms_sum weights rows (width variables) i (suc n) ≡ atom_sum weights rows (width variables) 0 i +ℤ sum_below (λ s. atom_sum weights rows (width variables) (suc s) i) n
  atoms_sum_lem i n = atoms_below i (suc n) ∙ sum_first (λ atom. atom_sum weights rows (width variables) atom i) n
