-- Sums of rows, each times its weight.
use mathlib.Core.Path.{◌≡◌, sym, ◌∙◌, ap}
use mathlib.Core.List.{List}
use Prim.Native.Nat.{ℕ, zero, suc, ◌+◌, ◌*◌, ◌^◌, ◌≤◌, ◌<◌}
use native.Mathlib.Nat.{mul-le-mul}
use native.Mathlib.Numerals.{add-one}
use native.Mathlib.Omega.{arith}
use lib.IntN.{ℤ, pos, nat_abs, ◌+ℤ◌, ◌*ℤ◌, +ℤ_idr, +ℤ_assoc, zero-*ℤ}
use mir.Syntax.{w32, w64}
use mir.Val.{to_z, of_z}
use Rattle.groundwork.proofs.Magnitude.{nat_abs_add, nat_abs_mul}
use Rattle.groundwork.proofs.Stretches.{elements}
use Rattle.forms.specs.Sums.{at, Within, Zero}
use Rattle.forms.specs.declared.Form.{Form}
use Rattle.tables.specs.Tables.{row_place}
use Rattle.residuals.specs.Sums.{seen, number_at, rows_sum, own_part, atoms_sum, Summable, Partial, WithConstant, WithRow}
use Rattle.forms.proofs.Kept.{kept_at, small_fits, small_kept, widened}
use Rattle.residuals.proofs.Rows.{each_number, numbers_within, seen_small}

-- ---- an atom's rows

-- the weight of an atom's row at place k
abbrev pub weight_of : List ℤ → ℕ → ℕ → ℤ
weight_of weights atom k = elements weights (atom * 9 + 1 + k)

-- what the row adds to the number at place i
abbrev row_share : List ℤ → List ℕ → ℕ → ℕ → ℕ → ℕ → ℤ
row_share weights rows width atom k i = weight_of weights atom k *ℤ pos (seen rows width (row_place atom k) i)

-- the sum of the first atoms, the next one's weight for the constant and its first k rows
pub record RowsAdded (weights : List ℤ) (rows : List ℕ) (width atom : ℕ) (f : Form) (k : ℕ) : Type 0 where
  pub number : (i : ℕ) → i < 17 → number_at f i ≡ atoms_sum weights rows width i atom +ℤ (own_part weights atom i +ℤ rows_sum weights rows width atom i k)
  pub small : (i : ℕ) → i < 17 → nat_abs (number_at f i) ≤ atom * 2 ^ 54 + 2 ^ 34 + k * 2 ^ 50

module _ {weights : List ℤ} {rows : List ℕ} {atom : ℕ} (safe : Summable weights rows) (low : atom ≤ 8) where
  -- a weight read as 64 bits
  weight_read : (i : ℕ) (z : ℤ) → z ≡ kept_at w32 (elements weights i) → kept_at w64 z ≡ elements weights i
  weight_read i z e = let fits = small_fits w32 (elements weights i) (omega (arith, safe.weight i)) in widened w32 w64 (elements weights i) z tt fits e

  -- the atom's weight for the constant
  own_small : (i : ℕ) → nat_abs (own_part weights atom i) ≤ 2 ^ 34
  own_small zero = omega (arith, safe.weight (atom * 9))
  own_small (suc i) = omega arith

  module _ {width : ℕ} {f : Form} (before : Partial weights rows width atom f) {z : ℤ} (is : z ≡ kept_at w32 (elements weights (atom * 9))) where
    pub constant_requires : (nat_abs f.constant < 2 ^ 60) × (nat_abs (kept_at w64 z) < 2 ^ 60)
    constant_requires = (omega (arith, before.small 0 (omega arith)), rw (weight_read (atom * 9) z is) (omega (arith, own_small 0)))

    module _ {r : Form} (sum : WithConstant f (kept_at w64 z) r) where
      own_added : (i : ℕ) → i < 17 → number_at r i ≡ number_at f i +ℤ own_part weights atom i
      own_added zero less = sum.constant ∙ ap (λ (y : ℤ). f.constant +ℤ y) (weight_read (atom * 9) z is)
      own_added (suc i) less = sum.coefficient i ∙ sym (+ℤ_idr (at f i))

      pub rows_none : RowsAdded weights rows width atom r 0
      unfolding rows_sum
      rows_none =
          record {
            number = λ i less. rw (own_added i less, before.sums.number i less, +ℤ_idr (own_part weights atom i));
            small = λ i less. rw (own_added i less) (omega (arith, nat_abs_add (number_at f i) (own_part weights atom i), own_small i, before.small i less));
          }

  module _ {k : ℕ} (less : k < 8) {width : ℕ} {f : Form} (added : RowsAdded weights rows width atom f k) where
    weight_small : nat_abs (weight_of weights atom k) ≤ 2 ^ 34
    weight_small = omega (arith, safe.weight (atom * 9 + 1 + k))

    seen_below : (i : ℕ) → seen rows width (row_place atom k) i ≤ 2 ^ 16
    seen_below i = omega (arith, seen_small safe.row width (row_place atom k) i)

    share_small : (i : ℕ) → nat_abs (row_share weights rows width atom k i) ≤ 2 ^ 50
    share_small i = omega (arith, nat_abs_mul (weight_of weights atom k) (pos (seen rows width (row_place atom k) i)), mul-le-mul weight_small (seen_below i))

    rows_more : {r : Form} → ((i : ℕ) → i < 17 → number_at r i ≡ number_at f i +ℤ row_share weights rows width atom k i) → RowsAdded weights rows width atom r (k + 1)
    unfolding rows_sum
    rows_more step =
        record {
          number = λ i h. rw (add-one k, step i h, added.number i h, +ℤ_assoc (atoms_sum weights rows width i atom), +ℤ_assoc (own_part weights atom i));
          small = λ i h. rw (step i h) (omega (arith, nat_abs_add (number_at f i) (row_share weights rows width atom k i), added.small i h, share_small i));
        }

    -- a weight whose bits are 0 adds nothing
    pub row_skipped : {r : Form} → of_z w32 (weight_of weights atom k) ≡ 0 → r ≡ f → RowsAdded weights rows width atom r (k + 1)
    row_skipped none same =
        let whole = small_kept w32 (weight_of weights atom k) (omega (arith, safe.weight (atom * 9 + 1 + k))) in
        let nothing : weight_of weights atom k ≡ pos 0 = sym whole ∙ ap (to_z w32) none in
        rows_more λ i h. rw (same, nothing, zero-*ℤ (pos (seen rows width (row_place atom k) i))) (sym (+ℤ_idr (number_at f i)))

    module _ {z : ℤ} (is : z ≡ kept_at w32 (weight_of weights atom k)) where
      pub row_requires : Within (2 ^ 61) f × nat_abs (kept_at w64 z) ≤ 2 ^ 36
      row_requires = (numbers_within f λ i h. omega (arith, added.small i h), rw (weight_read (atom * 9 + 1 + k) z is) (omega (arith, weight_small)))

      pub row_weighed : {place : ℕ} → place ≡ row_place atom k → {r s : Form} → WithRow f rows width place (kept_at w64 z) s → r ≡ s → RowsAdded weights rows width atom r (k + 1)
      row_weighed begins sum same = rows_more λ i h. rw (same, sum.number i h, weight_read (atom * 9 + 1 + k) z is, begins)

-- ---- atoms

module _ {weights : List ℤ} {rows : List ℕ} {width : ℕ} where
  pub no_atoms_lem : {f : Form} → Zero f → Partial weights rows width 0 f
  unfolding atoms_sum
  no_atoms_lem {f} none =
      let nothing = each_number (λ i z. z ≡ pos 0) f none.constant none.coefficient in
      record { sums = record { number = nothing }; small = λ i less. rw (nothing i less) (omega arith) }

  pub atom_done : {atom : ℕ} {f : Form} {k : ℕ} → RowsAdded weights rows width atom f k → k ≡ 8 → Partial weights rows width (atom + 1) f
  unfolding atoms_sum
  atom_done {atom} added all =
      record {
        sums = record { number = λ i less. rw (add-one atom, ← all) (added.number i less) };
        small = λ i less. omega (arith, added.small i less);
      }
