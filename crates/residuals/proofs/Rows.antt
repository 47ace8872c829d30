-- A form's 17 numbers, by their places, and those of a row.
use mathlib.Core.Path.{◌≡◌, ◌∙◌, ap, sym}
use mathlib.Core.Bool.{Bool, cond}
use mathlib.Core.List.{List}
use Prim.Native.Nat.{ℕ, zero, suc, ◌+◌, ◌≤◌, ◌<◌, ◌^◌}
use native.Mathlib.Decide.{dec_lt}
use native.Mathlib.Nat.{mul-le-mul}
use native.Mathlib.Omega.{arith}
use lib.IntN.{ℤ, pos, nat_abs, ◌+ℤ◌, ◌*ℤ◌}
use lib.Dec.{ltb}
use lib.ListN.{get_or}
use mir.Syntax.{w64}
use Rattle.forms.specs.Sums.{at, Within, Sum, Multiple}
use Rattle.forms.specs.declared.Form.{Form}
use Rattle.groundwork.proofs.Truth.{by_truth, le-leb, gt-leb, lt-ltb, ge-ltb}
use Rattle.groundwork.proofs.Magnitude.{nat_abs_mul}
use Rattle.tables.specs.Tables.{SafeRows}
use Rattle.residuals.specs.Sums.{width, seen, number_at, FormAt, WithRow}
use Rattle.forms.proofs.Kept.{kept_at, small_kept}

-- what holds of the constant and of each coefficient holds of each of the 17
pub each_number : (P : ℕ → ℤ → Type 0) (f : Form) → P 0 f.constant → ((i : ℕ) → i < 16 → P (suc i) (at f i)) → (i : ℕ) → i < 17 → P i (number_at f i)
each_number P f constant coefficient zero less = constant
each_number P f constant coefficient (suc i) less = coefficient i (omega arith)

pub numbers_within : {bound : ℕ} (f : Form) → ((i : ℕ) → i < 17 → nat_abs (number_at f i) ≤ bound) → Within bound f
numbers_within f small = record { constant = small 0 (omega arith); coefficient = λ i less. small (suc i) (omega arith) }

-- ---- sums and multiples

pub sum_number : {f g r : Form} → Sum f g r → (i : ℕ) → i < 17 → number_at r i ≡ number_at f i +ℤ number_at g i
sum_number sum zero less = sum.constant
sum_number sum (suc i) less = sum.coefficient i (omega arith)

pub multiple_number : {f r : Form} {k : ℤ} → Multiple f k r → (i : ℕ) → i < 17 → number_at r i ≡ k *ℤ number_at f i
multiple_number multiple zero less = multiple.constant
multiple_number multiple (suc i) less = multiple.coefficient i (omega arith)

-- ---- rows

-- the number at a place of the table of rows
abbrev pub cell : List ℕ → ℕ → ℤ
cell rows i = pos (get_or rows i 0)

-- from a place on
abbrev pub cells_from : List ℕ → ℕ → ℕ → ℤ
cells_from rows place i = cell rows (place + i)

-- a cell as the code keeps it in a form
pub cell_read : {z : ℤ} {n : ℕ} → n < 65536 → z ≡ pos n → kept_at w64 z ≡ pos n
cell_read {n = n} small is = rw is (small_kept w64 (pos n) (omega arith))

-- a count that is looked at, and one that is not
pub seen_count : (rows : List ℕ) (width base i : ℕ) → i < width → seen rows width base (suc i) ≡ get_or rows (base + 1 + i) 0
unfolding seen
seen_count rows width base i less = rw (ge-ltb width (suc i) (omega arith)) (ap (λ (n : ℕ). get_or rows n 0) (omega arith))

pub seen_none : (rows : List ℕ) (width base i : ℕ) → width ≤ i → seen rows width base (suc i) ≡ 0
unfolding seen
seen_none rows width base i high = rw (lt-ltb width (suc i) (omega arith))

pub seen_constant : (rows : List ℕ) (width base : ℕ) → seen rows width base 0 ≡ get_or rows base 0
unfolding seen
seen_constant rows width base = rw (ge-ltb width 0 (omega arith)) (ap (λ (n : ℕ). get_or rows n 0) (omega arith))

-- the row as a form: its constant and the counts that are looked at, zeros after
pub form_read : {rows : List ℕ} {width base : ℕ} {r : Form} → r.constant ≡ cell rows base → ((i : ℕ) → i < width → at r i ≡ cells_from rows (base + 1) i) → ((i : ℕ) → width ≤ i → i < 16 → at r i ≡ pos 0) → FormAt rows width base r
form_read {rows} {width} {base} {r} constant counts none =
    record {
      number =
          each_number (λ i z. z ≡ pos (seen rows width base i)) r
          (constant ∙ ap pos (sym (seen_constant rows width base)))
          (λ i less. count i less (dec_lt i width));
    }
  where
    count : (i : ℕ) → i < 16 → Dec (i < width) → at r i ≡ pos (seen rows width base (suc i))
    count i less (yes low) = counts i low ∙ ap pos (sym (seen_count rows width base i low))
    count i less (no high) = none i (omega arith) less ∙ ap pos (sym (seen_none rows width base i (omega arith)))

-- what is seen is small where the rows are
pub seen_small : {rows : List ℕ} → SafeRows rows → (width base i : ℕ) → seen rows width base i < 65536
unfolding seen
seen_small {rows} safe width base i = by_truth (λ (b : Bool). cond b 0 (get_or rows (base + i) 0) < 65536) (ltb width i) (λ e. omega arith) (λ e. safe.small (base + i))

-- ---- how much of a row is looked at

pub width_narrow : (variables : ℕ) → variables ≤ 8 → width variables ≡ 8
unfolding width
width_narrow variables few = rw (le-leb variables 8 few)

pub width_whole : (variables : ℕ) → 8 < variables → width variables ≡ 16
unfolding width
width_whole variables many = rw (gt-leb variables 8 many)

-- ---- a row added

module _ {rows : List ℕ} {width base : ℕ} {row : Form} (read : FormAt rows width base row) where
  pub row_within : SafeRows rows → Within (2 ^ 24) row
  row_within safe = numbers_within row λ i h. rw (read.number i h) (omega (arith, seen_small safe width base i))

  module _ {weight : ℤ} {product : Form} (multiple : Multiple row weight product) where
    product_number : (i : ℕ) → i < 17 → number_at product i ≡ weight *ℤ pos (seen rows width base i)
    product_number i h = multiple_number multiple i h ∙ ap (λ (z : ℤ). weight *ℤ z) (read.number i h)

    pub product_within : SafeRows rows → nat_abs weight ≤ 2 ^ 36 → Within (2 ^ 61) product
    product_within safe small =
        numbers_within product λ i h.
        let seen-less : seen rows width base i ≤ 65536 = omega (arith, seen_small safe width base i) in
        rw (product_number i h) (omega (arith, nat_abs_mul weight (pos (seen rows width base i)), mul-le-mul small seen-less))

    pub row_added : {f r : Form} {kept : ℤ} → weight ≡ kept → Sum f product r → WithRow f rows width base kept r
    row_added {f} same sum = rw (← same) (record { number = λ i h. sum_number sum i h ∙ ap (λ (z : ℤ). number_at f i +ℤ z) (product_number i h) })

-- in a rule of at most eight variables
pub narrow_added : {rows : List ℕ} {variables base : ℕ} {f row product r : Form} {weight : ℤ} → variables ≤ 8 → nat_abs weight ≤ 2 ^ 36 → FormAt rows 8 base row → Multiple row (kept_at w64 weight) product → Sum f product r → WithRow f rows (width variables) base weight r
narrow_added {variables = variables} {weight = weight} few small read multiple sum = rw (width_narrow variables few) (row_added read multiple (small_kept w64 weight (omega arith)) sum)
