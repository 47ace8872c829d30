-- Sums of rows, each times its weight: one number of the 17, by its place.
use Rattle.std.specs.Prelude.{◌≡◌, Bool, true, false, cond, List, ◌∷◌, ℕ, zero, suc, ◌+◌, ◌*◌, ◌≤◌, ◌<◌, ◌^◌, leb, ltb, ℤ, pos, nat_abs, ◌+ℤ◌, ◌*ℤ◌, length, get_or}
use Rattle.std.specs.Int.Signed.{non_neg}
use Rattle.forms.specs.Sums.{at}
use Rattle.forms.specs.declared.Form.{Form}
use Rattle.tables.specs.Tables.{row_place, SafeRows}

-- how many of a row's sixteen counts are looked at, in a rule of so many variables: those of others are 0
unfoldable pub width : ℕ → ℕ
width variables = cond (leb variables 8) 8 16

-- a row's number at place i: 0 its constant, i + 1 the count of the variable at place i, if it is looked at
unfoldable pub seen : List ℕ → ℕ → ℕ → ℕ → ℕ
seen rows width base i = cond (ltb width i) 0 (get_or rows (base + i) 0)

-- of an atom's first rows
unfoldable pub rows_sum : List ℤ → List ℕ → ℕ → ℕ → ℕ → ℕ → ℤ
rows_sum weights rows width atom i zero = pos 0
rows_sum weights rows width atom i (suc k) = rows_sum weights rows width atom i k +ℤ get_or weights (atom * 9 + 1 + k) (pos 0) *ℤ pos (seen rows width (row_place atom k) i)

-- the atom's weight for the constant stands at place 0 alone
abbrev pub own_part : List ℤ → ℕ → ℕ → ℤ
own_part weights atom zero = get_or weights (atom * 9) (pos 0)
own_part weights atom (suc i) = pos 0

abbrev pub atom_sum : List ℤ → List ℕ → ℕ → ℕ → ℕ → ℤ
atom_sum weights rows width atom i = own_part weights atom i +ℤ rows_sum weights rows width atom i 8

-- of the first atoms
unfoldable pub atoms_sum : List ℤ → List ℕ → ℕ → ℕ → ℕ → ℤ
atoms_sum weights rows width i zero = pos 0
atoms_sum weights rows width i (suc n) = atoms_sum weights rows width i n +ℤ atom_sum weights rows width n i

-- a form's number at a place: 0 the constant, i + 1 the variable at place i
abbrev pub number_at : Form → ℕ → ℤ
number_at f zero = f.constant
number_at f (suc i) = at f i

-- the 17 numbers of a form, the constant first
abbrev pub form_numbers : Form → List ℤ
form_numbers f = f.constant ∷ f.coefficients

pub record SumsTo (weights : List ℤ) (rows : List ℕ) (width atoms : ℕ) (r : Form) : Type 0 where
  pub number : (i : ℕ) → i < 17 → number_at r i ≡ atoms_sum weights rows width i atoms

-- the largest product of a multiplier and a number of a claim; sixteen of them are below 2^31
abbrev pub largest : ℕ
largest = 99980001

-- weights and rows that can be summed without leaving 64 bits
pub record Summable (weights : List ℤ) (rows : List ℕ) : Type 0 where
  pub size : length weights ≡ 81
  pub weight : (i : ℕ) → nat_abs (get_or weights i (pos 0)) ≤ 16 * largest
  pub row : SafeRows rows

-- no number of a form is below 0
pub record Judged (f : Form) (r : Bool) : Type 0 where
  pub yes : r ≡ true → (i : ℕ) → i < 17 → non_neg (number_at f i) ≡ true
  pub no : r ≡ false → (i : ℕ) × (i < 17) × (non_neg (number_at f i) ≡ false)

-- a row of the table as a form
pub record FormAt (rows : List ℕ) (width base : ℕ) (r : Form) : Type 0 where
  pub number : (i : ℕ) → i < 17 → number_at r i ≡ pos (seen rows width base i)

-- a form with a row added, times its weight
pub record WithRow (f : Form) (rows : List ℕ) (width base : ℕ) (weight : ℤ) (r : Form) : Type 0 where
  pub number : (i : ℕ) → i < 17 → number_at r i ≡ number_at f i +ℤ weight *ℤ pos (seen rows width base i)

pub record WithConstant (f : Form) (c : ℤ) (r : Form) : Type 0 where
  pub constant : r.constant ≡ f.constant +ℤ c
  pub coefficient : (i : ℕ) → at r i ≡ at f i

-- the sum of the first atoms, and how large it can be
pub record Partial (weights : List ℤ) (rows : List ℕ) (width atoms : ℕ) (r : Form) : Type 0 where
  pub sums : SumsTo weights rows width atoms r
  pub small : (i : ℕ) → i < 17 → nat_abs (number_at r i) ≤ atoms * 2 ^ 54
