-- How long aligned text is, and so a line of the sheet whose columns nothing is wider than.
use mathlib.Core.Path.{◌≡◌}
use Prim.Native.Nat.{ℕ, ◌≤◌}
use Prim.Native.Char.{code}
use native.Mathlib.Omega.{arith}
use lib.ListN.{length, length-append, length-replicate}
use Rattle.theory.specs.Text.{Bytes, decimal, joined}
use Rattle.theory.specs.Sheet.{spaces, right_aligned, left_aligned, Entry, columns, sheet_line}

-- nothing is wider than its columns
pub record FitsColumns (number : ℕ) (e : Entry) : Type 0 where
  pub four_digits : length (decimal number) ≤ 4
  pub sixteen_bytes : length e.name ≤ 16
  pub two_digits : length (decimal e.subgoals) ≤ 2
  pub three_digits : length (decimal e.multiplier_lines) ≤ 3

pub spaces_length : (n : ℕ) → length (spaces n) ≡ n
unfolding spaces
spaces_length n = length-replicate n (code " ")

module _ (width : ℕ) (text : Bytes) (fits : length text ≤ width) where
  pub right_length : length (right_aligned width text) ≡ width
  unfolding right_aligned
  right_length = simp (length-append, spaces_length) (omega arith)

  pub left_length : length (left_aligned width text) ≡ width
  unfolding left_aligned
  left_length = simp (length-append, spaces_length) (omega arith)

module _ (number : ℕ) (e : Entry) (fits : FitsColumns number e) where
  pub columns_length : length (columns number e) ≡ 28
  unfolding columns joined
  columns_length =
      simp length-append
      (omega (
        arith,
        right_length 4 (decimal number) fits.four_digits,
        left_length 16 e.name fits.sixteen_bytes,
        right_length 2 (decimal e.subgoals) fits.two_digits,
        right_length 3 (decimal e.multiplier_lines) fits.three_digits,
      ))

  pub line_length : length (sheet_line number e) ≡ 64
  unfolding sheet_line
  line_length = left_length 64 (columns number e) (omega (arith, columns_length))
