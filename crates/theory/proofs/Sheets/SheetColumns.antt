-- Where the columns of a sheet's lines stand, and which line is a rule's.
use mathlib.Core.Path.{◌≡◌, refl, sym, ◌∙◌, ap, subst}
use mathlib.Core.List.{List, [], ◌∷◌, ◌++◌, append_assoc}
use Prim.Native.Nat.{ℕ, suc, ◌+◌, ◌-◌}
use native.Mathlib.Omega.{arith}
use lib.ListN.{length, get_or, take, drop}
use lib.Seq.{take_at, drop_at, get_or-drop, drop-drop}
use Rattle.theory.specs.Text.{Bytes, joined, decimal}
use Rattle.theory.specs.Packs.{Rule}
use Rattle.theory.specs.Sheet.{spaces, right_aligned, left_aligned, Entry, rule_entry, columns, sheet_line, sheet_lines, AtRight, AtLeft, ColumnsStand}
use Rattle.theory.proofs.Reading.Alignment.{FitsColumns, right_length, left_length, columns_length, line_length}

-- ---- one column

right_stands : (width : ℕ) (text : Bytes) → AtRight text (right_aligned width text)
unfolding right_aligned spaces
right_stands width text = (width - length text, refl)

left_stands : (width : ℕ) (text : Bytes) → AtLeft text (left_aligned width text)
unfolding left_aligned spaces
left_stands width text = (width - length text, refl)

-- a column of a line, from a place on, and what comes after it
module _ (line : Bytes) (from width : ℕ) (column rest : Bytes) (here : drop from line ≡ column ++ rest) (wide : length column ≡ width) where
  column_is : take width (drop from line) ≡ column
  column_is = ap (take width) here ∙ take_at column rest width wide

  column_after : drop (from + width) line ≡ rest
  column_after = sym (drop-drop width from line) ∙ ap (drop width) here ∙ drop_at column rest width wide

-- the byte at a place, and what comes after it
module _ (line : Bytes) (at b : ℕ) (rest : Bytes) (here : drop at line ≡ b ∷ rest) where
  byte_is : get_or line at 0 ≡ b
  byte_is = let same : at + 0 ≡ at = omega arith in rw same at (sym (get_or-drop at line 0 0) ∙ ap (λ (bs : Bytes). get_or bs 0 0) here)

  byte_after : drop (at + 1) line ≡ rest
  byte_after = sym (drop-drop 1 at line) ∙ ap (drop 1) here

-- ---- a line

module _ (number : ℕ) (r : Rule) (fits : FitsColumns number (rule_entry r)) where
  abbrev e : Entry
  e = rule_entry r

  first : Bytes
  first = right_aligned 4 (decimal number)

  second : Bytes
  second = left_aligned 16 e.name

  third : Bytes
  third = right_aligned 2 (decimal e.subgoals)

  fourth : Bytes
  fourth = right_aligned 3 (decimal e.multiplier_lines)

  l : Bytes
  l = sheet_line number e

  -- what stands after each column and its space
  abbrev after_third : Bytes
  after_third = fourth ++ spaces 36

  abbrev after_second : Bytes
  after_second = third ++ 32 ∷ after_third

  abbrev after_first : Bytes
  after_first = second ++ 32 ∷ after_second

  -- the line, column by column
  laid_out : l ≡ first ++ 32 ∷ after_first
  unfolding l sheet_line left_aligned columns joined first second third fourth
  laid_out =
      let left : 64 - length (columns number e) ≡ 36 = omega (arith, columns_length number e fits) in
      ap (λ (n : ℕ). columns number e ++ spaces n) left ∙ simp append_assoc

  first_wide : length first ≡ 4
  unfolding first
  first_wide = right_length 4 (decimal number) fits.four_digits

  second_wide : length second ≡ 16
  unfolding second
  second_wide = left_length 16 e.name fits.sixteen_bytes

  third_wide : length third ≡ 2
  unfolding third
  third_wide = right_length 2 (decimal e.subgoals) fits.two_digits

  fourth_wide : length fourth ≡ 3
  unfolding fourth
  fourth_wide = right_length 3 (decimal e.multiplier_lines) fits.three_digits

  at_four : drop 4 l ≡ 32 ∷ after_first
  at_four = ap (drop 4) laid_out ∙ drop_at first (32 ∷ after_first) 4 first_wide

  at_five : drop 5 l ≡ after_first
  at_five = byte_after l 4 32 after_first at_four

  at_twenty_one : drop 21 l ≡ 32 ∷ after_second
  at_twenty_one = column_after l 5 16 second (32 ∷ after_second) at_five second_wide

  at_twenty_two : drop 22 l ≡ after_second
  at_twenty_two = byte_after l 21 32 after_second at_twenty_one

  at_twenty_four : drop 24 l ≡ 32 ∷ after_third
  at_twenty_four = column_after l 22 2 third (32 ∷ after_third) at_twenty_two third_wide

  at_twenty_five : drop 25 l ≡ after_third
  at_twenty_five = byte_after l 24 32 after_third at_twenty_four

  pub columns_stand : ColumnsStand number r (sheet_line number (rule_entry r))
  unfolding l first second third fourth spaces
  columns_stand = record {
    width = line_length number e fits;
    rule_number = subst (AtRight (decimal number)) (sym (ap (take 4) laid_out ∙ take_at first (32 ∷ after_first) 4 first_wide)) (right_stands 4 (decimal number));
    after_number = byte_is l 4 32 after_first at_four;
    name = subst (AtLeft e.name) (sym (column_is l 5 16 second (32 ∷ after_second) at_five second_wide)) (left_stands 16 e.name);
    after_name = byte_is l 21 32 after_second at_twenty_one;
    subgoals = subst (AtRight (decimal e.subgoals)) (sym (column_is l 22 2 third (32 ∷ after_third) at_twenty_two third_wide)) (right_stands 2 (decimal e.subgoals));
    after_subgoals = byte_is l 24 32 after_third at_twenty_four;
    multiplier_lines = subst (AtRight (decimal e.multiplier_lines)) (sym (column_is l 25 3 fourth (spaces 36) at_twenty_five fourth_wide)) (right_stands 3 (decimal e.multiplier_lines));
    rest = (36, column_after l 25 3 fourth (spaces 36) at_twenty_five fourth_wide);
  }

-- ---- the lines

pub lines_many : (number : ℕ) (rules : List Rule) → length (sheet_lines number rules) ≡ length rules
unfolding sheet_lines
lines_many number [] = refl
lines_many number (r ∷ rules) = ap suc (lines_many (number + 1) rules)

-- the line of the rule that comes after these
pub line_of_rule : (number : ℕ) (before after : List Rule) (r : Rule) → get_or (sheet_lines number (before ++ r ∷ after)) (length before) [] ≡ sheet_line (length before + number) (rule_entry r)
unfolding sheet_lines
line_of_rule number [] after r = let same : number ≡ 0 + number = omega arith in ap (λ (n : ℕ). sheet_line n (rule_entry r)) same
line_of_rule number (s ∷ before) after r =
    let same : length before + (number + 1) ≡ suc (length before) + number = omega arith in
    line_of_rule (number + 1) before after r ∙ ap (λ (n : ℕ). sheet_line n (rule_entry r)) same
