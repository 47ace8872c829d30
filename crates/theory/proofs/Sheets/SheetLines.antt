-- The lines of a sheet whose rules fit their columns: 64 bytes each, none of them byte 10, and 65 bytes a rule with it.
use mathlib.Core.Path.{◌≡◌, refl, ap, subst}
use mathlib.Core.Bool.{true}
use mathlib.Core.List.Memᴰ
use mathlib.Core.List.{List, [], ◌∷◌, ◌++◌}
use Prim.Native.Nat.{ℕ, suc, ◌+◌, ◌-◌, ◌*◌}
use native.Mathlib.Nat.{zero-add}
use native.Mathlib.Omega.{arith}
use lib.ListN.{length, length-append}
use Rattle.groundwork.proofs.Lists.{all_cons}
use Rattle.theory.specs.Lists.{◌∈◌, every}
use Rattle.theory.specs.Text.{Bytes, is_name, lines_of, decimal}
use Rattle.theory.specs.Packs.{Rule, text_of}
use Rattle.theory.specs.Sheet.{spaces, right_aligned, left_aligned, Entry, rule_entry, columns, sheet_line, sheet_lines}
use Rattle.theory.proofs.Reading.Alignment.{FitsColumns, line_length}
use Rattle.theory.proofs.Reading.Bytes.{is_field_byte}
use Rattle.theory.proofs.Reading.Every.{every_append, every_replicate}
use Rattle.theory.proofs.Reading.PlainFields.{plain_nil, plain_cons, name_plain, decimal_plain}
use Rattle.theory.proofs.Reading.Separators.{is_free, free_from, every_joined, lines_of_text}

-- a rule whose head's name is one, and that fits its columns under a number
pub record Listed (number : ℕ) (r : Rule) : Type 0 where
  pub named : is_name r.head.name ≡ true
  pub fits : FitsColumns number (rule_entry r)

-- rules that are such, numbered on from a number
abbrev pub AllListed : ℕ → List Rule → Type 0
AllListed number rules = (before after : List Rule) (r : Rule) → rules ≡ before ++ r ∷ after → Listed (length before + number) r

module _ (number : ℕ) (r : Rule) (rules : List Rule) (all : AllListed number (r ∷ rules)) where
  pub listed_first : Listed number r
  listed_first = subst (λ (n : ℕ). Listed n r) (zero-add number) (all [] rules r refl)

  pub listed_rest : AllListed (number + 1) rules
  listed_rest before after s split =
      let place : suc (length before) + number ≡ length before + (number + 1) = omega arith in
      subst (λ (n : ℕ). Listed n s) place (all (r ∷ before) after s (ap (λ (rs : List Rule). r ∷ rs) split))

-- ---- the bytes of a line

right_plain : (width : ℕ) (text : Bytes) → every is_field_byte text ≡ true → every is_field_byte (right_aligned width text) ≡ true
unfolding right_aligned spaces
right_plain width text h = every_append is_field_byte (spaces (width - length text)) text (every_replicate is_field_byte (width - length text) 32 refl) h

left_plain : (width : ℕ) (text : Bytes) → every is_field_byte text ≡ true → every is_field_byte (left_aligned width text) ≡ true
unfolding left_aligned spaces
left_plain width text h = every_append is_field_byte text (spaces (width - length text)) h (every_replicate is_field_byte (width - length text) 32 refl)

line_free : (number : ℕ) (e : Entry) → is_name e.name ≡ true → is_free 10 (sheet_line number e) ≡ true
unfolding sheet_line columns
line_free number e named =
    free_from is_field_byte 10 refl (sheet_line number e)
    (left_plain 64 (columns number e)
    (every_joined is_field_byte 32 refl _
    (plain_cons (right_plain 4 (decimal number) (decimal_plain number))
    (plain_cons (left_plain 16 e.name (name_plain e.name named))
    (plain_cons (right_plain 2 (decimal e.subgoals) (decimal_plain e.subgoals))
    (plain_cons (right_plain 3 (decimal e.multiplier_lines) (decimal_plain e.multiplier_lines)) plain_nil))))))

-- ---- all lines

-- what holds of the line of a listed rule holds of each line
module _ (P : Bytes → Type 0) (of : (number : ℕ) (r : Rule) → Listed number r → P (sheet_line number (rule_entry r))) where
  each_line : (number : ℕ) (rules : List Rule) → AllListed number rules → (l : Bytes) → l ∈ sheet_lines number rules → P l
  unfolding sheet_lines
  each_line number [] all = λ l m. absurd (Memᴰ.not-nil m)
  each_line number (r ∷ rules) all = all_cons P (of number r (listed_first number r rules all)) (each_line (number + 1) rules (listed_rest number r rules all))

pub sheet_lines_lem : (number : ℕ) (rules : List Rule) → AllListed number rules → lines_of (text_of (sheet_lines number rules)) ≡ sheet_lines number rules
sheet_lines_lem number rules all =
    lines_of_text (sheet_lines number rules)
    (each_line (λ l. is_free 10 l ≡ true) (λ n r listed. line_free n (rule_entry r) listed.named) number rules all)

pub sheet_size : (number : ℕ) (rules : List Rule) → AllListed number rules → length (text_of (sheet_lines number rules)) ≡ 65 * length rules
unfolding sheet_lines text_of
sheet_size number [] all = refl
sheet_size number (r ∷ rules) all =
    omega (
      arith,
      length-append (sheet_line number (rule_entry r)) (10 ∷ text_of (sheet_lines (number + 1) rules)),
      line_length number (rule_entry r) (listed_first number r rules all).fits,
      sheet_size (number + 1) rules (listed_rest number r rules all),
    )
