-- The words of a sheet's lines: each rule's number, its head's name and both counts. So the sheet determines them.
use mathlib.Core.Path.{◌≡◌, refl, ◌∙◌, ap, ap₂}
use mathlib.Core.Bool.{true, false≢true, cond}
use mathlib.Core.List.{List, [], ◌∷◌, ◌++◌, map, append_assoc, head-eq_of_cons-eq, tail-eq_of_cons-eq}
use Prim.Native.Nat.{ℕ, zero, suc, ◌+◌, ◌-◌, ◌≤◌}
use Prim.Native.Char.{code}
use native.Mathlib.Omega.{arith}
use lib.ListN.{length, get_or}
use Rattle.theory.specs.Lists.{is_empty}
use Rattle.theory.specs.Text.{Bytes, parts_at, joined, is_word, is_name, decimal}
use Rattle.theory.specs.Packs.{Rule}
use Rattle.theory.specs.Sheet.{spaces, right_aligned, left_aligned, Entry, entry, rule_entry, columns, sheet_line, sheet_lines}
use Rattle.theory.proofs.Reading.Alignment.{FitsColumns, columns_length}
use Rattle.theory.proofs.Reading.Bytes.{is_token_byte}
use Rattle.theory.proofs.Reading.Decimals.{decimal_same}
use Rattle.theory.proofs.Reading.Digits.{digits_some}
use Rattle.theory.proofs.Reading.Separators.{is_free, free_from, parts_cut, cut_off}
use Rattle.theory.proofs.Reading.Spelling.{name_bytes, decimal_bytes}
use Rattle.theory.proofs.Sheets.SheetLines.{AllListed, listed_first, listed_rest}

-- ---- words

-- the parts of a line that are not empty
unfoldable pub filled : List Bytes → List Bytes
filled [] = []
filled (part ∷ parts) = cond (is_empty part) (filled parts) (part ∷ filled parts)

-- the words of a line: what stands between its spaces
abbrev pub words_in : Bytes → List Bytes
words_in l = filled (parts_at (code " ") l)

-- the words of a rule's line: its number, its head's name and both counts
abbrev pub line_words : ℕ → Entry → List Bytes
line_words number e = decimal number ∷ e.name ∷ decimal e.subgoals ∷ decimal e.multiplier_lines ∷ []

unfoldable pub told : ℕ → List Rule → List (List Bytes)
told number [] = []
told number (r ∷ rs) = line_words number (rule_entry r) ∷ told (number + 1) rs

-- ---- words and spaces

-- some bytes, none of them a space
record IsWord (w : Bytes) : Type 0 where
  free : is_free 32 w ≡ true
  some : 1 ≤ length w

name_word : (name : Bytes) → is_name name ≡ true → IsWord name
unfolding is_word
name_word [] h = absurd (false≢true h)
name_word (b ∷ bs) h = record { free = free_from is_token_byte 32 refl (b ∷ bs) (name_bytes (b ∷ bs) h); some = omega arith }

decimal_word : (n : ℕ) → IsWord (decimal n)
decimal_word n = record { free = free_from is_token_byte 32 refl (decimal n) (decimal_bytes n); some = digits_some n }

words_spaces : (n : ℕ) (l : Bytes) → words_in (spaces n ++ l) ≡ words_in l
unfolding spaces parts_at filled is_empty
words_spaces zero l = refl
words_spaces (suc n) l = words_spaces n l

spaces_after : (n : ℕ) (l : Bytes) → spaces n ++ 32 ∷ l ≡ 32 ∷ spaces n ++ l
unfolding spaces
spaces_after zero l = refl
spaces_after (suc n) l = ap (λ (bs : Bytes). 32 ∷ bs) (spaces_after n l)

filled_some : (w : Bytes) (parts : List Bytes) → 1 ≤ length w → filled (w ∷ parts) ≡ w ∷ filled parts
unfolding filled is_empty
filled_some [] parts h = absurd (omega arith)
filled_some (b ∷ bs) parts h = refl

-- bytes whose only word is w, where a space comes after them
abbrev Column : Bytes → Bytes → Type 0
Column c w = (l : Bytes) → words_in (c ++ 32 ∷ l) ≡ w ∷ words_in l

module _ (w : Bytes) (is_word : IsWord w) where
  word_column : Column w w
  word_column l = ap filled (cut_off 32 (parts_at 32) (parts_cut 32) w l is_word.free) ∙ filled_some w (parts_at 32 l) is_word.some

  right_column : (width : ℕ) → Column (right_aligned width w) w
  unfolding right_aligned
  right_column width l = ap words_in (append_assoc (spaces (width - length w)) w (32 ∷ l)) ∙ words_spaces (width - length w) (w ++ 32 ∷ l) ∙ word_column l

  left_column : (width : ℕ) → Column (left_aligned width w) w
  unfolding left_aligned
  left_column width l =
      let n = width - length w in
      ap words_in (append_assoc w (spaces n) (32 ∷ l) ∙ ap (λ (bs : Bytes). w ++ bs) (spaces_after n l))
      ∙ word_column (spaces n ++ l) ∙ ap (λ (ws : List Bytes). w ∷ ws) (words_spaces n l)

-- ---- the words of a line

-- one column and what comes after it
column_first : (c w more l : Bytes) {ws : List Bytes} → Column c w → words_in (more ++ l) ≡ ws → words_in ((c ++ 32 ∷ more) ++ l) ≡ w ∷ ws
column_first c w more l column rest = ap words_in (append_assoc c (32 ∷ more) l) ∙ column (more ++ l) ∙ ap (λ (ws : List Bytes). w ∷ ws) rest

line_words_lem : (number : ℕ) (e : Entry) → is_name e.name ≡ true → FitsColumns number e → words_in (sheet_line number e) ≡ line_words number e
unfolding sheet_line left_aligned columns joined spaces parts_at filled is_empty
line_words_lem number e named fits =
    let left : 64 - length (columns number e) ≡ 36 = omega (arith, columns_length number e fits) in
    ap (λ (n : ℕ). words_in (columns number e ++ spaces n)) left
    ∙ column_first (right_aligned 4 (decimal number)) (decimal number) _ (spaces 36) (right_column (decimal number) (decimal_word number) 4)
    (column_first (left_aligned 16 e.name) e.name _ (spaces 36) (left_column e.name (name_word e.name named) 16)
    (column_first (right_aligned 2 (decimal e.subgoals)) (decimal e.subgoals) _ (spaces 36) (right_column (decimal e.subgoals) (decimal_word e.subgoals) 2)
    (right_column (decimal e.multiplier_lines) (decimal_word e.multiplier_lines) 3 (spaces 35))))

pub sheet_words : (number : ℕ) (rules : List Rule) → AllListed number rules → map words_in (sheet_lines number rules) ≡ told number rules
unfolding sheet_lines told
sheet_words number [] all = refl
sheet_words number (r ∷ rules) all =
    let first = listed_first number r rules all in
    ap₂ ◌∷◌ (line_words_lem number (rule_entry r) first.named first.fits) (sheet_words (number + 1) rules (listed_rest number r rules all))

-- ---- what they determine

entry_same : (number : ℕ) (e f : Entry) → line_words number e ≡ line_words number f → e ≡ f
entry_same number e f same =
    let name : e.name ≡ f.name = ap (λ (ws : List Bytes). get_or ws 1 []) same in
    let subgoals = decimal_same e.subgoals f.subgoals (ap (λ (ws : List Bytes). get_or ws 2 []) same) in
    let multipliers = decimal_same e.multiplier_lines f.multiplier_lines (ap (λ (ws : List Bytes). get_or ws 3 []) same) in
    let parts : entry e.name e.subgoals e.multiplier_lines ≡ entry f.name f.subgoals f.multiplier_lines = rw (name, subgoals, multipliers) in
    parts

pub told_entries : (number : ℕ) (rs ss : List Rule) → told number rs ≡ told number ss → map rule_entry rs ≡ map rule_entry ss
unfolding told
told_entries number [] [] e = refl
told_entries number [] (s ∷ ss) e = absurd (omega (arith, ap length e))
told_entries number (r ∷ rs) [] e = absurd (omega (arith, ap length e))
told_entries number (r ∷ rs) (s ∷ ss) e =
    ap₂ ◌∷◌ (entry_same number (rule_entry r) (rule_entry s) (head-eq_of_cons-eq e)) (told_entries (number + 1) rs ss (tail-eq_of_cons-eq e))
