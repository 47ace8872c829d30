-- Document 02, 2/14: the sheet of a pack for the job folder, what the call that writes it returns, and what is promised of it.
use Rattle.std.specs.Prelude.{◌≡◌, ◌↔◌, cond, List, [], ◌∷◌, ◌++◌, map, ℕ, ◌+◌, ◌-◌, ◌*◌, ◌≤◌, ◌<◌, ltb, length, get_or, take, drop, replicate}
use Prim.Native.Char.{code}
use Rattle.theory.specs.Lists.{over}
use Rattle.theory.specs.Text.{Bytes, joined, lines_of, decimal}
use Rattle.theory.specs.Packs.{Rule, text_of}
use Rattle.theory.specs.Written.{pack_of}
use Rattle.theory.specs.Check.{numbers, verdict_of}
use Rattle.theory.specs.Pages.{Paged, paged, after_verdict}

-- ## Columns

unfoldable pub spaces : ℕ → Bytes
spaces n = replicate n (code " ")

-- text at the right edge of a width, and at its left edge
unfoldable pub right_aligned : ℕ → Bytes → Bytes
right_aligned width text = spaces (width - length text) ++ text

unfoldable pub left_aligned : ℕ → Bytes → Bytes
left_aligned width text = text ++ spaces (width - length text)

-- ## The sheet

-- what a line says of a rule: its head's name, how many subgoals and how many `M` lines it has
pub record Entry : Type 0 where
  pub name : Bytes
  pub subgoals : ℕ
  pub multiplier_lines : ℕ

abbrev pub entry : Bytes → ℕ → ℕ → Entry
entry name subgoals multiplier_lines = record { name = name; subgoals = subgoals; multiplier_lines = multiplier_lines }

abbrev pub rule_entry : Rule → Entry
rule_entry r = entry r.head.name (length r.subgoals) (length r.multipliers)

-- the columns, after the rule's number
unfoldable pub columns : ℕ → Entry → Bytes
columns number e = joined (code " ")
    (right_aligned 4 (decimal number)
    ∷ left_aligned 16 e.name
    ∷ right_aligned 2 (decimal e.subgoals)
    ∷ right_aligned 3 (decimal e.multiplier_lines)
    ∷ [])

unfoldable pub sheet_line : ℕ → Entry → Bytes
sheet_line number e = left_aligned 64 (columns number e)

-- a line for each rule, the rules numbered on from a number
unfoldable pub sheet_lines : ℕ → List Rule → List Bytes
sheet_lines number [] = []
sheet_lines number (r ∷ rs) = sheet_line number (rule_entry r) ∷ sheet_lines (number + 1) rs

-- The sheet of rules, each line with its byte 10.
unfoldable pub sheet : List Rule → Bytes
sheet rules = text_of (sheet_lines 1 rules)

-- ## The call

-- On an accepted pack: 23 where the page is too short, else check's numbers and the sheet over the page's first bytes.
unfoldable pub sheet_of : Bytes → Bytes → Paged
sheet_of text page =
    let s = sheet (pack_of text).rules in
    after_verdict text page
    (cond (ltb (length page) (length s)) (paged (numbers 23 0 0 0) page) (paged (verdict_of text).returned (over s page)))

-- ## What is promised of it

-- bytes that are spaces and then a text, and bytes that are a text and then spaces
abbrev pub AtRight : Bytes → Bytes → Type 0
AtRight text column = (many : ℕ) × (column ≡ replicate many (code " ") ++ text)

abbrev pub AtLeft : Bytes → Bytes → Type 0
AtLeft text column = (many : ℕ) × (column ≡ text ++ replicate many (code " "))

-- Where the columns of a rule's line stand, by the places of its bytes, counted from 0.
pub record ColumnsStand (number : ℕ) (r : Rule) (line : Bytes) : Type 0 where
  pub width : length line ≡ 64
  pub rule_number : AtRight (decimal number) (take 4 line)
  pub after_number : get_or line 4 0 ≡ code " "
  pub name : AtLeft r.head.name (take 16 (drop 5 line))
  pub after_name : get_or line 21 0 ≡ code " "
  pub subgoals : AtRight (decimal (length r.subgoals)) (take 2 (drop 22 line))
  pub after_subgoals : get_or line 24 0 ≡ code " "
  pub multiplier_lines : AtRight (decimal (length r.multipliers)) (take 3 (drop 25 line))
  pub rest : AtLeft [] (drop 28 line)

-- The sheet of an accepted text.
pub record SheetTells (text : Bytes) : Type 0 where
  -- a line for each rule, in their order: each column stands at its place
  pub lines : length (lines_of (sheet (pack_of text).rules)) ≡ length (pack_of text).rules
  pub stand : (before after : List Rule) (r : Rule) → (pack_of text).rules ≡ before ++ r ∷ after
      → ColumnsStand (length before + 1) r (get_or (lines_of (sheet (pack_of text).rules)) (length before) [])
  -- each line ends with byte 10, so 65 bytes a rule
  pub size : length (sheet (pack_of text).rules) ≡ 65 * length (pack_of text).rules
  -- packs with the same sheet have the same names and counts
  pub determines : (other : Bytes) → (verdict_of other).returned.number ≡ 0 → sheet (pack_of text).rules ≡ sheet (pack_of other).rules
      → map rule_entry (pack_of text).rules ≡ map rule_entry (pack_of other).rules

-- Of every text and page: it succeeds exactly where the pack is accepted and the page has 65 bytes for each rule.
pub record SheetKept (text page : Bytes) : Type 0 where
  pub succeeds : ((sheet_of text page).returned.number ≡ 0) ↔ (((verdict_of text).returned.number ≡ 0) × (65 * length (pack_of text).rules ≤ length page))
  -- what fails changes nothing: a refused pack has its own numbers, and an accepted one 23 where the page is too short
  pub unchanged : ((sheet_of text page).returned.number ≡ 0 → ⊥) → (sheet_of text page).page ≡ page
  pub refused : ((verdict_of text).returned.number ≡ 0 → ⊥) → (sheet_of text page).returned ≡ (verdict_of text).returned
  pub short : (verdict_of text).returned.number ≡ 0 → length page < 65 * length (pack_of text).rules → (sheet_of text page).returned ≡ numbers 23 0 0 0
  -- what succeeds has check's numbers, the sheet at the front of the page, and the rest of the page unchanged
  pub counts : (sheet_of text page).returned.number ≡ 0 → (sheet_of text page).returned ≡ (verdict_of text).returned
  pub front : (sheet_of text page).returned.number ≡ 0 → take (65 * length (pack_of text).rules) (sheet_of text page).page ≡ sheet (pack_of text).rules
  pub rest : drop (65 * length (pack_of text).rules) (sheet_of text page).page ≡ drop (65 * length (pack_of text).rules) page
  pub tells : (sheet_of text page).returned.number ≡ 0 → SheetTells text

-- The promise.
pub record SheetPromised : Type 0 where
  pub kept : (text page : Bytes) → SheetKept text page
