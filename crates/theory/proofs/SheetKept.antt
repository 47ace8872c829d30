-- The sheet's promise, of every text and page: when the call succeeds, what it leaves on the page, and what that tells.
use mathlib.Core.Path.{◌≡◌, refl, sym, ◌∙◌, ap, subst}
use mathlib.Core.Bool.{Bool, true, false, cond}
use mathlib.Core.List.{List, [], ◌∷◌, ◌++◌, map}
use Prim.Native.Nat.{ℕ, ◌+◌, ◌*◌, ◌≤◌, ◌<◌}
use native.Mathlib.Omega.{arith}
use lib.Dec.{eqb, ltb}
use lib.ListN.{length, get_or, take, drop}
use lib.Seq.{take_at, drop_at}
use Rattle.groundwork.proofs.Lists.{split_member}
use Rattle.groundwork.proofs.Truth.{eqb-equal, eqb-unequal, ltb-lt, ltb-ge}
use Rattle.theory.specs.Lists.{over}
use Rattle.theory.specs.Text.{Bytes, lines_of}
use Rattle.theory.specs.Packs.{Rule}
use Rattle.theory.specs.Written.{pack_of}
use Rattle.theory.specs.Check.{numbers, verdict_of}
use Rattle.theory.specs.Pages.{Paged, paged, after_verdict}
use Rattle.theory.specs.Sheet.{rule_entry, sheet_line, sheet_lines, sheet, sheet_of, ColumnsStand, SheetTells, SheetKept, SheetPromised}
use Rattle.theory.proofs.Judging.Acceptance.{accepted_pack}
use Rattle.theory.proofs.Sheets.Widths.{rule_fits_columns}
use Rattle.theory.proofs.Sheets.SheetLines.{AllListed, sheet_lines_lem, sheet_size}
use Rattle.theory.proofs.Sheets.SheetColumns.{columns_stand, lines_many, line_of_rule}
use Rattle.theory.proofs.Sheets.SheetWords.{words_in, told, sheet_words, told_entries}

-- ---- an accepted text

abbrev IsAccepted : Bytes → Type 0
IsAccepted text = (verdict_of text).returned.number ≡ 0

abbrev rules_of : Bytes → List Rule
rules_of text = (pack_of text).rules

all_listed : (text : Bytes) → IsAccepted text → AllListed 1 (rules_of text)
all_listed text ok before after r split =
    let fits = (accepted_pack text ok).fits in
    record {
      named = (fits.formed.rules r (split_member before after r split)).head.named;
      fits = rule_fits_columns (pack_of text) fits before after r split;
    }

sheet_text_lines : (text : Bytes) → IsAccepted text → lines_of (sheet (rules_of text)) ≡ sheet_lines 1 (rules_of text)
unfolding sheet
sheet_text_lines text ok = sheet_lines_lem 1 (rules_of text) (all_listed text ok)

pub sheet_length : (text : Bytes) → IsAccepted text → length (sheet (rules_of text)) ≡ 65 * length (rules_of text)
unfolding sheet
sheet_length text ok = sheet_size 1 (rules_of text) (all_listed text ok)

-- the line of a rule
rule_line : (text : Bytes) → IsAccepted text → (before after : List Rule) (r : Rule) → rules_of text ≡ before ++ r ∷ after
    → get_or (lines_of (sheet (rules_of text))) (length before) [] ≡ sheet_line (length before + 1) (rule_entry r)
rule_line text ok before after r split =
    ap (λ (ls : List Bytes). get_or ls (length before) []) (sheet_text_lines text ok ∙ ap (sheet_lines 1) split) ∙ line_of_rule 1 before after r

sheet_tells : (text : Bytes) → IsAccepted text → SheetTells text
sheet_tells text ok = record {
  lines = ap length (sheet_text_lines text ok) ∙ lines_many 1 (rules_of text);
  stand = λ before after r split.
      subst (ColumnsStand (length before + 1) r) (sym (rule_line text ok before after r split))
      (columns_stand (length before + 1) r (rule_fits_columns (pack_of text) (accepted_pack text ok).fits before after r split));
  size = sheet_length text ok;
  determines = λ other fine same. told_entries 1 (rules_of text) (rules_of other) (sym (words text ok) ∙ ap (λ (s : Bytes). map words_in (lines_of s)) same ∙ words other fine);
}
  where
    words : (t : Bytes) → IsAccepted t → map words_in (lines_of (sheet (rules_of t))) ≡ told 1 (rules_of t)
    words t fine = ap (map words_in) (sheet_text_lines t fine) ∙ sheet_words 1 (rules_of t) (all_listed t fine)

-- ---- the call

-- the three ways it ends
data Ends (text page : Bytes) : Paged → Type 0 where
  refused : (IsAccepted text → ⊥) → Ends text page (paged (verdict_of text).returned page)
  short : IsAccepted text → length page < 65 * length (rules_of text) → Ends text page (paged (numbers 23 0 0 0) page)
  filed : IsAccepted text → 65 * length (rules_of text) ≤ length page → Ends text page (paged (verdict_of text).returned (over (sheet (rules_of text)) page))

module _ (text page : Bytes) where
  ends : Ends text page (sheet_of text page)
  unfolding sheet_of after_verdict
  ends = verdict (eqb (verdict_of text).returned.number 0) refl
    where
      room : IsAccepted text → (b : Bool) → ltb (length page) (length (sheet (rules_of text))) ≡ b
          → Ends text page (cond b (paged (numbers 23 0 0 0) page) (paged (verdict_of text).returned (over (sheet (rules_of text)) page)))
      room ok true e = short ok (omega (arith, ltb-lt (length page) (length (sheet (rules_of text))) e, sheet_length text ok))
      room ok false e = filed ok (omega (arith, ltb-ge (length page) (length (sheet (rules_of text))) e, sheet_length text ok))

      verdict : (b : Bool) → eqb (verdict_of text).returned.number 0 ≡ b
          → Ends text page (cond b (cond (ltb (length page) (length (sheet (rules_of text)))) (paged (numbers 23 0 0 0) page) (paged (verdict_of text).returned (over (sheet (rules_of text)) page))) (paged (verdict_of text).returned page))
      verdict true e = let ok = eqb-equal _ 0 e in room ok (ltb (length page) (length (sheet (rules_of text)))) refl
      verdict false e = refused (eqb-unequal _ 0 e)

  -- ---- what each way tells

  rest_after : IsAccepted text → drop (65 * length (rules_of text)) (over (sheet (rules_of text)) page) ≡ drop (65 * length (rules_of text)) page
  rest_after ok =
      let size = sheet_length text ok in
      drop_at (sheet (rules_of text)) (drop (length (sheet (rules_of text))) page) (65 * length (rules_of text)) size ∙ ap (λ (n : ℕ). drop n page) size

  succeeds : {a : Paged} → Ends text page a → a.returned.number ≡ 0 → IsAccepted text × (65 * length (rules_of text) ≤ length page)
  succeeds (refused other) e = absurd (other e)
  succeeds (short ok little) e = absurd (omega arith)
  succeeds (filed ok room) e = (ok, room)

  succeeded : {a : Paged} → Ends text page a → IsAccepted text × (65 * length (rules_of text) ≤ length page) → a.returned.number ≡ 0
  succeeded (refused other) fine = absurd (other fine.0)
  succeeded (short ok little) fine = absurd (omega (arith, fine.1))
  succeeded (filed ok room) fine = ok

  unchanged : {a : Paged} → Ends text page a → (a.returned.number ≡ 0 → ⊥) → a.page ≡ page
  unchanged (refused other) fails = refl
  unchanged (short ok little) fails = refl
  unchanged (filed ok room) fails = absurd (fails ok)

  own_numbers : {a : Paged} → Ends text page a → (IsAccepted text → ⊥) → a.returned ≡ (verdict_of text).returned
  own_numbers (refused other) fails = refl
  own_numbers (short ok little) fails = absurd (fails ok)
  own_numbers (filed ok room) fails = refl

  too_short : {a : Paged} → Ends text page a → IsAccepted text → length page < 65 * length (rules_of text) → a.returned ≡ numbers 23 0 0 0
  too_short (refused other) fine little = absurd (other fine)
  too_short (short ok little) fine less = refl
  too_short (filed ok room) fine little = absurd (omega arith)

  counts : {a : Paged} → Ends text page a → a.returned.number ≡ 0 → a.returned ≡ (verdict_of text).returned
  counts (refused other) e = refl
  counts (short ok little) e = absurd (omega arith)
  counts (filed ok room) e = refl

  front : {a : Paged} → Ends text page a → a.returned.number ≡ 0 → take (65 * length (rules_of text)) a.page ≡ sheet (rules_of text)
  front (refused other) e = absurd (other e)
  front (short ok little) e = absurd (omega arith)
  front (filed ok room) e = take_at (sheet (rules_of text)) (drop (length (sheet (rules_of text))) page) (65 * length (rules_of text)) (sheet_length text ok)

  rest : {a : Paged} → Ends text page a → drop (65 * length (rules_of text)) a.page ≡ drop (65 * length (rules_of text)) page
  rest (refused other) = refl
  rest (short ok little) = refl
  rest (filed ok room) = rest_after ok

pub sheet_kept : (text page : Bytes) → SheetKept text page
sheet_kept text page =
    let e = ends text page in
    record {
      succeeds = (succeeds text page e, succeeded text page e);
      unchanged = unchanged text page e;
      refused = own_numbers text page e;
      short = too_short text page e;
      counts = counts text page e;
      front = front text page e;
      rest = rest text page e;
      tells = λ zero. sheet_tells text (succeeds text page e zero).0;
    }

pub sheet_promised : SheetPromised
sheet_promised = record { kept = sheet_kept }
