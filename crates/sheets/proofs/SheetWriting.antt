-- The loop of `put_sheet`: the lines of the first rules stand on the page, and those of the others are still to be read.
use mathlib.Core.Path.{◌≡◌, refl, sym, ◌∙◌, ap}
use mathlib.Core.List.{List, [], ◌∷◌, ◌++◌, map, flat_map, append_assoc, append-nil}
use Prim.Native.Nat.{ℕ, ◌+◌, ◌-◌, ◌*◌, ◌≤◌, ◌<◌}
use native.Mathlib.Nat.{add-zero}
use native.Mathlib.Omega.{arith}
use borrow.Rule.Slice.PartMut.{mid_of, put_mid, mid_len}
use lib.ListN.{length, drop, length-append, drop_of_length-le}
use mir.Syntax.{w64}
use mir.Val.{Fits}
use Rattle.groundwork.proofs.Lists.{split_member, length_end}
use Rattle.theory.specs.Lists.{over, ending}
use Rattle.theory.specs.Text.{Bytes, lines_of}
use Rattle.theory.specs.Packs.{Rule, line, rule_lines, end_line, from_rules, text_of}
use Rattle.theory.specs.Written.{pack_of}
use Rattle.theory.specs.Sheet.{entry, rule_entry, sheet_line, sheet_lines, sheet}
use Rattle.theory.proofs.Judging.Acceptance.{accepted_pack}
use Rattle.theory.proofs.Judging.PackReading.{fits_spelled, lines_again}
use Rattle.theory.proofs.Reading.Alignment.{FitsColumns, line_length}
use Rattle.theory.proofs.Reading.Separators.{text_end}
use Rattle.theory.proofs.Sheets.Widths.{rule_fits_columns}
use Rattle.text.specs.Scans.{part}
use Rattle.pages.specs.Pages.{Puts}
use Rattle.pages.proofs.Puts.{puts_same, puts_size, puts_part, puts_more, puts_over}
use Rattle.sections.specs.declared.RuleLines.{RuleLines}
use Rattle.sections.specs.Sections.{RulesBegin, StandsRule, StandsSomeRule, FoundRule, RuleFound}
use Rattle.sections.proofs.RuleRows.{stands_rule}
use Rattle.sheets.specs.Readiness.{Ready}

-- the lines of rules and the end
abbrev lines_for : List Rule → List Bytes
lines_for rules = map line (flat_map rule_lines rules ++ (end_line ∷ []))

-- ---- the sheet with one rule more

lines_end : (n : ℕ) (rules : List Rule) (r : Rule) → sheet_lines n (ending r rules) ≡ ending (sheet_line (n + length rules) (rule_entry r)) (sheet_lines n rules)
unfolding sheet_lines
lines_end n [] r = rw (add-zero n) refl
lines_end n (s ∷ rules) r =
    let place : n + 1 + length rules ≡ n + length (s ∷ rules) = omega arith in
    ap (λ (ls : List Bytes). sheet_line n (rule_entry s) ∷ ls) (lines_end (n + 1) rules r ∙ ap (λ (k : ℕ). ending (sheet_line k (rule_entry r)) (sheet_lines (n + 1) rules)) place)

sheet_end : (rules : List Rule) (r : Rule) (number : ℕ) → number ≡ length rules + 1 → sheet (ending r rules) ≡ sheet rules ++ (sheet_line number (rule_entry r) ++ (10 ∷ []))
unfolding sheet
sheet_end rules r number e =
    let place : 1 + length rules ≡ number = omega arith in
    ap text_of (lines_end 1 rules r ∙ ap (λ (k : ℕ). ending (sheet_line k (rule_entry r)) (sheet_lines 1 rules)) place) ∙ text_end (sheet_lines 1 rules) (sheet_line number (rule_entry r))

-- ---- the loop

-- after so many rules: their lines are on the page, up to a place, and the text's lines from a place on are those of the rules left
pub record Listing (text page₀ page : Bytes) (number from at : ℕ) : Type 0 where
  pub done : List Rule
  pub left : List Rule
  pub split : (pack_of text).rules ≡ done ++ left
  pub many : number ≡ length done
  pub rest : lines_of (drop from text) ≡ lines_for left
  pub puts : Puts (sheet done) page₀ page at
  pub place : at ≡ 65 * number

pub listing_begin : {text page : Bytes} {rules from : ℕ} → Ready text rules page → RulesBegin text from → Listing text page page 0 from 0
unfolding sheet sheet_lines text_of from_rules
listing_begin {text} {page} ready begins =
    let accepted = accepted_pack text ready.accepted in
    record {
      done = [];
      left = (pack_of text).rules;
      split = refl;
      many = refl;
      rest = begins.tells (pack_of text) (ap lines_of accepted.is_written ∙ lines_again (pack_of text) (fits_spelled (pack_of text) accepted.fits));
      puts = puts_same page 0 (omega arith);
      place = refl;
    }

-- the page stays as long as it was
pub page_size : {text page₀ page : Bytes} {rules number from at : ℕ} → Ready text rules page₀ → Listing text page₀ page number from at → length page ≡ length page₀
page_size ready listing =
    puts_size listing.puts (omega (arith, listing.place, ready.room, ready.counted, ap length listing.split, length-append listing.done listing.left, listing.many))

-- the next rule of those left, and the ones after it
record Next (text : Bytes) (number from : ℕ) (done left : List Rule) : Type 0 where
  rule : Rule
  others : List Rule
  are : left ≡ rule ∷ others
  fits : FitsColumns (number + 1) (rule_entry rule)
  stands : StandsRule text from rule (lines_for others)

module _ {text page₀ page : Bytes} {rules number from at : ℕ} (ready : Ready text rules page₀) (listing : Listing text page₀ page number from at) (less : number < rules) where
  next : Next text number from listing.done listing.left
  next = go listing.left refl
    where
      go : (left : List Rule) → listing.left ≡ left → Next text number from listing.done listing.left
      go [] e = absurd (omega (arith, ap length (listing.split ∙ ap (λ (l : List Rule). listing.done ++ l) e ∙ append-nil listing.done), listing.many, ready.counted))
      go (r ∷ rs) e =
          let fits = (accepted_pack text ready.accepted).fits in
          let split = listing.split ∙ ap (λ (l : List Rule). listing.done ++ l) e in
          let named = (fits.formed.rules r (split_member listing.done rs r split)).head.named in
          record {
            rule = r;
            others = rs;
            are = e;
            fits = rw listing.many (rule_fits_columns (pack_of text) fits listing.done rs r split);
            stands = stands_rule text from r rs (listing.rest ∙ ap lines_for e) named;
          }

  pub rule_stands : StandsSomeRule text from
  rule_stands = (next.rule, lines_for next.others, next.stands)

  -- the page has room for one line more
  line_room : at + 65 ≤ length page
  line_room = omega (arith, listing.place, ready.room, page_size ready listing)

  pub line_start : at ≤ length page
  line_start = omega (arith, line_room)

  pub line_lent : 65 ≤ length (mid_of at (length page - at) page)
  line_lent = omega (arith, line_room, mid_len at (length page) page (omega arith))

  module _ {found : RuleLines} (is : RuleFound text from found) where
    tells : FoundRule text from found next.rule (lines_for next.others)
    tells = is.tells next.rule (lines_for next.others) next.stands

    -- what was found fits the columns
    pub found_fits : FitsColumns (number + 1) (entry (part text (from + 2) found.name_end) found.subgoals found.multiplier_lines)
    found_fits = rw (tells.name, tells.subgoals, tells.multipliers) next.fits

    -- its line is written after those of the rules before it, and the place is handed on
    module _ {part₁ : Bytes} {q : ℕ} (laid : Puts (sheet_line (number + 1) (entry (part text (from + 2) found.name_end) found.subgoals found.multiplier_lines) ++ (10 ∷ [])) (mid_of at (length page - at) page) part₁ q) where
      l : Bytes
      l = sheet_line (number + 1) (rule_entry next.rule) ++ (10 ∷ [])

      is_laid : Puts l (mid_of at (length page - at) page) part₁ q
      unfolding l
      is_laid = rw (tells.name, tells.subgoals, tells.multipliers) at laid

      size : q ≡ 65
      unfolding l
      size = is_laid.many ∙ omega (arith, length_end (sheet_line (number + 1) (rule_entry next.rule)) 10, line_length (number + 1) (rule_entry next.rule) next.fits)

      pub place_fits : Fits w64 (at + q)
      place_fits = omega (arith, size, listing.place, ready.counted, (accepted_pack text ready.accepted).fits.counts.rules)

      pub listing_more : Listing text page₀ (put_mid at (length page - at) page part₁) (number + 1) found.after (at + q)
      unfolding l
      listing_more =
          let r = next.rule in
          record {
            done = ending r listing.done;
            left = next.others;
            split = listing.split ∙ ap (λ (rs : List Rule). listing.done ++ rs) next.are ∙ sym (append_assoc listing.done (r ∷ []) next.others);
            many = omega (arith, listing.many, length_end listing.done r);
            rest = tells.after;
            puts = rw (sheet_end listing.done r (number + 1) (omega (arith, listing.many))) (puts_more listing.puts l (puts_part line_start is_laid));
            place = omega (arith, listing.place, size);
          }

-- all rules are written
pub listing_end : {text page₀ page : Bytes} {rules number from at : ℕ} → Ready text rules page₀ → Listing text page₀ page number from at → rules ≤ number → page ≡ over (sheet (pack_of text).rules) page₀
listing_end {text} {page₀} {page} {number} ready listing all =
    let none : listing.left ≡ [] = drop_of_length-le listing.left {i = 0} (omega (arith, ap length listing.split, length-append listing.done listing.left, listing.many, ready.counted)) in
    let whole : (pack_of text).rules ≡ listing.done = listing.split ∙ ap (λ (rules : List Rule). listing.done ++ rules) none ∙ append-nil listing.done in
    rw whole (puts_over listing.puts)
