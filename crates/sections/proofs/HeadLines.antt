-- The line of a rule's head, the place of its name, and the lines of the rule after it.
use mathlib.Core.Path.{◌≡◌, refl, sym, ◌∙◌, ap}
use mathlib.Core.Bool.{true}
use mathlib.Core.List.{List, [], ◌∷◌, ◌++◌, map, append-nil, cons≢nil, head-eq_of_cons-eq, tail-eq_of_cons-eq}
use Prim.Native.Nat.{ℕ, ◌+◌, ◌-◌, ◌≤◌, ◌<◌}
use native.Mathlib.Decide.{dec_lt}
use native.Mathlib.Omega.{arith}
use lib.ListN.{length, drop}
use Rattle.theory.specs.Text.{Bytes, bytes, joined, is_name, lines_of, parts_at}
use Rattle.theory.specs.Packs.{Atom, Rule, line, term_fields, head_line, subgoal_line, multiplier_line, rule_lines}
use Rattle.theory.proofs.Reading.Bytes.{is_field_byte}
use Rattle.theory.proofs.Reading.Separators.{free_from, first_part}
use Rattle.theory.proofs.Reading.PlainFields.{name_plain}
use Rattle.text.specs.Scans.{part, Finds}
use Rattle.text.proofs.Parts.{part_length, part_inside}
use Rattle.text.proofs.Cuts.{lines_done, lines_step, parts_more, parts_step}
use Rattle.sections.specs.declared.Run.{Run}
use Rattle.sections.specs.Sections.{LinesOfLetter, StandsRule, StandsSomeRule, FoundRule, RuleFound}
use Rattle.sections.proofs.SectionLines.{subgoal_letter, multiplier_letter, walk_none, run_count, run_past}

-- ---- the name in the head's line

-- the bytes after the letter and its comma
head_rest : Atom → Bytes
head_rest a = joined 44 (a.name ∷ term_fields a.terms)

head_line_lem : (a : Atom) → line (head_line a) ≡ 72 ∷ 44 ∷ head_rest a
unfolding head_rest head_line joined bytes
head_line_lem a = refl

name_found : (a : Atom) (k : ℕ) → is_name a.name ≡ true → Finds (line (head_line a)) 44 2 k → part (line (head_line a)) 2 k ≡ a.name
unfolding head_rest
name_found a k named found =
    let l = line (head_line a) in
    let long : 2 ≤ length l = omega (arith, ap length (head_line_lem a)) in
    let name = first_part 44 a.name (term_fields a.terms) (free_from is_field_byte 44 refl a.name (name_plain a.name named)) in
    head-eq_of_cons-eq (sym (parts_step 44 l 2 k long found) ∙ parts_more 44 l 2 long ∙ ap (λ (bs : Bytes). parts_at 44 (drop 2 bs)) (head_line_lem a) ∙ name.1)

-- ---- the rule at a place

module _ (text : Bytes) (at : ℕ) where
  module _ (r : Rule) (rest : List Bytes) (stands : StandsRule text at r rest) where
    others : List Bytes
    others = map line (map subgoal_line r.subgoals ++ map multiplier_line r.multipliers) ++ rest

    rule_lines_lem : lines_of (drop at text) ≡ line (head_line r.head) ∷ others
    unfolding others rule_lines
    rule_lines_lem = stands.stands

    rule_inside : at < length text
    rule_inside = by (dec_lt at (length text))
      where
        by : Dec (at < length text) → at < length text
        by (yes h) = h
        by (no past) = absurd (cons≢nil (sym rule_lines_lem ∙ lines_done text at (omega arith)))

    module _ {end : ℕ} (ends : Finds text 10 at end) where
      cut : part text at end ∷ lines_of (drop (end + 1) text) ≡ line (head_line r.head) ∷ others
      cut = sym (lines_step text at end rule_inside ends) ∙ rule_lines_lem

      head_is : part text at end ≡ line (head_line r.head)
      head_is = head-eq_of_cons-eq cut

      head_long : 2 ≤ length (part text at end)
      head_long = omega (arith, ap length (head_is ∙ head_line_lem r.head))

      rule_found : {k : ℕ} {subgoals multipliers : Run} → Finds (part text at end) 44 2 k → LinesOfLetter text 66 (end + 1) subgoals → LinesOfLetter text 77 subgoals.after multipliers
          → FoundRule text at (record { name_end = at + k; subgoals = subgoals.lines; multiplier_lines = multipliers.lines; after = multipliers.after }) r rest
      unfolding others
      rule_found {k} {subgoals} {multipliers} named first second =
          let written = map multiplier_line r.multipliers in
          let nil : written ++ [] ≡ written = append-nil written in
          let no_subgoal = rw nil at (walk_none 77 multiplier_line multiplier_letter [] rest 66 refl stands.no_subgoal r.multipliers) in
          let after = tail-eq_of_cons-eq cut in
          let left = rw (← nil) at (run_past 66 subgoal_line subgoal_letter written rest first no_subgoal r.subgoals after) in
          record {
            name = part_inside text at end 2 k ends.low named.low named.high ∙ ap (λ (l : Bytes). part l 2 k) head_is ∙ name_found r.head k stands.named (rw head_is at named);
            subgoals = run_count 66 subgoal_line subgoal_letter written rest first no_subgoal r.subgoals after;
            multipliers = run_count 77 multiplier_line multiplier_letter [] rest second stands.no_multipliers r.multipliers left;
            after = run_past 77 multiplier_line multiplier_letter [] rest second stands.no_multipliers r.multipliers left;
          }

  module _ (some : StandsSomeRule text at) where
    pub some_inside : at ≤ length text
    some_inside = omega (arith, rule_inside some.0 some.1 some.2)

    pub some_long : {end : ℕ} → Finds text 10 at end → 2 ≤ length (part text at end)
    some_long = head_long some.0 some.1 some.2

  pub lines_found : {end k : ℕ} {subgoals multipliers : Run} → Finds text 10 at end → Finds (part text at end) 44 2 k → LinesOfLetter text 66 (end + 1) subgoals → LinesOfLetter text 77 subgoals.after multipliers
      → RuleFound text at (record { name_end = at + k; subgoals = subgoals.lines; multiplier_lines = multipliers.lines; after = multipliers.after })
  lines_found {end} {k} ends named first second =
      record {
        low = omega (arith, named.low);
        high = omega (arith, named.high, ends.low, ends.high, part_length text at (end - at) end refl ends.high);
        tells = λ r rest stands. rule_found r rest stands ends named first second;
      }
