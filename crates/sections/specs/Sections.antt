-- Lines found by their first bytes, in a text whose lines are those of a pack.
use Rattle.std.specs.Prelude.{◌≡◌, Bool, true, false, cond, List, [], ◌∷◌, ◌++◌, map, ℕ, ◌+◌, ◌≤◌, eqb, length, drop}
use Rattle.theory.specs.Text.{Bytes, is_name, lines_of}
use Rattle.theory.specs.Packs.{Rule, Pack, line, from_rules, rule_lines, end_line, pack_lines}
use Rattle.text.specs.Scans.{part}
use Rattle.sections.specs.declared.Run.{Run}
use Rattle.sections.specs.declared.RuleLines.{RuleLines}

unfoldable pub begins : ℕ → Bytes → Bool
begins letter [] = false
begins letter (b ∷ bs) = eqb b letter

-- the first lines that begin with a letter, and the lines after them
unfoldable pub leading : ℕ → List Bytes → List Bytes
leading letter [] = []
leading letter (l ∷ ls) = cond (begins letter l) (l ∷ leading letter ls) []

unfoldable pub past : ℕ → List Bytes → List Bytes
past letter [] = []
past letter (l ∷ ls) = cond (begins letter l) (past letter ls) (l ∷ ls)

pub record LinesOfLetter (text : Bytes) (letter from : ℕ) (r : Run) : Type 0 where
  pub many : r.lines ≡ length (leading letter (lines_of (drop from text)))
  pub rest : lines_of (drop r.after text) ≡ past letter (lines_of (drop from text))

-- the lines from r on are those of the rules and the end
pub record RulesBegin (text : Bytes) (r : ℕ) : Type 0 where
  pub tells : (p : Pack) → lines_of text ≡ pack_lines p → lines_of (drop r text) ≡ map line (from_rules p ++ (end_line ∷ []))

-- a rule's lines stand at a place, and after them neither a subgoal nor an `M` line
pub record StandsRule (text : Bytes) (at : ℕ) (r : Rule) (rest : List Bytes) : Type 0 where
  pub stands : lines_of (drop at text) ≡ map line (rule_lines r) ++ rest
  pub named : is_name r.head.name ≡ true
  pub no_subgoal : leading 66 rest ≡ []
  pub no_multipliers : leading 77 rest ≡ []

abbrev pub StandsSomeRule : Bytes → ℕ → Type 0
StandsSomeRule text at = (r : Rule) × (rest : List Bytes) × StandsRule text at r rest

-- the head's name, both counts, and the lines after the rule's
pub record FoundRule (text : Bytes) (at : ℕ) (found : RuleLines) (r : Rule) (rest : List Bytes) : Type 0 where
  pub name : part text (at + 2) found.name_end ≡ r.head.name
  pub subgoals : found.subgoals ≡ length r.subgoals
  pub multipliers : found.multiplier_lines ≡ length r.multipliers
  pub after : lines_of (drop found.after text) ≡ rest

pub record RuleFound (text : Bytes) (at : ℕ) (found : RuleLines) : Type 0 where
  pub low : at + 2 ≤ found.name_end
  pub high : found.name_end ≤ length text
  pub tells : (r : Rule) (rest : List Bytes) → StandsRule text at r rest → FoundRule text at found r rest
