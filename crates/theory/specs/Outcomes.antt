-- Demand 1, for check: what each of its answers says of the text, of its lines and of the area, in words.
use Rattle.std.specs.Prelude.{◌≡◌, true, false, List, [], ◌∷◌, ◌++◌, ℕ, ◌+◌, ◌-◌, ◌≤◌, ◌<◌, ℤ, pos, length, get_or, drop, ◌<ℤ◌}
use Rattle.theory.specs.Lists.{◌∈◌}
use Rattle.theory.specs.Text.{Bytes, lines_of}
use Rattle.theory.specs.Packs.{Rule, Pack, measure_in, text_limit, no_claim, atom_key, claims_on, multiplier_line, line as line_of}
use Rattle.theory.specs.Written.{Written, nothing, write, write_all, pack_of}
use Rattle.theory.specs.Residuals.{area_needed, residual, rule_variables, residual_numbers}
use Rattle.theory.specs.Faults.{Manner, whole, fault, last_rule}
use Rattle.theory.specs.Check.{numbers, multiplier_lines, is_finished, verdict_of, Checked, checked}
use Rattle.theory.specs.Limits.{MultipliersFit}

-- no line of these has a fault, judged in some manner after lines that write w
abbrev pub AllFine : Manner → Written → List Bytes → Type 0
AllFine m w [] = Unit {0}
AllFine m w (l ∷ ls) = (fault m w l ≡ 0) × AllFine m (write w l) ls

-- the area and the whole text pass their tests, so the lines are judged
pub record Judged (text : Bytes) (area : List ℤ) : Type 0 where
  pub room : area_needed ≤ length area
  pub short : length text ≤ text_limit
  pub finished : is_finished text ≡ true

-- The limit on the text as a plain number: up to there its last byte is asked for, and past it nothing else.
pub record TextLengthTold : Type 0 where
  pub short : (text : Bytes) → length text ≤ 32768 → is_finished text ≡ false → (verdict_of text).returned ≡ numbers 3 0 0 0
  pub long : (text : Bytes) → 32768 < length text → (verdict_of text).returned ≡ numbers 2 0 0 0

-- The first faulty line, counted from 1, with the number of its fault.
pub record FirstFault (text : Bytes) (number line : ℕ) : Type 0 where
  pub before : List Bytes
  pub faulty : Bytes
  pub after : List Bytes
  pub are : lines_of text ≡ before ++ faulty ∷ after
  pub place : line ≡ length before + 1
  pub fine : AllFine whole nothing before
  pub has : fault whole (write_all nothing before) faulty ≡ number
  pub is_fault : number ≡ 0 → ⊥

-- the pack that the lines before it write
abbrev pub pack_before : {text : Bytes} {number line : ℕ} → FirstFault text number line → Pack
pack_before first = (write_all nothing first.before).pack

-- the numbers that the residual of the claim numbered so, from 1, on a rule's head has with some multipliers
abbrev pub residual_for : Pack → Rule → ℕ → List ℕ → List ℤ
residual_for p r claim ms = residual_numbers (rule_variables r.head r.subgoals) (residual (measure_in p) p.claims r.head r.subgoals (get_or (claims_on (atom_key r.head) p.claims) (claim - 1) no_claim) ms)

-- An unjustified claim: the first fault is a 13, on a line of multipliers of this rule, the last one so far, for this claim on its
-- head, the one that is due there; rules and claims are counted from 1. The multipliers fit, and a number of the residual is below 0.
pub record Unjustified (text : Bytes) (line rule claim : ℕ) (residue : List ℤ) : Type 0 where
  pub first : FirstFault text 13 line
  pub is_rule : rule ≡ length (pack_before first).rules
  pub is_due : claim ≡ length (last_rule (pack_before first)).multipliers + 1
  pub high : claim ≤ length (claims_on (atom_key (last_rule (pack_before first)).head) (pack_before first).claims)
  pub multipliers : List ℕ
  pub is_line : first.faulty ≡ line_of (multiplier_line multipliers)
  pub fit : MultipliersFit (pack_before first).claims (last_rule (pack_before first)).subgoals multipliers
  pub is_residual : residue ≡ residual_for (pack_before first) (last_rule (pack_before first)) claim multipliers
  pub negative : (z : ℤ) × (z ∈ residue) × (z <ℤ pos 0)

-- What check may answer, and when. The area at exit is the one at entry but in the last case.
pub data Outcome (text : Bytes) (area : List ℤ) : Checked → Type 0 where
  accepted : Judged text area → AllFine whole nothing (lines_of text) → (write_all nothing (lines_of text)).ended ≡ true
      → Outcome text area (checked (numbers 0 (length (lines_of text)) (length (pack_of text).rules) (multiplier_lines (pack_of text).rules)) area)
  short_area : length area < area_needed → Outcome text area (checked (numbers 1 0 0 0) area)
  long_text : area_needed ≤ length area → text_limit < length text → Outcome text area (checked (numbers 2 0 0 0) area)
  unfinished : area_needed ≤ length area → length text ≤ text_limit → is_finished text ≡ false → Outcome text area (checked (numbers 3 0 0 0) area)
  no_end : Judged text area → AllFine whole nothing (lines_of text) → (write_all nothing (lines_of text)).ended ≡ false → Outcome text area (checked (numbers 6 0 0 0) area)
  faulty : {n line : ℕ} → Judged text area → FirstFault text n line → (n ≡ 13 → ⊥) → Outcome text area (checked (numbers n line 0 0) area)
  unjustified : {line rule claim : ℕ} {residue : List ℤ} → Judged text area → Unjustified text line rule claim residue
      → Outcome text area (checked (numbers 13 line rule claim) (residue ++ drop area_needed area))
