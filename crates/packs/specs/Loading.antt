-- What loading a text leaves: its verdict, and the tables that stand for its pack; and the area.
use Rattle.std.specs.Prelude.{◌≡◌, true, false, List, [], ◌++◌, ℕ, ◌+◌, length, drop, replicate, ℤ, pos, Some, None, Result, Ok, Err}
use Rattle.theory.specs.declared.Counts.{Counts}
use Rattle.theory.specs.declared.Refusal.{Refusal}
use Rattle.theory.specs.declared.Refusal.TheVariants.{NoEnd}
use Rattle.theory.specs.Text.{Bytes, lines_of}
use Rattle.theory.specs.Written.{nothing, write_all}
use Rattle.theory.specs.Check.{numbers, verdict_of}
use Rattle.theory.specs.Answers.{numbers_of}
use Rattle.forms.specs.declared.Form.{Form}
use Rattle.tables.specs.declared.State.{State}
use Rattle.tables.specs.declared.Tables.{Tables as Lasting}
use Rattle.tables.specs.declared.Fault.{Fault}
use Rattle.tables.specs.Tables.{Tables, no_signature}
use Rattle.residuals.specs.Sums.{form_numbers}
use Rattle.lines.specs.Steps.{lasting}
use Rattle.lines.specs.LineLoading.{fault_numbers, unruled, HoldsWith}
use Rattle.packs.specs.declared.Loaded.{Loaded}

-- the state before any line
abbrev pub begun : State
begun = record { predicates = 0; claimed = false; rules = 0; multiplier_lines = 0; head = 0; subgoals = 0; variables = 0; slots = 0; multipliers = 0; shipped = 0; owing = 0; headed = 0; ended = false }

-- the tables before any line: zeros
abbrev pub fresh : Tables
fresh = unruled (lasting (replicate 32 no_signature) (replicate 4608 (pos 0)))

-- the area with its first 17 numbers replaced
pub record Laid (area₀ : List ℤ) (form : Form) (area : List ℤ) : Type 0 where
  pub long : length form.coefficients ≡ 16
  pub is : area ≡ form_numbers form ++ drop 17 area₀

-- the verdict by how the lines of a text of at least one end
pub record Judges (ending : Result (Unit {0}) Fault) (line : ℕ) (s : State) (r : Result Counts Refusal) : Type 0 where
  pub refused : (f : Fault) → ending ≡ Err f → numbers_of r ≡ fault_numbers f line s.rules (s.multipliers + 1)
  pub unended : ending ≡ Ok tt → s.ended ≡ false → r ≡ Err NoEnd
  pub accepted : ending ≡ Ok tt → s.ended ≡ true → numbers_of r ≡ numbers 0 line s.rules s.multiplier_lines

-- a text that is judged: the verdict; where it is 13, the residual; where it is accepted, the pack in the tables
pub record Loads (text : Bytes) (r : Loaded) (t : Lasting) : Type 0 where
  pub answer : numbers_of r.verdict ≡ (verdict_of text).returned
  pub residue : (form : Form) → r.residual ≡ Some form → length form.coefficients ≡ 16 → (verdict_of text).residue ≡ form_numbers form
  pub none : r.residual ≡ None → (verdict_of text).residue ≡ []
  pub holds : (numbers_of r.verdict).number ≡ 0 → HoldsWith t r.state (write_all nothing (lines_of text))
