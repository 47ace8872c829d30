-- What loading lines leaves: how they end, and the tables that stand for what they write.
use Rattle.std.specs.Prelude.{◌≡◌, cond, List, [], ℕ, ◌+◌, ◌≤◌, eqb, length, replicate, Some, None, Ok, Err}
use Rattle.theory.specs.Text.{Bytes, lines_of}
use Rattle.theory.specs.Written.{Written, write_all}
use Rattle.theory.specs.Faults.{Manner}
use Rattle.theory.specs.Check.{Numbers, numbers, judge}
use Rattle.forms.specs.declared.Form.{Form}
use Rattle.words.specs.declared.Words.{Words}
use Rattle.tables.specs.declared.Slot.{Slot}
use Rattle.tables.specs.declared.State.{State}
use Rattle.tables.specs.Faults.{number_of}
use Rattle.tables.specs.declared.Tables.{Tables as Lasting}
use Rattle.tables.specs.declared.Fault.{Fault}
use Rattle.tables.specs.declared.Fault.TheVariants.{Unjustified}
use Rattle.tables.specs.Tables.{no_slot, Tables, tables, Holds, SafeState, Safe}
use Rattle.residuals.specs.Sums.{form_numbers}
use Rattle.lines.specs.Steps.{no_words}
use Rattle.lines.specs.declared.LoadedLines.{LoadedLines}

-- the numbers of a line's fault, with the rule and the claim where it is 13
abbrev pub fault_numbers : Fault → ℕ → ℕ → ℕ → Numbers
fault_numbers f line rule claim = cond (eqb (number_of f) 13) (numbers 13 line rule claim) (numbers (number_of f) line 0 0)

-- the tables before any rule: those of a rule are zeros
abbrev pub unruled : Lasting → Tables
unruled t = tables t.signatures t.claims (replicate 32 no_words) (replicate 1224 0) (replicate 128 no_slot)

-- the tables hold what lines write, with some tables of the last rule
pub record HoldsWith (t : Lasting) (s : State) (w : Written) : Type 0 where
  pub variables : List Words
  pub rows : List ℕ
  pub slots : List Slot
  pub safe : Safe (tables t.signatures t.claims variables rows slots) s
  pub holds : Holds (tables t.signatures t.claims variables rows slots) s w

-- lines that are judged in some manner after lines that write w. Where one is refused, there is a residual exactly if its claim is not justified.
pub record LinesLoadedFor (manner : Manner) (text : Bytes) (w : Written) (r : LoadedLines) (t : Lasting) : Type 0 where
  pub refused : (f : Fault) → r.ending ≡ Err f → (judge manner w 0 (lines_of text)).returned ≡ fault_numbers f r.line r.state.rules (r.state.multipliers + 1)
  pub residue : (form : Form) → r.residual ≡ Some form → length form.coefficients ≡ 16 → (judge manner w 0 (lines_of text)).residue ≡ form_numbers form
  pub none : (f : Fault) → r.ending ≡ Err f → r.residual ≡ None → (judge manner w 0 (lines_of text)).residue ≡ []
  pub lines : r.ending ≡ Ok tt → r.line ≡ length (lines_of text)
  pub passed : r.ending ≡ Ok tt → judge manner w 0 (lines_of text) ≡ judge manner (write_all w (lines_of text)) r.line []
  pub holds : r.ending ≡ Ok tt → HoldsWith t r.state (write_all w (lines_of text))

pub record LoadsLines (manner : Manner) (text : Bytes) (start : State) (t₀ : Tables) (r : LoadedLines) (t : Lasting) : Type 0 where
  pub state : SafeState r.state
  pub few : r.line ≤ length text
  pub plain : r.ending ≡ Ok tt → r.residual ≡ None
  -- a residual is there exactly where the fault is a claim that is not justified
  pub only : (f : Fault) → r.ending ≡ Err f → (form : Form) → r.residual ≡ Some form → f ≡ Unjustified
  pub left : r.ending ≡ Err Unjustified → r.residual ≡ None → ⊥
  pub tells : (w : Written) → Holds t₀ start w → LinesLoadedFor manner text w r t
