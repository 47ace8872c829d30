-- Between two fields of a line, and between two lines: what has been read, and what is left to read.
use Rattle.std.specs.Prelude.{◌≡◌, List, [], ℕ, ◌+◌, ◌≤◌, ℤ, pos, nat_abs, length, get_or, drop, Result, Ok, Err}
use Rattle.theory.specs.declared.Letter.{Letter}
use Rattle.theory.specs.Text.{Bytes, fields_of, lines_of}
use Rattle.theory.specs.Written.{Written, write_all, multipliers_from}
use Rattle.theory.specs.Faults.{Manner, residual_due}
use Rattle.theory.specs.Check.{judge}
use Rattle.text.specs.Scans.{parts_from}
use Rattle.forms.specs.declared.Form.{Form}
use Rattle.tables.specs.declared.State.{State}
use Rattle.tables.specs.declared.Fault.{Fault}
use Rattle.tables.specs.declared.Fault.TheVariants.{Unjustified}
use Rattle.tables.specs.declared.Opened.{Opened}
use Rattle.tables.specs.Sorts.{Sort, declaring, numbering, stating, following, multiplying, ending, none, sort_of}
use Rattle.tables.specs.Tables.{Tables, Holds, SafeRows, NoWeights, Safe}
use Rattle.tables.specs.Lines.{Passed, ClosedFor}
use Rattle.residuals.specs.Sums.{width, Summable, SumsTo, form_numbers}
use Rattle.certificates.specs.Multipliers.{ProgressM}
use Rattle.lines.specs.declared.Room.{Room}
use Rattle.lines.specs.Steps.{Progress}

-- what the fields of a line may write to
pub record SafeRoom (x : Room) : Type 0 where
  pub row_small : (i : ℕ) → nat_abs (get_or x.row i (pos 0)) ≤ 9999
  pub variables_size : length x.variables ≡ 32
  pub rows_size : length x.rows ≡ 1224
  pub rows : SafeRows x.rows

-- what is untouched while the fields of a line are read, of the rule's tables and of the weights
abbrev pub Untouched : Sort → Tables → Room → Type 0
Untouched declaring t x = (x.variables ≡ t.variables) × (x.rows ≡ t.rows) × NoWeights x.weights
Untouched numbering t x = (x.variables ≡ t.variables) × (x.rows ≡ t.rows) × NoWeights x.weights
Untouched stating t x = NoWeights x.weights
Untouched following t x = NoWeights x.weights
Untouched multiplying t x = (x.variables ≡ t.variables) × (x.rows ≡ t.rows)
Untouched ending t x = (x.variables ≡ t.variables) × (x.rows ≡ t.rows) × NoWeights x.weights
Untouched none t x = NoWeights x.weights

-- the weights that the fields of a line of multipliers have left so far
abbrev pub Weighed : Sort → List Bytes → ℕ → Tables → Room → Type 0
Weighed declaring fs index t x = Unit {0}
Weighed numbering fs index t x = Unit {0}
Weighed stating fs index t x = Unit {0}
Weighed following fs index t x = Unit {0}
Weighed multiplying fs index t x = ProgressM fs index t.claims t.slots x.weights
Weighed ending fs index t x = Unit {0}
Weighed none fs index t x = Unit {0}

-- the first fields of a line are read, and those from a place on are left; the tables were t at the line's beginning
pub record FieldsRead (letter : Letter) (line : Bytes) (t : Tables) (s : State) (o : Opened) (many from index : ℕ) (x : Room) : Type 0 where
  pub rest : parts_from 44 line from ≡ drop index (parts_from 44 line o.from)
  pub low : index ≤ from
  pub count : index + length (parts_from 44 line from) ≡ length (parts_from 44 line o.from)
  pub high : many ≤ 17
  pub room : SafeRoom x
  pub slots : x.slots ≡ t.slots
  pub untouched : Untouched (sort_of letter) t x
  pub weighed : Weighed (sort_of letter) (parts_from 44 line o.from) index t x
  pub tells : {manner : Manner} (w : Written) → Holds t s w → Passed manner letter line s w o → Progress (sort_of letter) line w s t index many x

-- the residual of an unjustified claim can be taken by the weights that are left
pub record ResidualLeft (line : Bytes) (w : Written) (s : State) (weights : List ℤ) (rows : List ℕ) : Type 0 where
  pub ruled : w.pack.rules ≡ [] → ⊥
  pub sum : (form : Form) → length form.coefficients ≡ 16 → SumsTo weights rows (width s.variables) (s.subgoals + 1) form → form_numbers form ≡ residual_due w.pack (multipliers_from (fields_of line))

-- a line that is judged: where it passes, the tables after it; where its claim is not justified, the weights. They can be summed either way.
pub record LineJudged (manner : Manner) (line : Bytes) (s : State) (t₀ : Tables) (r : Result State Fault) (t : Tables) (weights : List ℤ) : Type 0 where
  pub safe : (next : State) → r ≡ Ok next → Safe t next × NoWeights weights
  pub summable : Summable weights t.rows
  pub tells : (w : Written) → Holds t₀ s w → ClosedFor manner line w r t
  pub left : (w : Written) → Holds t₀ s w → r ≡ Err Unjustified → ResidualLeft line w s weights t.rows

-- lines that have passed, from the state `start` and the tables t₀ on, where lines that write w₀ stand before them
pub record Reached (manner : Manner) (text : Bytes) (w₀ : Written) (s : State) (t : Tables) (line at : ℕ) : Type 0 where
  pub w : Written
  pub holds : Holds t s w
  pub judged : judge manner w₀ 0 (lines_of text) ≡ judge manner w line (lines_of (drop at text))
  pub written : write_all w₀ (lines_of text) ≡ write_all w (lines_of (drop at text))
  pub counted : line + length (lines_of (drop at text)) ≡ length (lines_of text)

-- the first lines are read and have passed, and those from a place on are left
pub record LinesRead (manner : Manner) (text : Bytes) (start : State) (t₀ : Tables) (s : State) (t : Tables) (weights : List ℤ) (line at : ℕ) : Type 0 where
  pub within : at ≤ length text + 1
  pub few : line ≤ at
  pub all : line ≤ length text
  pub safe : Safe t s
  pub clear : NoWeights weights
  pub tells : (w₀ : Written) → Holds t₀ start w₀ → Reached manner text w₀ s t line at
