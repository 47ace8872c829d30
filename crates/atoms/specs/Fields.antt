-- The fields of lines that state an atom: whether each is a term, and the row that it leaves; and what those read so far have left.
use Rattle.std.specs.Prelude.{◌≡◌, true, cond, List, ℕ, suc, ◌≤◌, ◌<◌, ltb, length, get_or, take, Result, Ok, Err}
use Rattle.words.specs.declared.Words.{Words}
use Rattle.tables.specs.declared.Fault.{Fault}
use Rattle.theory.specs.declared.Letter.{Letter}
use Rattle.theory.specs.declared.Letter.TheVariants.{P, C, G, H, B, M, E, NoLetter}
use Rattle.theory.specs.Text.{Bytes}
use Rattle.theory.specs.Terms.{all_variables}
use Rattle.theory.specs.Sizes.{Measure}
use Rattle.theory.specs.Written.{terms_from}
use Rattle.theory.specs.Residuals.{numbered}
use Rattle.theory.specs.Faults.{is_term}
use Rattle.terms.specs.Rows.{Holds as HoldsVariables}
use Rattle.terms.specs.TermForms.{RowStands, FormTaken}
use Rattle.tables.specs.declared.Fault.TheVariants.{NoTerm}
use Rattle.tables.specs.Tables.{row_place, SafeRows, argument}
use Rattle.tables.specs.Lines.{at}

-- which atom of the rule the next subgoal is, or the eighth one's rows for a ninth
unfoldable pub subgoal_atom : ℕ → ℕ
subgoal_atom subgoals = cond (ltb subgoals 8) (suc subgoals) 8

-- which atom a line states
abbrev pub atom_of : Letter → ℕ → ℕ
atom_of P subgoals = 0
atom_of C subgoals = 0
atom_of G subgoals = 0
atom_of H subgoals = 0
atom_of B subgoals = subgoal_atom subgoals
atom_of M subgoals = 0
atom_of E subgoals = 0
atom_of NoLetter subgoals = 0

-- a term, its form by a measure into the row of an atom's argument
pub record FieldTerm (m : Measure) (atom index : ℕ) (field : Bytes) (many : ℕ) (names₀ : List Words) (rows₀ : List ℕ) (r : Result ℕ Fault) (names : List Words) (rows : List ℕ) : Type 0 where
  pub known : ℕ
  pub answer : r ≡ cond (is_term field) (Ok known) (Err NoTerm)
  pub form : is_term field ≡ true → FormTaken m field names₀ many rows₀ (row_place atom index) known names rows
  pub sizes : (length names ≡ length names₀) × (length rows ≡ length rows₀)
  pub high : known ≤ 17
  pub small : SafeRows rows₀ → SafeRows rows

-- ## The first fields

-- the variables after those seen, with the first terms read
abbrev pub known : List Bytes → List Bytes → ℕ → List Bytes
known seen fs index = numbered seen (all_variables (terms_from (take index fs)))

-- the terms of an atom's line, after variables that were seen; rows₀ at the line's beginning
pub record ProgressTerms (m : Measure) (atom : ℕ) (seen fs : List Bytes) (index many : ℕ) (variables : List Words) (rows₀ rows : List ℕ) : Type 0 where
  pub good : (i : ℕ) → i < index → is_term (at fs i) ≡ true
  pub few : length (known seen fs index) ≤ 16 → many ≡ length (known seen fs index)
  pub many_more : 16 < length (known seen fs index) → many ≡ 17
  pub holds : many ≤ 16 → HoldsVariables variables (known seen fs index)
  pub row : many ≤ 16 → (k : ℕ) → k < index → RowStands m rows (row_place atom k) (known seen fs index) (argument (terms_from fs) k)
  pub before : (i : ℕ) → i < row_place atom 0 → get_or rows i 0 ≡ get_or rows₀ i 0
