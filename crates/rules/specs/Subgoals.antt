-- The fields of a `B` line: what those read so far have left.
use Rattle.std.specs.Prelude.{◌≡◌, true, List, ℕ, suc, ◌<◌, drop}
use Rattle.theory.specs.Text.{Bytes, fields_of}
use Rattle.theory.specs.Packs.{measure_in}
use Rattle.theory.specs.Written.{Written}
use Rattle.theory.specs.Residuals.{rule_variables}
use Rattle.theory.specs.Faults.{is_term, last_rule}
use Rattle.words.specs.declared.Words.{Words}
use Rattle.tables.specs.declared.State.{State}
use Rattle.tables.specs.Tables.{Tables}
use Rattle.tables.specs.Lines.{at}
use Rattle.atoms.specs.Fields.{ProgressTerms}

-- the terms of a subgoal, after the rule's variables so far, where the tables were t at the line's beginning; of a ninth subgoal, which is refused when its line is done, only that they are terms
pub record ProgressSubgoal (line : Bytes) (w : Written) (s : State) (t : Tables) (index many : ℕ) (variables : List Words) (rows : List ℕ) : Type 0 where
  pub terms : s.subgoals < 8 → ProgressTerms (measure_in w.pack) (suc s.subgoals) (rule_variables (last_rule w.pack).head (last_rule w.pack).subgoals) (drop 2 (fields_of line)) index many variables t.rows rows
  pub good : (i : ℕ) → i < index → is_term (at (drop 2 (fields_of line)) i) ≡ true
