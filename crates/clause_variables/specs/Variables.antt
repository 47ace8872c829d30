-- The variables of a clause as numbers: a table of the named ones, and how often `_` stands.
use Rattle.std.specs.Prelude.{◌≡◌, false, leb, List, [], ◌∷◌, ◌++◌, ℕ, ◌+◌, ◌<◌, length, Option, Some, None}
use Rattle.theory.specs.Lists.{◌∈◌}
use Rattle.theory.specs.Text.{Bytes, bytes, is_variable}
use Rattle.theory.specs.Packs.{variable_limit}
use Rattle.theory.specs.Residuals.{numbered}
use Rattle.clause_theory.specs.ClauseTokens as T
use Rattle.clause_theory.specs.Clauses.{Clause, clause_marks}
use Rattle.clause_theory.specs.Import.{clause_variables, is_lone, lones}
use Rattle.clause_theory.proofs.Filling.{mark_variables}
use Rattle.clause_theory.proofs.FilledVariables.{named}
use Rattle.terms.specs.Rows.{Holds}
use Rattle.clause_tokens.specs.NextTokens.{marks_at, Seen}
use Rattle.clause_tokens.specs.declared.Mark.{Mark}
use Rattle.clause_variables.specs.declared.Variables.{Variables}

-- a clause stands at a place, whatever comes after it
pub record ClauseAt (text : Bytes) (from : ℕ) (c : Clause) : Type 0 where
  pub after : List T.Mark
  pub marks : marks_at text from ≡ clause_marks c ++ after

-- v has these variables: the table holds the named ones, so many are named, and so often `_` stands among them
pub record Gathered (v : Variables) (xs : List Bytes) : Type 0 where
  pub holds : Holds v.names (numbered [] (named xs))
  pub named_is : v.named ≡ length (numbered [] (named xs))
  pub lones_is : v.lones ≡ lones xs

-- they are too many, or one is too long
pub data TooMany (xs : List Bytes) : Type 0 where
  many : variable_limit < length (numbered [] (named xs)) + lones xs → TooMany xs
  long : (x : Bytes) → x ∈ xs → is_lone x ≡ false → is_variable x ≡ false → TooMany xs

-- what is known of some variables after a reader's answer
pub data Known (v : Variables) (xs : List Bytes) : Option (Unit {0}) → Type 0 where
  all_known : Gathered v xs → Known v xs (Some tt)
  over : TooMany xs → Known v xs None

-- a named variable more
pub record Named (x : Bytes) (v₀ : Variables) (r : Option (Unit {0})) (v : Variables) : Type 0 where
  pub names : (xs : List Bytes) → Gathered v₀ xs → is_variable x ≡ leb (length x) 16 → is_lone x ≡ false → Known v (xs ++ (x ∷ [])) r

-- `_` once more
pub record LoneCounted (v₀ : Variables) (r : Option (Unit {0})) (v : Variables) : Type 0 where
  pub counts : (xs : List Bytes) → Gathered v₀ xs → Known v (xs ++ (bytes "_" ∷ [])) r

-- one token more, with these bytes
pub record Gathers (x : Bytes) (mark : Mark) (v₀ : Variables) (r : Option (Unit {0})) (v : Variables) : Type 0 where
  pub gathers : (xs : List Bytes) (m : T.Mark) → Gathered v₀ xs → Seen x mark m → Known v (xs ++ mark_variables (m ∷ [])) r

-- a whole clause
pub record VariablesFound (text : Bytes) (from : ℕ) (r : Option (Unit {0})) (v : Variables) : Type 0 where
  pub found : (c : Clause) → ClauseAt text from c → Known v (clause_variables c) r
