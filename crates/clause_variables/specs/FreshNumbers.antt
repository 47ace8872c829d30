-- The next fresh number by a table of the variables that are named.
use Rattle.std.specs.Prelude.{◌≡◌, true, false, List, ℕ, ◌+◌, ◌≤◌, ◌<◌, length}
use Rattle.theory.specs.Text.{Bytes, among}
use Rattle.clause_theory.specs.Import.{numbered_variable}
use Rattle.terms.specs.Rows.{Holds}
use Rattle.words.specs.declared.Words.{Words}

-- the table holds so many variables
pub record Tabled (names : List Words) (named : ℕ) : Type 0 where
  pub seen : List Bytes
  pub holds : Holds names seen
  pub size : length seen ≡ named

-- r is the lowest number from `from` on whose variable the table does not hold
pub record NextFree (names : List Words) (named from r : ℕ) : Type 0 where
  pub low : from ≤ r
  pub high : r ≤ from + named
  pub free : (seen : List Bytes) → Holds names seen → length seen ≡ named → among (numbered_variable r) seen ≡ false
  pub taken : (seen : List Bytes) → Holds names seen → length seen ≡ named → (m : ℕ) → from ≤ m → m < r → among (numbered_variable m) seen ≡ true
