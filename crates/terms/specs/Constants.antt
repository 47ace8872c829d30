-- The first step of a term's size (000, section 1.4): the sum of a row of arities.
use Rattle.std.specs.Prelude.{◌≡◌, List, ℕ, ◌≤◌}
use Rattle.theory.specs.Lists.{total}

-- r is the sum of the numbers, whatever they were read from
pub record AritiesSummed (arities : List ℕ) (r : ℕ) : Type 0 where
  pub is : r ≡ total arities
  pub small : r ≤ 4608
