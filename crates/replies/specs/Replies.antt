-- Where the pack ends in the program's input.
use Rattle.std.specs.Prelude.{◌≡◌, ℕ, ◌≤◌, length, take, drop}
use Rattle.theory.specs.Text.{Bytes, lines_of}
use Rattle.theory.specs.Program.{pack_part, queries}

-- the pack stands before r, the queries are the lines from r on
pub record PackEnds (input : Bytes) (r : ℕ) : Type 0 where
  pub within : r ≤ length input
  pub pack : pack_part input ≡ take r input
  pub asked : queries input ≡ lines_of (drop r input)
