-- Bytes as one number, the first byte the lowest.
use Rattle.std.specs.Prelude.{◌≡◌, [], ◌∷◌, ℕ, ◌+◌, ◌*◌, ◌<◌}
use Rattle.theory.specs.Text.{Bytes}
use Rattle.text.specs.Scans.{part}

unfoldable pub number : Bytes → ℕ
number [] = 0
number (b ∷ bs) = b + 256 * number bs

-- r is the number of n bytes, and is below a bound
pub record Numbered (s : Bytes) (at n bound r : ℕ) : Type 0 where
  pub is : r ≡ number (part s at (at + n))
  pub small : r < bound
