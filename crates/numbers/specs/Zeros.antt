-- Fields `0`, each with the comma after it, one after another.
use Rattle.std.specs.Prelude.{◌≡◌, [], ◌∷◌, ℕ, zero, suc, ◌+◌, ◌*◌, ◌≤◌, length}
use Prim.Native.Char.{code}
use Rattle.theory.specs.Text.{Bytes}
use Rattle.text.specs.Scans.{part}

unfoldable pub zero_fields : ℕ → Bytes
zero_fields zero = []
zero_fields (suc r) = code "0" ∷ code "," ∷ zero_fields r

-- r such fields stand from a place on
pub record Zeros (s : Bytes) (from r : ℕ) : Type 0 where
  pub high : from + 2 * r ≤ length s
  pub stand : part s from (from + 2 * r) ≡ zero_fields r
