-- The class of a byte, and where the bytes that a name has end.
use Rattle.std.specs.Prelude.{◌≡◌, true, false, cond, List, ℕ, ◌≤◌, ◌<◌, length, get_or}
use Rattle.theory.specs.Lists.{every}
use Rattle.theory.specs.Text.{Bytes, is_lower, is_upper, is_name_byte}
use Rattle.text.specs.Scans.{part}
use Rattle.words.specs.declared.table.Class.{Class}
use Rattle.words.specs.declared.table.Class.TheVariants.{Outside, Small, Capital, Inner}

-- a small letter, a capital, another byte that a name has, or none
unfoldable pub class_of : ℕ → Class
class_of b = cond (is_lower b) Small (cond (is_upper b) Capital (cond (is_name_byte b) Inner Outside))

-- a table of the classes of all bytes
pub record ClassesStand (table : List Class) : Type 0 where
  pub class : (b : ℕ) → b < 256 → get_or table b Outside ≡ class_of b

-- r is the first place at or after `from` whose byte no name has, or the end
pub record EndsWord (s : Bytes) (from r : ℕ) : Type 0 where
  pub low : from ≤ r
  pub high : r ≤ length s
  pub named : every is_name_byte (part s from r) ≡ true
  pub ended : r < length s → is_name_byte (get_or s r 0) ≡ false
