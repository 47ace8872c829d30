-- Parts of a byte string by their places, and where a byte stands.
use Rattle.std.specs.Prelude.{◌≡◌, Bool, true, cond, ◌||◌, List, [], ℕ, ◌-◌, ◌≤◌, ◌<◌, leb, eqb, length, get_or, take, drop}
use Rattle.theory.specs.Text.{Bytes, parts_at, between}
use Rattle.theory.proofs.Reading.Separators.{is_free}

-- the bytes from place a up to place e
abbrev pub part : Bytes → ℕ → ℕ → Bytes
part s a e = take (e - a) (drop a s)

-- r is the first place at or after `from` where the byte stands, or the end
pub record Finds (s : Bytes) (wanted from r : ℕ) : Type 0 where
  pub low : from ≤ r
  pub high : r ≤ length s
  pub free : is_free wanted (part s from r) ≡ true
  pub found : r < length s → get_or s r 0 ≡ wanted

-- byte 10, or one that may stand in a line
unfoldable pub is_plain : ℕ → Bool
is_plain b = eqb b 10 || between 32 126 b

-- the parts from a place on; none where the place is past the end
unfoldable pub parts_from : ℕ → Bytes → ℕ → List Bytes
parts_from separator s from = cond (leb from (length s)) (parts_at separator (drop from s)) []
