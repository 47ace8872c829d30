-- Document 01, the table of "What check returns", in words: a line's fault is the first number that applies to it, and what 4 says by its
-- bytes. The tests are in Faults, what the other numbers say in LettersTold; that all agree is promised (Promised, `LinesPromised`).
use Rattle.std.specs.Prelude.{◌≡◌, true, cond, ◌⊎◌, ◌↔◌, List, [], ◌∷◌, ℕ, ◌≤◌, ◌<◌, length}
use Rattle.theory.specs.Lists.{◌∈◌}
use Rattle.theory.specs.Text.{Bytes}
use Rattle.theory.specs.Packs.{line_limit}
use Rattle.theory.specs.Written.{Written}
use Rattle.theory.specs.Faults.{Test, whole, line_tests, fault}

-- ## Bytes

-- Of a line, a query or a term: at most 1,024 bytes, each from 32 to 126.
pub record Fit (l : Bytes) : Type 0 where
  pub short : length l ≤ line_limit
  pub bytes : (b : ℕ) → b ∈ l → (32 ≤ b) × (b ≤ 126)

-- 4: it is longer, or some byte is outside.
pub data Unfit (l : Bytes) : Type 0 where
  long : line_limit < length l → Unfit l
  outside : (b : ℕ) → b ∈ l → (b < 32) ⊎ (126 < b) → Unfit l

-- ## The first number

-- the numbers of the tests that find their fault
unfoldable pub found : List Test → List ℕ
found [] = []
found (t ∷ ts) = cond t.finds (t.number ∷ found ts) (found ts)

-- the numbers that apply to a line after lines that write w, in the order of its tests
abbrev pub applying : Written → Bytes → List ℕ
applying w l = found (line_tests whole w l)

-- Of every line: its fault is the first number that applies; it has none where none applies. And what 4 says, and 5 after an `E`.
pub record LineTold (w : Written) (l : Bytes) : Type 0 where
  pub none : (applying w l ≡ []) ↔ (fault whole w l ≡ 0)
  pub first : (n : ℕ) (rest : List ℕ) → applying w l ≡ n ∷ rest → fault whole w l ≡ n
  pub unfit : (4 ∈ applying w l) ↔ Unfit l
  pub after_end : w.ended ≡ true → 5 ∈ applying w l
