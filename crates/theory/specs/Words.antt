-- Document 01, the C words of "What check returns": how an answer is put into one 64-bit word, and taken apart again.
use Rattle.std.specs.Prelude.{◌≡◌, ℕ, ◌+◌, ◌*◌, ◌/◌, ◌%◌, ◌^◌, ◌<◌}
use Rattle.theory.specs.Check.{Numbers, numbers}
use Rattle.theory.specs.Measure.{Measured, measured}
use Rattle.theory.specs.Reserve.{Fields, fields}

unfoldable pub check_word : Numbers → ℕ
check_word n = n.number + n.line * 2 ^ 8 + n.rule * 2 ^ 24 + n.claim * 2 ^ 32

unfoldable pub reserve_word : Fields → ℕ
reserve_word f = f.letter + f.claim * 2 ^ 8 + f.middle * 2 ^ 16

unfoldable pub measure_word : Measured → ℕ
measure_word m = m.refusal + m.size * 2 ^ 8

-- The same with the factors as plain numbers: 256, 16 777 216 and 4 294 967 296; 256 and 65 536; 256.
pub record WordFactors : Type 0 where
  pub check : (a b c d : ℕ) → check_word (numbers a b c d) ≡ a + b * 256 + c * 16777216 + d * 4294967296
  pub reserve : (l m c : ℕ) → reserve_word (fields l m c) ≡ l + c * 256 + m * 65536
  pub measure : (r s : ℕ) → measure_word (measured r s) ≡ r + s * 256

-- ## The room that each number has in its word

pub record CheckRoom (n : Numbers) : Type 0 where
  pub number : n.number < 2 ^ 8
  pub line : n.line < 2 ^ 16
  pub rule : n.rule < 2 ^ 8
  pub claim : n.claim < 2 ^ 32

pub record ReserveRoom (f : Fields) : Type 0 where
  pub letter : f.letter < 2 ^ 8
  pub claim : f.claim < 2 ^ 8
  pub middle : f.middle < 2 ^ 48

pub record MeasureRoom (m : Measured) : Type 0 where
  pub refusal : m.refusal < 2 ^ 8
  pub size : m.size < 2 ^ 56

-- ## The functions of the header: cerrundix_number, _line, _rule, _claim; _letter, _by, _middle; _refusal, _size

abbrev pub word_number : ℕ → ℕ
word_number w = w % 2 ^ 8

abbrev pub word_line : ℕ → ℕ
word_line w = w / 2 ^ 8 % 2 ^ 16

abbrev pub word_rule : ℕ → ℕ
word_rule w = w / 2 ^ 24 % 2 ^ 8

abbrev pub word_claim : ℕ → ℕ
word_claim w = w / 2 ^ 32

abbrev pub word_letter : ℕ → ℕ
word_letter w = w % 2 ^ 8

abbrev pub word_by : ℕ → ℕ
word_by w = w / 2 ^ 8 % 2 ^ 8

abbrev pub word_middle : ℕ → ℕ
word_middle w = w / 2 ^ 16

abbrev pub word_refusal : ℕ → ℕ
word_refusal w = w % 2 ^ 8

abbrev pub word_size : ℕ → ℕ
word_size w = w / 2 ^ 8

-- an answer, from its word
abbrev pub numbers_in : ℕ → Numbers
numbers_in w = numbers (word_number w) (word_line w) (word_rule w) (word_claim w)

abbrev pub fields_in : ℕ → Fields
fields_in w = fields (word_letter w) (word_middle w) (word_by w)

abbrev pub measured_in : ℕ → Measured
measured_in w = measured (word_refusal w) (word_size w)
