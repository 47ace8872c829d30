-- Document 01, "The program": what it prints.
use Rattle.std.specs.Prelude.{cond, ℕ, eqb, ltb, length}
use mathlib.Core.List.{List, [], ◌∷◌, map, flatten}
use Rattle.theory.specs.Text.{Bytes, bytes, same, on_first, lines_of, decimal}
use Rattle.theory.specs.Packs.{line, text_of}
use Rattle.theory.specs.Check.{Numbers, numbers, verdict_of}
use Rattle.theory.specs.Reserve.{Fields, reserve_of}

-- the lines of the input, each with its byte 10 (which the last may lack)
unfoldable pub whole_lines : Bytes → List Bytes
whole_lines [] = []
whole_lines (b ∷ bs) = cond (eqb b 10) ((b ∷ []) ∷ whole_lines bs) (on_first b (whole_lines bs))

-- the lines up to the first `E` line with its byte 10, that one too, or all; and the lines after it
unfoldable pub through_end : List Bytes → List Bytes
through_end [] = []
through_end (l ∷ ls) = cond (same l (bytes "E\n")) (l ∷ []) (l ∷ through_end ls)

unfoldable pub after_end : List Bytes → List Bytes
after_end [] = []
after_end (l ∷ ls) = cond (same l (bytes "E\n")) ls (after_end ls)

unfoldable pub pack_part : Bytes → Bytes
pack_part input = flatten (through_end (whole_lines input))

unfoldable pub queries : Bytes → List Bytes
queries input = lines_of (flatten (after_end (whole_lines input)))

-- check's numbers and reserve's fields as printed, without byte 10
unfoldable pub printed_numbers : Numbers → Bytes
printed_numbers n = line (decimal n.number ∷ decimal n.line ∷ decimal n.rule ∷ decimal n.claim ∷ [])

unfoldable pub printed_fields : Fields → Bytes
printed_fields f = line ((f.letter ∷ []) ∷ decimal f.middle ∷ decimal f.claim ∷ [])

abbrev pub input_limit : ℕ
input_limit = 65536

-- What the program prints for an input.
unfoldable pub reply : Bytes → Bytes
reply input =
    cond (ltb input_limit (length input)) (text_of (printed_numbers (numbers 2 0 0 0) ∷ []))
    (text_of (printed_numbers (verdict_of (pack_part input)).returned ∷ map (λ (q : Bytes). printed_fields (reserve_of (pack_part input) q)) (queries input)))
