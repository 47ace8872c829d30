-- The program in words: which bytes are the pack and which are queries, and what is printed. Proves ReplyTold of specs/ReplyTold.
use mathlib.Core.Path.{◌≡◌, refl, ◌∙◌, ap}
use mathlib.Core.List.{List, [], ◌∷◌, ◌++◌, map, flat_map, append_assoc}
use Prim.Native.Nat.{◌≤◌, ◌<◌}
use lib.ListN.{length}
use Rattle.groundwork.proofs.Truth.{lt-ltb, ge-ltb}
use Rattle.theory.specs.Text.{Bytes, bytes, joined, decimal, last_digits}
use Rattle.theory.specs.Packs.{text_of}
use Rattle.theory.specs.Check.{Numbers, verdict_of}
use Rattle.theory.specs.Reserve.{Fields, reserve_of}
use Rattle.theory.specs.Program.{pack_part, queries, printed_numbers, printed_fields, input_limit, reply}
use Rattle.theory.specs.ReplyTold.{Divided, verdict_line, answer_line, ReplyTold}
use Rattle.theory.proofs.Replying.Divisions.{division, one_division}

-- ---- printed lines

numbers_line_lem : (n : Numbers) (rest : Bytes) → printed_numbers n ++ 10 ∷ rest ≡ verdict_line n ++ rest
unfolding printed_numbers joined bytes
numbers_line_lem n rest = simp append_assoc

fields_line : (f : Fields) (rest : Bytes) → printed_fields f ++ 10 ∷ rest ≡ answer_line f ++ rest
unfolding printed_fields joined bytes
fields_line f rest = simp append_assoc

answers : (pack : Bytes) (qs : List Bytes) → text_of (map (λ (q : Bytes). printed_fields (reserve_of pack q)) qs) ≡ flat_map (λ (q : Bytes). answer_line (reserve_of pack q)) qs
unfolding text_of flat_map
answers pack [] = refl
answers pack (q ∷ qs) = ap (λ (rest : Bytes). printed_fields (reserve_of pack q) ++ 10 ∷ rest) (answers pack qs) ∙ fields_line (reserve_of pack q) _

-- ---- the reply

long : (input : Bytes) → 65536 < length input → reply input ≡ bytes "2,0,0,0\n"
unfolding reply text_of printed_numbers joined bytes decimal last_digits
long input h = rw (lt-ltb input_limit (length input) h)

prints : (input pack : Bytes) (asked : List Bytes) → length input ≤ 65536 → Divided input pack asked
    → reply input ≡ verdict_line (verdict_of pack).returned ++ flat_map (λ (q : Bytes). answer_line (reserve_of pack q)) asked
unfolding reply text_of
prints input pack asked h d =
    let (packs, lines) = one_division d (division input) in
    rw (packs, lines, ge-ltb input_limit (length input) h) (numbers_line_lem _ _ ∙ ap (λ (rest : Bytes). verdict_line (verdict_of (pack_part input)).returned ++ rest) (answers (pack_part input) (queries input)))

pub reply_told : ReplyTold
reply_told = record { divides = λ input. (pack_part input, queries input, division input); only = λ input first second. one_division first second; long = long; prints = prints }
