-- Document 01, "Terms and their size" (names, variables) and "The pack" (lines, fields, numbers): what bytes spell.
use Rattle.std.specs.Prelude.{Bool, true, false, cond, not, ◌&&◌, ◌||◌, List, [], ◌∷◌, ◌++◌, ℕ, zero, suc, ◌+◌, ◌-◌, ◌*◌, ◌/◌, ◌%◌, eqb, leb, ltb, ℤ, pos, negsuc, length}
use Rattle.std.proofs.Math.Option.{Option, some, none, map}
use Prim.Native.Char.{code}
use Prim.Native.String.{String}
use Prim.Native.String as S
use Rattle.theory.specs.Lists.{every}

abbrev pub Bytes : Type 0
Bytes = List ℕ

-- the bytes of a quoted text
unfoldable pub bytes : String → Bytes
bytes S.[] = []
bytes (S.◌∷◌ c s) = code c ∷ bytes s

unfoldable pub same : Bytes → Bytes → Bool
same [] [] = true
same [] (b ∷ bs) = false
same (a ∷ rest) [] = false
same (a ∷ rest) (b ∷ bs) = eqb a b && same rest bs

unfoldable pub among : Bytes → List Bytes → Bool
among x [] = false
among x (y ∷ ys) = same x y || among x ys

abbrev pub between : ℕ → ℕ → ℕ → Bool
between low high b = leb low b && leb b high

-- a byte in front of the first of some parts
abbrev pub on_first : ℕ → List Bytes → List Bytes
on_first b [] = (b ∷ []) ∷ []
on_first b (part ∷ parts) = (b ∷ part) ∷ parts

-- the parts between separators: one part more than separators
unfoldable pub parts_at : ℕ → Bytes → List Bytes
parts_at separator [] = [] ∷ []
parts_at separator (b ∷ bs) = cond (eqb b separator) ([] ∷ parts_at separator bs) (on_first b (parts_at separator bs))

-- Parts with separators between them.
unfoldable pub joined : ℕ → List Bytes → Bytes
joined separator [] = []
joined separator (part ∷ []) = part
joined separator (part ∷ next ∷ parts) = part ++ separator ∷ joined separator (next ∷ parts)

-- Lines without the byte 10 that each ends with. (What follows the last byte 10 is a line too, if it is not empty.)
unfoldable pub lines_of : Bytes → List Bytes
lines_of [] = []
lines_of (b ∷ bs) = cond (eqb b 10) ([] ∷ lines_of bs) (on_first b (lines_of bs))

-- The fields of a line: one more than its commas.
abbrev pub fields_of : Bytes → List Bytes
fields_of line = parts_at (code ",") line

abbrev pub is_lower : ℕ → Bool
is_lower b = between (code "a") (code "z") b

abbrev pub is_upper : ℕ → Bool
is_upper b = between (code "A") (code "Z") b

abbrev pub is_digit : ℕ → Bool
is_digit b = between (code "0") (code "9") b

-- letters, digits, underscores
unfoldable pub is_name_byte : ℕ → Bool
is_name_byte b = is_lower b || is_upper b || is_digit b || eqb b (code "_")

-- one byte of a kind, and at most 15 of a name after it
unfoldable pub is_word : (ℕ → Bool) → Bytes → Bool
is_word isFirst [] = false
is_word isFirst (b ∷ bs) = isFirst b && every is_name_byte bs && leb (length bs) 15

abbrev pub is_name : Bytes → Bool
is_name bs = is_word is_lower bs

abbrev pub is_variable : Bytes → Bool
is_variable bs = is_word is_upper bs

-- the number that digits write, after digits that write n
unfoldable pub value_after : ℕ → Bytes → ℕ
value_after n [] = n
value_after n (b ∷ bs) = value_after (n * 10 + (b - code "0")) bs

-- decimal digits with no leading zeros
unfoldable pub is_decimal : Bytes → Bool
is_decimal [] = false
is_decimal (b ∷ []) = is_digit b
is_decimal (b ∷ c ∷ bs) = is_digit b && not (eqb b (code "0")) && every is_digit (c ∷ bs)

-- A number from 0 to a limit, or malformed or out of range. (With limit 8 or 9 it is one digit.)
unfoldable pub natural : ℕ → Bytes → Option ℕ
natural limit bs = cond (is_decimal bs && leb (value_after 0 bs) limit) (some (value_after 0 bs)) none

unfoldable pub negated : Option ℕ → Option ℤ
negated none = none
negated (some zero) = none
negated (some (suc n)) = some (negsuc n)

-- A number from -limit to limit: no `-0`, no plus sign.
unfoldable pub integer : ℕ → Bytes → Option ℤ
integer limit [] = none
integer limit (b ∷ bs) = cond (eqb b (code "-")) (negated (natural limit bs)) (map pos (natural limit (b ∷ bs)))

-- the last digits of n, at most as many as the first number says
unfoldable pub last_digits : ℕ → ℕ → Bytes
last_digits zero n = []
last_digits (suc k) n = elim (ltb n 10) [ true ↦ (code "0" + n) ∷ [] | false ↦ last_digits k (n / 10) ++ ((code "0" + n % 10) ∷ []) ]

-- A number written in decimal (n + 1 digits are enough for n).
unfoldable pub decimal : ℕ → Bytes
decimal n = last_digits (suc n) n

unfoldable pub signed_decimal : ℤ → Bytes
signed_decimal (pos n) = decimal n
signed_decimal (negsuc n) = code "-" ∷ decimal (suc n)
