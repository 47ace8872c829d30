-- Fields of printable bytes without commas: the line of such fields has them again, and is fit if it is short.
use mathlib.Core.Path.{◌≡◌, refl}
use mathlib.Core.Bool.{true, false, not}
use mathlib.Core.List.Memᴰ
use mathlib.Core.List.{List, [], ◌∷◌, map}
use Prim.Native.Nat.{ℕ, ◌≤◌}
use lib.Dec.{ltb}
use lib.ListN.{length}
use lib.IntN.{ℤ}
use Rattle.theory.specs.Lists.{every, ◌∈◌}
use Rattle.theory.specs.Text.{Bytes, bytes, between, is_name, decimal, signed_decimal, fields_of}
use Rattle.theory.specs.Packs.{line, line_limit}
use Rattle.theory.specs.declared.Letter.{Letter}
use Rattle.theory.specs.declared.Letter.TheVariants.{P, C, G, H, B, M, E, NoLetter}
use Rattle.theory.specs.Faults.{is_unfit}
use Rattle.groundwork.proofs.Lists.{all_cons}
use Rattle.groundwork.proofs.Truth.{and_left, or_neither, ge-ltb}
use Rattle.theory.proofs.Reading.Bytes.{is_field_byte, token_field}
use Rattle.theory.proofs.Reading.Every.{every_within}
use Rattle.theory.proofs.Reading.Letters.{letter_field}
use Rattle.theory.proofs.Reading.Spelling.{name_bytes, decimal_bytes, signed_bytes}
use Rattle.theory.proofs.Reading.Separators.{is_free, free_from, parts_of_joined, every_joined}

abbrev pub Plain : List Bytes → Type 0
Plain fields = (f : Bytes) → f ∈ fields → every is_field_byte f ≡ true

pub plain_nil : Plain []
plain_nil f m = absurd (Memᴰ.not-nil m)

pub plain_cons : {f : Bytes} {fields : List Bytes} → every is_field_byte f ≡ true → Plain fields → Plain (f ∷ fields)
plain_cons = all_cons (λ f. every is_field_byte f ≡ true)

pub plain_map : {A : Type 0} (writing : A → Bytes) → ((a : A) → every is_field_byte (writing a) ≡ true) → (l : List A) → Plain (map writing l)
plain_map writing h [] = plain_nil
plain_map writing h (a ∷ l) = plain_cons (h a) (plain_map writing h l)

pub name_plain : (name : Bytes) → is_name name ≡ true → every is_field_byte name ≡ true
name_plain name h = token_field name (name_bytes name h)

pub decimal_plain : (n : ℕ) → every is_field_byte (decimal n) ≡ true
decimal_plain n = token_field (decimal n) (decimal_bytes n)

pub signed_plain : (z : ℤ) → every is_field_byte (signed_decimal z) ≡ true
signed_plain z = token_field (signed_decimal z) (signed_bytes z)

pub letter_plain : (letter : Letter) → every is_field_byte (letter_field letter) ≡ true
unfolding letter_field every bytes
letter_plain P = refl
letter_plain C = refl
letter_plain G = refl
letter_plain H = refl
letter_plain B = refl
letter_plain M = refl
letter_plain E = refl
letter_plain NoLetter = refl

pub fields_of_line : (fields : List Bytes) → (fields ≡ [] → ⊥) → Plain fields → fields_of (line fields) ≡ fields
fields_of_line [] some plain = absurd (some refl)
fields_of_line (f ∷ fs) some plain = parts_of_joined 44 f fs (λ g m. free_from is_field_byte 44 refl g (plain g m))

line_printable : (fields : List Bytes) → Plain fields → every (between 32 126) (line fields) ≡ true
line_printable fields plain =
    every_joined (between 32 126) 44 refl fields (λ f m. every_within is_field_byte (between 32 126) (λ b e. and_left (between 32 126 b) _ e) f (plain f m))

pub line_fit : (fields : List Bytes) → Plain fields → length (line fields) ≤ line_limit → is_unfit (line fields) ≡ false
unfolding is_unfit
line_fit fields plain short = or_neither (ltb line_limit (length (line fields))) (not (every (between 32 126) (line fields))) (ge-ltb line_limit (length (line fields)) short) (rw (line_printable fields plain))

pub line_free : (fields : List Bytes) → Plain fields → is_free 10 (line fields) ≡ true
line_free fields plain = free_from (between 32 126) 10 refl (line fields) (line_printable fields plain)
