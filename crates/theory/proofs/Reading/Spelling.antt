-- Names and decimal numbers: what is read is what was written, and which bytes they have.
use mathlib.Core.Path.{◌≡◌, refl, sym, ◌∙◌, ap, ap₂, subst}
use mathlib.Core.Bool.{Bool, true, false, cond, ◌&&◌, ◌||◌, false≢true, or-true}
use mathlib.Core.List.{[], ◌∷◌}
use mathlib.Core.Option.{Option, some, none, map, some-injective, none-ne-some, map-eq-some_iff}
use Prim.Native.Nat.{ℕ, zero, suc, ◌≤◌}
use native.Mathlib.Omega.{arith}
use lib.Dec.{eqb, leb}
use lib.IntN.{ℤ, pos, negsuc, nat_abs}
use lib.ListN.{length}
use Rattle.groundwork.proofs.Truth.{by_truth, never_both, and_left, and_right, and_both, eqb-equal, eqb-different, leb-le, le-leb}
use Rattle.theory.specs.Lists.{every}
use Rattle.theory.specs.Text.{Bytes, between, is_lower, is_upper, is_digit, is_name_byte, is_word, is_name, is_variable, is_decimal, value_after, natural, negated, integer, decimal, signed_decimal}
use Rattle.theory.proofs.Reading.Bytes.{is_token_byte, between_low, between_high}
use Rattle.theory.proofs.Reading.Every.{every_within}
use Rattle.theory.proofs.Reading.Separators.{is_free, free_from}
use Rattle.theory.proofs.Reading.Decimals.{decimal_digits, decimal_formed, value_of_decimal, decimal_of_value}

-- ---- numbers from 0

pub natural_of_decimal : (limit n : ℕ) → n ≤ limit → natural limit (decimal n) ≡ some n
unfolding natural
natural_of_decimal limit n h = rw (decimal_formed n, value_of_decimal n, le-leb n limit h)

natural_reads : (limit : ℕ) (bs : Bytes) (n : ℕ) → natural limit bs ≡ some n → (bs ≡ decimal n) × (n ≤ limit)
unfolding natural
natural_reads limit bs n = by_truth (λ (c : Bool). cond c (some (value_after 0 bs)) none ≡ some n → (bs ≡ decimal n) × (n ≤ limit)) (is_decimal bs && leb (value_after 0 bs) limit) good (λ _ e. absurd (none-ne-some n e))
  where
    good : (is_decimal bs && leb (value_after 0 bs) limit) ≡ true → some (value_after 0 bs) ≡ some n → (bs ≡ decimal n) × (n ≤ limit)
    good t e =
        let value : value_after 0 bs ≡ n = some-injective (value_after 0 bs) n e in
        let formed : is_decimal bs ≡ true = and_left (is_decimal bs) (leb (value_after 0 bs) limit) t in
        let small : value_after 0 bs ≤ limit = leb-le (value_after 0 bs) limit (and_right (is_decimal bs) (leb (value_after 0 bs) limit) t) in
        (sym (decimal_of_value bs formed) ∙ ap decimal value, omega arith)

pub decimal_of_natural : (limit : ℕ) (bs : Bytes) (n : ℕ) → natural limit bs ≡ some n → bs ≡ decimal n
decimal_of_natural limit bs n e = (natural_reads limit bs n e).0

pub natural_within : (limit : ℕ) (bs : Bytes) (n : ℕ) → natural limit bs ≡ some n → n ≤ limit
natural_within limit bs n e = (natural_reads limit bs n e).1

-- a number within a limit is the same within a larger one
pub natural_wider : (limit wider : ℕ) (bs : Bytes) (n : ℕ) → limit ≤ wider → natural limit bs ≡ some n → natural wider bs ≡ some n
natural_wider limit wider bs n h e = let (is, small) = natural_reads limit bs n e in rw is (natural_of_decimal wider n (omega arith))

-- ---- numbers with a sign

-- digits are read with no sign
integer_of_digits : (limit : ℕ) (bs : Bytes) → is_decimal bs ≡ true → integer limit bs ≡ map pos (natural limit bs)
unfolding integer is_decimal every
integer_of_digits limit [] h = absurd (false≢true h)
integer_of_digits limit (b ∷ bs) h =
    let low : 48 ≤ b = between_low 48 57 b (and_left (is_digit b) (every is_digit bs) (decimal_digits (b ∷ bs) h)) in
    rw (eqb-different b 45 (λ q. omega arith))

pub integer_of_signed : (limit : ℕ) (z : ℤ) → nat_abs z ≤ limit → integer limit (signed_decimal z) ≡ some z
unfolding integer signed_decimal negated
integer_of_signed limit (pos n) h = integer_of_digits limit (decimal n) (decimal_formed n) ∙ ap (map pos) (natural_of_decimal limit n h)
integer_of_signed limit (negsuc n) h = ap negated (natural_of_decimal limit (suc n) h)

negated_some : (o : Option ℕ) (z : ℤ) → negated o ≡ some z → (n : ℕ) × (o ≡ some (suc n)) × (negsuc n ≡ z)
unfolding negated
negated_some none z e = absurd (none-ne-some z e)
negated_some (some zero) z e = absurd (none-ne-some z e)
negated_some (some (suc n)) z e = (n, refl, some-injective (negsuc n) z e)

integer_reads : (limit : ℕ) (bs : Bytes) (z : ℤ) → integer limit bs ≡ some z → (bs ≡ signed_decimal z) × (nat_abs z ≤ limit)
unfolding integer signed_decimal
integer_reads limit [] z e = absurd (none-ne-some z e)
integer_reads limit (b ∷ bs) z e = by_truth (λ (c : Bool). cond c (negated (natural limit bs)) (map pos (natural limit (b ∷ bs))) ≡ some z → Read z) (eqb b 45) signed unsigned e
  where
    Read : ℤ → Type 0
    Read y = ((b ∷ bs) ≡ signed_decimal y) × (nat_abs y ≤ limit)

    signed : eqb b 45 ≡ true → negated (natural limit bs) ≡ some z → Read z
    signed t r =
        let found = negated_some (natural limit bs) z r in
        subst Read found.2 (ap₂ ◌∷◌ (eqb-equal b 45 t) (decimal_of_natural limit bs (suc found.0) found.1), natural_within limit bs (suc found.0) found.1)

    unsigned : eqb b 45 ≡ false → map pos (natural limit (b ∷ bs)) ≡ some z → Read z
    unsigned _ r =
        let found = (map-eq-some_iff pos (natural limit (b ∷ bs))).0 r in
        subst Read found.2 (natural_reads limit (b ∷ bs) found.0 found.1)

pub signed_of_integer : (limit : ℕ) (bs : Bytes) (z : ℤ) → integer limit bs ≡ some z → bs ≡ signed_decimal z
signed_of_integer limit bs z e = (integer_reads limit bs z e).0

pub integer_within : (limit : ℕ) (bs : Bytes) (z : ℤ) → integer limit bs ≡ some z → nat_abs z ≤ limit
integer_within limit bs z e = (integer_reads limit bs z e).1

-- ---- the bytes of names and variables

pub or_cases : {X : Type 0} (a b : Bool) → (a || b) ≡ true → (a ≡ true → X) → (b ≡ true → X) → X
or_cases true b e f g = f refl
or_cases false b e f g = g e

-- a class of bytes after the comma
between_token : (low high : ℕ) → 45 ≤ low → high ≤ 126 → (b : ℕ) → between low high b ≡ true → is_token_byte b ≡ true
between_token low high h k b e =
    let l : low ≤ b = between_low low high b e in
    let r : b ≤ high = between_high low high b e in
    rw (le-leb 32 b (omega arith), le-leb b 126 (omega arith), eqb-different b 44 (λ q. omega arith), eqb-different b 32 (λ q. omega arith))

name_byte_token : (b : ℕ) → is_name_byte b ≡ true → is_token_byte b ≡ true
unfolding is_name_byte
name_byte_token b e = or_cases (is_lower b || is_upper b || is_digit b) (eqb b 95) e letter_or_digit (λ underscore. ap is_token_byte (eqb-equal b 95 underscore))
  where
    letter : (is_lower b || is_upper b) ≡ true → is_token_byte b ≡ true
    letter h = or_cases (is_lower b) (is_upper b) h (between_token 97 122 (omega arith) (omega arith) b) (between_token 65 90 (omega arith) (omega arith) b)

    letter_or_digit : (is_lower b || is_upper b || is_digit b) ≡ true → is_token_byte b ≡ true
    letter_or_digit h = or_cases (is_lower b || is_upper b) (is_digit b) h letter (between_token 48 57 (omega arith) (omega arith) b)

-- a word whose first letter is one that may stand in it
word_bytes : (isFirst : ℕ → Bool) → ((b : ℕ) → isFirst b ≡ true → is_name_byte b ≡ true) → (bs : Bytes) → is_word isFirst bs ≡ true → every is_name_byte bs ≡ true
unfolding is_word every
word_bytes isFirst within [] h = absurd (false≢true h)
word_bytes isFirst within (b ∷ bs) h =
    let both : (isFirst b && every is_name_byte bs) ≡ true = and_left (isFirst b && every is_name_byte bs) (leb (length bs) 15) h in
    and_both (is_name_byte b) (every is_name_byte bs) (within b (and_left (isFirst b) (every is_name_byte bs) both)) (and_right (isFirst b) (every is_name_byte bs) both)

name_word : (bs : Bytes) → is_name bs ≡ true → every is_name_byte bs ≡ true
unfolding is_name_byte
name_word = word_bytes is_lower λ b h. rw h

variable_word : (bs : Bytes) → is_variable bs ≡ true → every is_name_byte bs ≡ true
unfolding is_name_byte
variable_word = word_bytes is_upper λ b h. rw (h, or-true (is_lower b))

pub name_bytes : (bs : Bytes) → is_name bs ≡ true → every is_token_byte bs ≡ true
name_bytes bs h = every_within is_name_byte is_token_byte name_byte_token bs (name_word bs h)

pub variable_bytes : (bs : Bytes) → is_variable bs ≡ true → every is_token_byte bs ≡ true
variable_bytes bs h = every_within is_name_byte is_token_byte name_byte_token bs (variable_word bs h)

pub name_length : (bs : Bytes) → is_name bs ≡ true → length bs ≤ 16
unfolding is_word
name_length [] h = absurd (false≢true h)
name_length (b ∷ bs) h = omega (arith, leb-le (length bs) 15 (and_right (is_lower b && every is_name_byte bs) (leb (length bs) 15) h))

-- neither has a `/`
pub name_some : (bs : Bytes) → is_name bs ≡ true → 1 ≤ length bs
unfolding is_word
name_some [] h = never_both h refl
name_some (b ∷ bs) h = omega arith

pub name_no_slash : (bs : Bytes) → is_name bs ≡ true → is_free 47 bs ≡ true
unfolding is_name_byte
name_no_slash bs h = free_from is_name_byte 47 refl bs (name_word bs h)

pub variable_no_slash : (bs : Bytes) → is_variable bs ≡ true → is_free 47 bs ≡ true
unfolding is_name_byte
variable_no_slash bs h = free_from is_name_byte 47 refl bs (variable_word bs h)

-- ---- the bytes of numbers

pub decimal_bytes : (n : ℕ) → every is_token_byte (decimal n) ≡ true
decimal_bytes n = every_within is_digit is_token_byte (between_token 48 57 (omega arith) (omega arith)) (decimal n) (decimal_digits (decimal n) (decimal_formed n))

pub signed_bytes : (z : ℤ) → every is_token_byte (signed_decimal z) ≡ true
unfolding every signed_decimal
signed_bytes (pos n) = decimal_bytes n
signed_bytes (negsuc n) = decimal_bytes (suc n)

pub decimal_no_slash : (n : ℕ) → is_free 47 (decimal n) ≡ true
decimal_no_slash n = free_from is_digit 47 refl (decimal n) (decimal_digits (decimal n) (decimal_formed n))
