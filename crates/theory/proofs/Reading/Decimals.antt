-- Decimal digits: a number written in decimal has that value, and nothing else that is written so has it.
use mathlib.Core.Path.{◌≡◌, refl, sym, ◌∙◌, ap, ap₂, subst}
use mathlib.Core.Bool.{Bool, true, false, not, ◌&&◌, false≢true}
use mathlib.Core.List.{[], ◌∷◌, ◌++◌, append_assoc, append-nil}
use Prim.Native.Nat.{ℕ, zero, suc, ◌+◌, ◌-◌, ◌*◌, ◌/◌, ◌%◌, ◌≤◌, ◌<◌}
use native.Mathlib.Nat.{zero-add}
use native.Mathlib.Omega.{arith}
use lib.Dec.{eqb, ltb}
use lib.ListN.{get_or}
use Rattle.groundwork.proofs.Truth.{and_left, and_right, and_both, not-true, eqb-unequal, eqb-different, ltb-lt, ltb-ge, lt-ltb, ge-ltb}
use Rattle.theory.specs.Lists.{every}
use Rattle.theory.specs.Text.{Bytes, is_digit, is_decimal, value_after, last_digits, decimal}
use Rattle.theory.proofs.Reading.Bytes.{between_from, between_low, between_high}
use Rattle.theory.proofs.Reading.Every.{every_append}

-- the digit of d
abbrev digit : ℕ → ℕ
digit d = 48 + d

digit_is : (d : ℕ) → d < 10 → is_digit (digit d) ≡ true
digit_is d h = between_from 48 57 (digit d) (omega arith) (omega arith)

digit_back : (b : ℕ) → is_digit b ≡ true → digit (b - 48) ≡ b
digit_back b e = omega (arith, between_low 48 57 b e)

digit_small : (b : ℕ) → is_digit b ≡ true → b - 48 < 10
digit_small b e = omega (arith, between_high 48 57 b e)

-- the first digit of several
abbrev leads : ℕ → Bool
leads b = is_digit b && not (eqb b 48)

-- ---- the digits of a number

digits_one : (k n : ℕ) → n < 10 → last_digits (suc k) n ≡ digit n ∷ []
unfolding last_digits
digits_one k n h = rw (lt-ltb n 10 h, last_digits)

digits_more : (k n : ℕ) → 10 ≤ n → last_digits (suc k) n ≡ last_digits k (n / 10) ++ (digit (n % 10) ∷ [])
unfolding last_digits
digits_more k n h = rw (ge-ltb n 10 h, last_digits)

-- any number of digits that is large enough gives the same
digits_enough : (k l n : ℕ) → n < k → n < l → last_digits k n ≡ last_digits l n
digits_enough zero l n h i = absurd (omega arith)
digits_enough (suc k) zero n h i = absurd (omega arith)
digits_enough (suc k) (suc l) n h i = go (ltb n 10) refl (digits_enough k l (n / 10))
  where
    go : (c : Bool) → ltb n 10 ≡ c → (n / 10 < k → n / 10 < l → last_digits k (n / 10) ≡ last_digits l (n / 10)) → last_digits (suc k) n ≡ last_digits (suc l) n
    go true e below = digits_one k n (ltb-lt n 10 e) ∙ sym (digits_one l n (ltb-lt n 10 e))
    go false e below =
        let large : 10 ≤ n = ltb-ge n 10 e in
        digits_more k n large ∙ (ap (λ (bs : Bytes). bs ++ (digit (n % 10) ∷ [])) (below (omega arith) (omega arith)) ∙ sym (digits_more l n large))

-- Induction over the digits: a number below 10 is one digit, any other the digits of its tenth and one more.
digits_by_tens : (P : ℕ → Bytes → Type 0) → ((d : ℕ) → d < 10 → P d (digit d ∷ [])) → ((n d : ℕ) (bs : Bytes) → 0 < n → d < 10 → P n bs → P (n * 10 + d) (bs ++ (digit d ∷ []))) → (k n : ℕ) → n < k → P n (last_digits k n)
digits_by_tens P one more zero n h = absurd (omega arith)
digits_by_tens P one more (suc k) n h = go (ltb n 10) refl (digits_by_tens P one more k (n / 10))
  where
    go : (c : Bool) → ltb n 10 ≡ c → (n / 10 < k → P (n / 10) (last_digits k (n / 10))) → P n (last_digits (suc k) n)
    go true e below = rw (digits_one k n (ltb-lt n 10 e)) (one n (ltb-lt n 10 e))
    go false e below =
        let large : 10 ≤ n = ltb-ge n 10 e in
        let whole : n / 10 * 10 + n % 10 ≡ n = omega arith in
        rw (digits_more k n large) (subst (λ (m : ℕ). P m (last_digits k (n / 10) ++ (digit (n % 10) ∷ []))) whole (more (n / 10) (n % 10) (last_digits k (n / 10)) (omega arith) (omega arith) (below (omega arith))))

-- ---- what is written has the value

value_snoc : (n : ℕ) (bs : Bytes) (b : ℕ) → value_after n (bs ++ (b ∷ [])) ≡ value_after n bs * 10 + (b - 48)
unfolding value_after
value_snoc n [] b = refl
value_snoc n (c ∷ bs) b = value_snoc (n * 10 + (c - 48)) bs b

pub decimal_digits : (bs : Bytes) → is_decimal bs ≡ true → every is_digit bs ≡ true
unfolding is_decimal every
decimal_digits [] h = absurd (false≢true h)
decimal_digits (b ∷ []) h = and_both (is_digit b) true h refl
decimal_digits (b ∷ c ∷ bs) h =
    and_both (is_digit b) (every is_digit (c ∷ bs)) (and_left (is_digit b) (not (eqb b 48)) (and_left (leads b) (every is_digit (c ∷ bs)) h)) (and_right (leads b) (every is_digit (c ∷ bs)) h)

-- decimal digits that write a number, with no leading zeros
record Writes (n : ℕ) (bs : Bytes) : Type 0 where
  value : value_after 0 bs ≡ n
  formed : is_decimal bs ≡ true

writes_one : (d : ℕ) → d < 10 → Writes d (digit d ∷ [])
unfolding is_decimal value_after
writes_one d h = record { value = omega arith; formed = digit_is d h }

-- one digit more after a number that is not 0
formed_snoc : (bs : Bytes) (b : ℕ) → is_decimal bs ≡ true → 0 < value_after 0 bs → is_digit b ≡ true → is_decimal (bs ++ (b ∷ [])) ≡ true
unfolding is_decimal value_after every
formed_snoc [] b h k d = absurd (false≢true h)
formed_snoc (c ∷ []) b h k d =
    and_both (leads c) (every is_digit (b ∷ [])) (and_both (is_digit c) (not (eqb c 48)) h (rw (eqb-different c 48 (λ q. omega arith)))) (and_both (is_digit b) true d refl)
formed_snoc (c ∷ e ∷ bs) b h k d =
    and_both (leads c) (every is_digit (e ∷ bs ++ (b ∷ []))) (and_left (leads c) (every is_digit (e ∷ bs)) h)
    (every_append is_digit (e ∷ bs) (b ∷ []) (and_right (leads c) (every is_digit (e ∷ bs)) h) (and_both (is_digit b) true d refl))

writes_more : (n d : ℕ) (bs : Bytes) → 0 < n → d < 10 → Writes n bs → Writes (n * 10 + d) (bs ++ (digit d ∷ []))
writes_more n d bs h k w = record { value = omega (arith, value_snoc 0 bs (digit d), w.value); formed = formed_snoc bs (digit d) w.formed (omega (arith, w.value)) (digit_is d k) }

decimal_writes : (n : ℕ) → Writes n (decimal n)
unfolding decimal
decimal_writes n = digits_by_tens Writes writes_one writes_more (suc n) n (omega arith)

pub value_of_decimal : (n : ℕ) → value_after 0 (decimal n) ≡ n
value_of_decimal n = (decimal_writes n).value

-- so no other number is written so
pub decimal_same : (n m : ℕ) → decimal n ≡ decimal m → n ≡ m
decimal_same n m e = sym (value_of_decimal n) ∙ ap (value_after 0) e ∙ value_of_decimal m

pub decimal_formed : (n : ℕ) → is_decimal (decimal n) ≡ true
decimal_formed n = (decimal_writes n).formed

-- only 0 begins with the digit 0
leading_zero : (bs : Bytes) → is_decimal bs ≡ true → get_or bs 0 0 ≡ 48 → value_after 0 bs ≡ 0
unfolding is_decimal value_after
leading_zero [] h e = absurd (false≢true h)
leading_zero (b ∷ []) h e = omega (arith, e)
leading_zero (b ∷ c ∷ bs) h e = absurd (eqb-unequal b 48 (not-true (eqb b 48) (and_right (is_digit b) (not (eqb b 48)) (and_left (leads b) (every is_digit (c ∷ bs)) h))) e)

pub decimal_zero : (n : ℕ) → get_or (decimal n) 0 0 ≡ 48 → n ≡ 0
decimal_zero n e = sym (value_of_decimal n) ∙ leading_zero (decimal n) (decimal_formed n) e

-- ---- nothing else has it

pub decimal_one : (d : ℕ) → d < 10 → decimal d ≡ digit d ∷ []
unfolding decimal
decimal_one d h = digits_one d d h

pub decimal_more : (n d : ℕ) → 0 < n → d < 10 → decimal (n * 10 + d) ≡ decimal n ++ (digit d ∷ [])
unfolding decimal
decimal_more n d h k =
    let m : ℕ = n * 10 + d in
    let tenth : m / 10 ≡ n = omega arith in
    let last : m % 10 ≡ d = omega arith in
    digits_more m m (omega arith) ∙ ap₂ (λ (bs : Bytes) (b : ℕ). bs ++ (b ∷ [])) (ap (last_digits m) tenth ∙ digits_enough m (suc n) n (omega arith) (omega arith)) (ap digit last)

-- digits after a number's own digits
decimal_after : (n : ℕ) (bs : Bytes) → 0 < n → every is_digit bs ≡ true → decimal (value_after n bs) ≡ decimal n ++ bs
unfolding value_after every
decimal_after n [] h k = sym (append-nil (decimal n))
decimal_after n (b ∷ bs) h k =
    let d : is_digit b ≡ true = and_left (is_digit b) (every is_digit bs) k in
    let next : decimal (n * 10 + (b - 48)) ≡ decimal n ++ (b ∷ []) = decimal_more n (b - 48) h (digit_small b d) ∙ ap (λ (c : ℕ). decimal n ++ (c ∷ [])) (digit_back b d) in
    decimal_after (n * 10 + (b - 48)) bs (omega arith) (and_right (is_digit b) (every is_digit bs) k)
    ∙ (ap (λ (front : Bytes). front ++ bs) next ∙ append_assoc (decimal n) (b ∷ []) bs)

decimal_of_digit : (b : ℕ) → is_digit b ≡ true → decimal (value_after 0 (b ∷ [])) ≡ b ∷ []
unfolding value_after
decimal_of_digit b h = rw (zero-add (b - 48)) (decimal_one (b - 48) (digit_small b h) ∙ ap (λ (c : ℕ). c ∷ []) (digit_back b h))

pub decimal_of_value : (bs : Bytes) → is_decimal bs ≡ true → decimal (value_after 0 bs) ≡ bs
unfolding is_decimal value_after every
decimal_of_value [] h = absurd (false≢true h)
decimal_of_value (b ∷ []) h = decimal_of_digit b h
decimal_of_value (b ∷ c ∷ bs) h =
    let first : leads b ≡ true = and_left (leads b) (every is_digit (c ∷ bs)) h in
    let d : is_digit b ≡ true = and_left (is_digit b) (not (eqb b 48)) first in
    let large : 0 < value_after 0 (b ∷ []) = omega (arith, between_low 48 57 b d, eqb-unequal b 48 (not-true (eqb b 48) (and_right (is_digit b) (not (eqb b 48)) first))) in
    decimal_after (value_after 0 (b ∷ [])) (c ∷ bs) large (and_right (leads b) (every is_digit (c ∷ bs)) h)
    ∙ ap (λ (front : Bytes). front ++ (c ∷ bs)) (decimal_of_digit b d)
