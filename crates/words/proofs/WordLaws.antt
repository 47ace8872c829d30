-- Bytes as a number, the first byte the lowest: the number determines the bytes, and so do a word's two numbers. And no name is a variable.
use mathlib.Core.Path.{◌≡◌, refl, sym, ◌∙◌, ap, ap₂}
use mathlib.Core.Bool.{true, false, and-false}
use mathlib.Core.List.{[], ◌∷◌, ◌++◌}
use Prim.Native.Nat.{ℕ, ◌≤◌}
use native.Mathlib.Omega.{arith}
use lib.ListN.{take, drop, take-append-drop}
use Rattle.groundwork.proofs.Truth.{and_left, gt-leb}
use Rattle.theory.specs.Lists.{every}
use Rattle.theory.specs.Text.{Bytes, is_word, is_name, is_variable}
use Rattle.theory.proofs.Reading.Bytes.{is_token_byte, between_low, between_high}
use Rattle.theory.proofs.Reading.Every.{every_first, every_rest}
use Rattle.text.specs.ByteNumbers.{number}
use Rattle.text.proofs.Classes.{every_before, every_after}
use Rattle.words.specs.Words.{words_of}

token_low : (b : ℕ) → is_token_byte b ≡ true → 32 ≤ b
token_low b h = between_low 32 126 b (and_left _ _ (and_left _ _ h))

token_high : (b : ℕ) → is_token_byte b ≡ true → b ≤ 126
token_high b h = between_high 32 126 b (and_left _ _ (and_left _ _ h))

-- None of these bytes is 0 or above 255.
pub number_equal : (a b : Bytes) → every is_token_byte a ≡ true → every is_token_byte b ≡ true → number a ≡ number b → a ≡ b
unfolding number
number_equal [] [] h k e = refl
number_equal [] (y ∷ b) h k e = absurd (omega (arith, token_low y (every_first is_token_byte y b k)))
number_equal (x ∷ a) [] h k e = absurd (omega (arith, token_low x (every_first is_token_byte x a h)))
number_equal (x ∷ a) (y ∷ b) h k e =
    let p : x ≤ 126 = token_high x (every_first is_token_byte x a h) in
    let q : y ≤ 126 = token_high y (every_first is_token_byte y b k) in
    ap₂ ◌∷◌ (omega arith) (number_equal a b (every_rest is_token_byte x a h) (every_rest is_token_byte y b k) (omega arith))

-- Names and variables are such bytes: `name_bytes` and `variable_bytes` (theory, Spelling).
pub words_equal : (a b : Bytes) → every is_token_byte a ≡ true → every is_token_byte b ≡ true → words_of a ≡ words_of b → a ≡ b
unfolding words_of
words_equal a b h k e =
    let front : take 8 a ≡ take 8 b = number_equal (take 8 a) (take 8 b) (every_before is_token_byte a 8 h) (every_before is_token_byte b 8 k) (ap (λ w. w.first) e) in
    let back : drop 8 a ≡ drop 8 b = number_equal (drop 8 a) (drop 8 b) (every_after is_token_byte a 8 h) (every_after is_token_byte b 8 k) (ap (λ w. w.second) e) in
    sym (take-append-drop 8 a) ∙ ap₂ ◌++◌ front back ∙ take-append-drop 8 b

-- ---- names and variables differ in their first letter

pub name_not_variable : (bs : Bytes) → is_name bs ≡ true → is_variable bs ≡ false
unfolding is_word
name_not_variable [] h = refl
name_not_variable (b ∷ bs) h =
    let low : 97 ≤ b = between_low 97 122 b (and_left _ _ (and_left _ _ h)) in
    simp (gt-leb b 90 (omega arith), and-false)
