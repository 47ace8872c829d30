-- A symbol's token by its places: a name, a `/` as the last byte but one, and a digit.
use mathlib.Core.Path.{◌≡◌, refl, sym, ◌∙◌, ap}
use mathlib.Core.Bool.{true, false}
use mathlib.Core.List.{[], ◌∷◌, ◌++◌}
use Prim.Native.Nat.{ℕ, ◌+◌, ◌-◌, ◌≤◌, ◌<◌}
use native.Mathlib.Omega.{arith}
use lib.ListN.{length, get_or, take, drop, length-append, drop_of_length-le, take-append-drop}
use lib.Seq.{take_at, get_or_at, get_or-append-add}
use Rattle.groundwork.proofs.Truth.{never_both}
use Rattle.theory.specs.Text.{Bytes, is_word, is_digit, is_name, is_variable, is_decimal, value_after, decimal}
use Rattle.theory.specs.Terms.{Token, symbol_of, no_token, symbol_token, token_of}
use Rattle.theory.proofs.Reading.Bytes.{between_from, between_low, between_high}
use Rattle.theory.proofs.Reading.Decimals.{decimal_of_value}
use Rattle.theory.proofs.Reading.Tokens.{ReadAs, as_variable, as_symbol, as_none, token_of_symbol, read_as}
use Rattle.text.proofs.Parts.{drop_more}

abbrev pub last_byte : Bytes → ℕ
last_byte w = get_or w (length w - 1) 0

abbrev pub last_but_one : Bytes → ℕ
last_but_one w = get_or w (length w - 2) 0

-- what stands before the two
abbrev pub front_of : Bytes → Bytes
front_of w = take (length w - 2) w

decimal_digit : (k : ℕ) → k ≤ 9 → decimal k ≡ (48 + k) ∷ []
unfolding is_decimal value_after
decimal_digit k few =
    let worth : value_after 0 ((48 + k) ∷ []) ≡ k = omega arith in
    ap decimal (sym worth) ∙ decimal_of_value ((48 + k) ∷ []) (between_from 48 57 (48 + k) (omega arith) (omega arith))

-- a name has a first letter
name_any : (f : Bytes) → is_name f ≡ true → 0 < length f
unfolding is_word
name_any [] named = never_both named refl
name_any (b ∷ f) named = omega arith

-- ---- read as a symbol, then written

pub record SymbolWritten (w f : Bytes) (k : ℕ) : Type 0 where
  pub named : is_name f ≡ true
  pub few : k ≤ 9
  pub long : 2 < length w
  pub front : front_of w ≡ f
  pub slash : last_but_one w ≡ 47
  pub digit : last_byte w ≡ 48 + k

symbol_places : (f : Bytes) (k : ℕ) → is_name f ≡ true → k ≤ 9 → SymbolWritten (f ++ 47 ∷ (48 + k) ∷ []) f k
symbol_places f k named few =
    let w : Bytes = f ++ 47 ∷ (48 + k) ∷ [] in
    let size : length w ≡ length f + 2 = length-append f (47 ∷ (48 + k) ∷ []) in
    let last : length w - 1 ≡ length f + 1 = omega arith in
    record {
      named = named;
      few = few;
      long = omega (arith, name_any f named);
      front = take_at f _ (length w - 2) (omega arith);
      slash = get_or_at f 47 _ 0 (length w - 2) (omega arith);
      digit = ap (λ (i : ℕ). get_or w i 0) last ∙ get_or-append-add f (47 ∷ (48 + k) ∷ []) 1 0;
    }

symbol_written : (w f : Bytes) (k : ℕ) → token_of w ≡ symbol_of f k → SymbolWritten w f k
unfolding symbol_token
symbol_written w f k e = written (read_as w) e
  where
    written : {token : Token} → ReadAs w token → token ≡ symbol_of f k → SymbolWritten w f k
    written (as_variable h) e = let z : ◌≡◌ {A = ℕ} 0 1 = cc in absurd (omega arith)
    written (as_symbol {f = g} {k = j} is named few) e =
        let name : g ≡ f = cc in
        let arity : j ≡ k = cc in
        rw (← name, ← arity, is, decimal_digit j few) (symbol_places g j named few)
    written as_none e = let z : ◌≡◌ {A = ℕ} 0 1 = cc in absurd (omega arith)

-- ---- written, then read

module _ (w : Bytes) (long : 2 ≤ length w) (slash : last_but_one w ≡ 47) where
  last_two : drop (length w - 2) w ≡ 47 ∷ last_byte w ∷ []
  last_two =
      let next : length w - 2 + 1 ≡ length w - 1 = omega arith in
      let none : drop (length w - 1 + 1) w ≡ [] = drop_of_length-le w {i = length w - 1 + 1} (omega arith) in
      drop_more w (length w - 2) (omega arith) ∙ rw (slash, next, drop_more w (length w - 1) (omega arith), none)

  module _ (digit : is_digit (last_byte w) ≡ true) (named : is_name (front_of w) ≡ true) where
    spelled : w ≡ symbol_token (front_of w) (last_byte w - 48)
    unfolding symbol_token
    spelled =
        let low : 48 ≤ last_byte w = between_low 48 57 _ digit in
        let high : last_byte w ≤ 57 = between_high 48 57 _ digit in
        let same : 48 + (last_byte w - 48) ≡ last_byte w = omega arith in
        let arity : decimal (last_byte w - 48) ≡ last_byte w ∷ [] = decimal_digit (last_byte w - 48) (omega arith) ∙ ap (λ (b : ℕ). b ∷ []) same in
        sym (take-append-drop (length w - 2) w) ∙ ap (λ (rest : Bytes). front_of w ++ rest) (last_two ∙ ap (λ (digits : Bytes). 47 ∷ digits) (sym arity))

    pub symbol_read : token_of w ≡ symbol_of (front_of w) (last_byte w - 48)
    symbol_read = ap token_of spelled ∙ token_of_symbol _ _ named (omega (arith, between_high 48 57 (last_byte w) digit))

-- ---- neither a variable nor a symbol

pub other_no_token : (w : Bytes) → is_variable w ≡ false → ((f : Bytes) (k : ℕ) → SymbolWritten w f k → ⊥) → token_of w ≡ no_token
other_no_token w other unwritten = neither (read_as w) refl
  where
    neither : {token : Token} → ReadAs w token → token_of w ≡ token → token ≡ no_token
    neither (as_variable h) e = never_both h other
    neither (as_symbol {f = f} {k = k} is named few) e = absurd (unwritten f k (symbol_written w f k e))
    neither as_none e = refl
