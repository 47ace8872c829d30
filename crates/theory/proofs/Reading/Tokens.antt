-- A token is read as a variable or as a symbol of some arity exactly if it is that one written.
use mathlib.Core.Path.{◌≡◌, refl, sym, ◌∙◌, ap}
use mathlib.Core.Bool.{Bool, true, false, cond, not}
use mathlib.Core.List.Memᴰ
use mathlib.Core.List.{List, [], ◌∷◌, ◌++◌}
use mathlib.Core.Option.{Option, some, none}
use Prim.Native.Nat.{ℕ, ◌≤◌}
use lib.Dec.{eqb}
use Rattle.groundwork.proofs.Truth.{by_truth, never_both, and_not_right}
use Rattle.theory.specs.Lists.{every}
use Rattle.theory.specs.Text.{Bytes, parts_at, joined, is_name, is_variable, natural, decimal}
use Rattle.theory.specs.Terms.{symbol_token, Token, variable_named, symbol_of, no_token, symbol_from, symbol_in, token_of}
use Rattle.theory.proofs.Reading.Bytes.{is_token_byte}
use Rattle.theory.proofs.Reading.Every.{every_append}
use Rattle.theory.proofs.Reading.Separators.{is_free, AllFree, parts_of_joined, joined_of_parts}
use Rattle.theory.proofs.Reading.Spelling.{natural_of_decimal, decimal_of_natural, natural_within, name_bytes, decimal_bytes, name_no_slash, decimal_no_slash, variable_no_slash}

-- ---- written, then read

pub token_of_variable : (x : Bytes) → is_variable x ≡ true → token_of x ≡ variable_named x
unfolding token_of
token_of_variable x h = rw h

slash_not_free : (before after : Bytes) → is_free 47 (before ++ 47 ∷ after) ≡ false
unfolding every
slash_not_free [] after = refl
slash_not_free (b ∷ before) after = and_not_right (not (eqb b 47)) _ (slash_not_free before after)

-- a symbol's token is no variable: it has a `/`
pub symbol_no_variable : (f : Bytes) (k : ℕ) → is_variable (symbol_token f k) ≡ false
unfolding symbol_token
symbol_no_variable f k = by_truth (λ (v : Bool). v ≡ false) (is_variable (symbol_token f k)) (λ e. never_both (variable_no_slash _ e) (slash_not_free f (decimal k))) (λ e. refl)

-- cut at its `/` (byte 47), it is the name and the arity
symbol_parts : (f : Bytes) (k : ℕ) → is_name f ≡ true → parts_at 47 (symbol_token f k) ≡ f ∷ decimal k ∷ []
unfolding symbol_token joined
symbol_parts f k h = parts_of_joined 47 f (decimal k ∷ []) free
  where
    free : AllFree 47 (f ∷ decimal k ∷ [])
    free part (Memᴰ.head e) = rw e (name_no_slash f h)
    free part (Memᴰ.tail (Memᴰ.head e)) = rw e (decimal_no_slash k)
    free part (Memᴰ.tail (Memᴰ.tail m)) = elim m [ ]

pub token_of_symbol : (f : Bytes) (k : ℕ) → is_name f ≡ true → k ≤ 9 → token_of (symbol_token f k) ≡ symbol_of f k
unfolding token_of symbol_in symbol_from
token_of_symbol f k h few = rw (symbol_no_variable f k, symbol_parts f k h) (rw (h, natural_of_decimal 9 k few))

-- ---- read, then written

-- what a token is read as, and that it is that one written
pub data ReadAs (w : Bytes) : Token → Type 0 where
  as_variable : is_variable w ≡ true → ReadAs w (variable_named w)
  as_symbol : {f : Bytes} {k : ℕ} → w ≡ symbol_token f k → is_name f ≡ true → k ≤ 9 → ReadAs w (symbol_of f k)
  as_none : ReadAs w no_token

pub read_as : (w : Bytes) → ReadAs w (token_of w)
unfolding token_of symbol_in symbol_from symbol_token joined
read_as w = by_truth (λ (v : Bool). ReadAs w (cond v (variable_named w) (symbol_in (parts_at 47 w)))) (is_variable w) as_variable (λ e. from_parts (parts_at 47 w) (joined_of_parts 47 w))
  where
    with_arity_lem : (f digits : Bytes) → joined 47 (f ∷ digits ∷ []) ≡ w → is_name f ≡ true → (k : Option ℕ) → natural 9 digits ≡ k → ReadAs w (symbol_from f k)
    with_arity_lem f digits e named none n = as_none
    with_arity_lem f digits e named (some k) n = as_symbol (sym e ∙ ap (λ d. f ++ 47 ∷ d) (decimal_of_natural 9 digits k n)) named (natural_within 9 digits k n)

    from_parts : (parts : List Bytes) → joined 47 parts ≡ w → ReadAs w (symbol_in parts)
    from_parts [] e = as_none
    from_parts (f ∷ []) e = as_none
    from_parts (f ∷ digits ∷ []) e =
        by_truth (λ (v : Bool). ReadAs w (cond v (symbol_from f (natural 9 digits)) no_token)) (is_name f) (λ named. with_arity_lem f digits e named (natural 9 digits) refl) (λ other. as_none)
    from_parts (f ∷ digits ∷ next ∷ parts) e = as_none

-- ---- the bytes of a token

pub symbol_bytes : (f : Bytes) (k : ℕ) → is_name f ≡ true → every is_token_byte (symbol_token f k) ≡ true
unfolding symbol_token every
symbol_bytes f k h = every_append is_token_byte f (47 ∷ decimal k) (name_bytes f h) (decimal_bytes k)
