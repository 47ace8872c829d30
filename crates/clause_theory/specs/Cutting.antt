-- Document 02, 6/14: how a text is cut into tokens, in the request's words and for every text. ClauseTokens gives a text the
-- tokens that it is cut into here and no others (`cutting` of `ImportPromised`), so its lines on cutting need not be believed.
use Rattle.std.specs.Prelude.{◌≡◌, ◌⊎◌, Bool, true, false, ◌&&◌, List, [], ◌∷◌, ◌++◌, ℕ, ◌+◌, length}
use Rattle.theory.specs.Lists.{every}
use Rattle.theory.specs.Text.{Bytes, bytes, is_lower, is_upper, is_name_byte}
use Rattle.clause_theory.specs.ClauseTokens.{Mark, name, variable, opens, closes, comma, neck, stop, stray, Token, token}

-- layout: a space or a line end
abbrev pub Layout : ℕ → Type 0
Layout b = (b ≡ 32) ⊎ (b ≡ 10)

unfoldable pub starts_with : (ℕ → Bool) → Bytes → Bool
starts_with is [] = false
starts_with is (b ∷ bs) = is b

-- a run of letters, digits and underscores, of any length, with a byte of a kind in front
unfoldable pub is_run : (ℕ → Bool) → Bytes → Bool
is_run isFirst [] = false
is_run isFirst (b ∷ bs) = isFirst b && every is_name_byte bs

-- A token by its bytes, and what comes after them: letters, digits and underscores in a row, as far as they go; `:-`; or a single byte. One byte is a token where neither of the others begins with it, and where it is no layout.
pub data Piece (s after : Bytes) : Type 0 where
  a_run : is_run is_name_byte s ≡ true → starts_with is_name_byte after ≡ false → Piece s after
  two_bytes : s ≡ bytes ":-" → Piece s after
  one_byte : (b : ℕ) → s ≡ b ∷ [] → is_name_byte b ≡ false → (Layout b → ⊥) → ((rest : Bytes) → b ∷ after ≡ bytes ":-" ++ rest → ⊥) → Piece s after

-- What a token with these bytes is to the grammar; the first value tells whether layout stands right before it. `(` opens where none
-- does, whatever the token before it is. `.` ends a clause where layout or nothing comes after it.
pub data Known (apart : Bool) (s after : Bytes) : Mark → Type 0 where
  a_name : is_run is_lower s ≡ true → Known apart s after (name s)
  a_variable : is_run is_upper s ≡ true → Known apart s after (variable s)
  the_lone : s ≡ bytes "_" → Known apart s after (variable s)
  an_opening : s ≡ bytes "(" → apart ≡ false → Known apart s after opens
  a_closing : s ≡ bytes ")" → Known apart s after closes
  a_comma : s ≡ bytes "," → Known apart s after comma
  a_neck : s ≡ bytes ":-" → Known apart s after neck
  a_stop : (b : ℕ) (rest : Bytes) → s ≡ bytes "." → after ≡ b ∷ rest → Layout b → Known apart s after stop
  last_stop : s ≡ bytes "." → after ≡ [] → Known apart s after stop

-- It is stray only where it is nothing else.
pub data Marked (apart : Bool) (s after : Bytes) : Mark → Type 0 where
  known : {m : Mark} → Known apart s after m → Marked apart s after m
  unknown : ((m : Mark) → Known apart s after m → ⊥) → Marked apart s after (stray s)

-- What is left of a text from a place on: nothing, a byte of layout, or a token whose first byte has that place; and so on after it.
pub data CutFrom : Bool → ℕ → Bytes → List Token → Type 0 where
  nothing_left : {apart : Bool} {place : ℕ} → CutFrom apart place [] []
  layout_first : {apart : Bool} {place : ℕ} {b : ℕ} {text : Bytes} {ts : List Token} → Layout b → CutFrom true (place + 1) text ts → CutFrom apart place (b ∷ text) ts
  token_first : {apart : Bool} {place : ℕ} {s text : Bytes} {m : Mark} {ts : List Token} → Piece s text → Marked apart s text m → CutFrom false (place + length s) text ts
      → CutFrom apart place (s ++ text) (token m place ∷ ts)

-- The text is cut into these tokens.
abbrev pub Cut : Bytes → List Token → Type 0
Cut text ts = CutFrom false 0 text ts
