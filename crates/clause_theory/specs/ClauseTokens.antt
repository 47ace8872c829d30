-- Document 02, 6/14: the tokens of a clause text: runs of letters, digits and underscores, `:-`, and single bytes for all that is
-- neither; spaces and line ends, the layout, stand around them. Cutting says the same in words, for every text.
use Rattle.std.specs.Prelude.{Bool, true, false, cond, not, ◌&&◌, ◌||◌, List, [], ◌∷◌, ℕ, zero, suc, eqb, length, take}
use Prim.Native.Char.{code}
use Rattle.theory.specs.Lists.{is_empty}
use Rattle.theory.specs.Text.{Bytes, is_lower, is_upper, is_name_byte}

-- What a token is to the grammar.
pub data Mark : Type 0 where
  -- a run that begins with a small letter
  name : Bytes → Mark
  -- a run that begins with a capital, or the lone `_`
  variable : Bytes → Mark
  -- `(` with no layout before it
  opens : Mark
  -- `)`, `,` and `:-`
  closes comma neck : Mark
  -- `.` before a space, a line end or the end of the text
  stop : Mark
  -- any other token, with its bytes: it stands in no clause
  stray : Bytes → Mark

-- a token: what it is, and the place of its first byte, from 0
pub record Token : Type 0 where
  pub mark : Mark
  pub place : ℕ

abbrev pub token : Mark → ℕ → Token
token m i = record { mark = m; place = i }

unfoldable pub is_layout : ℕ → Bool
is_layout b = eqb b 32 || eqb b 10

-- the bytes of a name at the front
unfoldable pub run : Bytes → Bytes
run [] = []
run (b ∷ bs) = cond (is_name_byte b) (b ∷ run bs) []

-- a byte is the first of `:-`
unfoldable pub is_neck : ℕ → Bytes → Bool
is_neck b [] = false
is_neck b (c ∷ bs) = eqb b (code ":") && eqb c (code "-")

-- a byte is `.`, and layout or nothing comes after it
unfoldable pub is_stop : ℕ → Bytes → Bool
is_stop b [] = eqb b (code ".")
is_stop b (c ∷ bs) = eqb b (code ".") && is_layout c

-- how many bytes of a token come after its first one
unfoldable pub bytes_after : ℕ → Bytes → ℕ
bytes_after b bs = cond (is_name_byte b) (length (run bs)) (cond (is_neck b bs) 1 0)

-- what a token is that is neither a name nor a variable
unfoldable pub sign_of : Bool → ℕ → Bytes → Mark
sign_of apart b bs =
    cond (eqb b (code "(") && not apart) opens
    (cond (eqb b (code ")")) closes
    (cond (eqb b (code ",")) comma
    (cond (is_neck b bs) neck
    (cond (is_stop b bs) stop (stray (b ∷ take (bytes_after b bs) bs))))))

-- What the token is that begins with byte b, where bs comes after it; the first value tells whether layout stands before it.
unfoldable pub mark_of : Bool → ℕ → Bytes → Mark
mark_of apart b bs =
    cond (is_lower b) (name (b ∷ run bs))
    (cond (is_upper b) (variable (b ∷ run bs))
    (cond (eqb b (code "_") && is_empty (run bs)) (variable (b ∷ [])) (sign_of apart b bs)))

-- The tokens from a place on, when so many bytes of a token are still to pass; the first value tells as above.
unfoldable pub tokens_from : Bool → ℕ → ℕ → Bytes → List Token
tokens_from apart left place [] = []
tokens_from apart (suc left) place (b ∷ bs) = tokens_from apart left (suc place) bs
tokens_from apart zero place (b ∷ bs) =
    cond (is_layout b) (tokens_from true zero (suc place) bs)
    (token (mark_of apart b bs) place ∷ tokens_from false (bytes_after b bs) (suc place) bs)

-- The tokens of a text.
abbrev pub tokens_of : Bytes → List Token
tokens_of text = tokens_from false 0 0 text
