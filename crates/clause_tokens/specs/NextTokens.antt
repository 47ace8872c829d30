-- The token at a place, as numbers: what it is to the grammar, and the tokens after it.
use Rattle.std.specs.Prelude.{◌≡◌, Bool, true, false, cond, List, [], ◌∷◌, ℕ, ◌+◌, ◌≤◌, ◌<◌, eqb, leb, length, get_or, drop, Option, Some, None}
use Rattle.theory.specs.Text.{Bytes, bytes, is_name, is_variable}
use Rattle.clause_theory.specs.ClauseTokens.{name, variable, opens, closes, comma, neck, stop, stray, Token, token, is_layout, is_neck, mark_of, bytes_after, tokens_from}
use Rattle.clause_theory.specs.ClauseTokens as T
use Rattle.clause_theory.specs.Import.{is_lone}
use Rattle.clause_theory.specs.Imported.{marks}
use Rattle.text.specs.Scans.{part}
use denote.Enum.Bare.{sameb}
use Rattle.clause_tokens.specs.contracts.Mark.{the_type}
use Rattle.clause_tokens.specs.declared.Mark.{Mark}
use Rattle.clause_tokens.specs.declared.Mark.TheVariants.{Name, Variable, Lone, Opens, Closes, Comma, Neck, Stop, Stray}
use Rattle.clause_tokens.specs.declared.Token.{Token as Found}

-- the tokens from a place on, where one ends or the text begins
abbrev pub tokens_at : Bytes → ℕ → List Token
tokens_at text at = tokens_from false 0 at (drop at text)

-- what they are to the grammar
abbrev pub marks_at : Bytes → ℕ → List T.Mark
marks_at text at = marks (tokens_at text at)

-- r is the first place at or after `from` where no layout stands, or the end: the same tokens come, with layout before them
-- where a place was passed
pub record LayoutEnds (text : Bytes) (from r : ℕ) : Type 0 where
  pub low : from ≤ r
  pub high : r ≤ length text
  pub passed : tokens_at text from ≡ tokens_from (cond (eqb r from) false true) 0 r (drop r text)
  pub ended : r < length text → is_layout (get_or text r 0) ≡ false

-- a token that begins with a byte of no name
pub data Sign : Mark → T.Mark → Type 0 where
  sign_opens : Sign Opens opens
  sign_closes : Sign Closes closes
  sign_comma : Sign Comma comma
  sign_neck : Sign Neck neck
  sign_stop : Sign Stop stop
  sign_stray : {s : Bytes} → Sign Stray (stray s)

unfoldable pub sign_more : ℕ → Bytes → ℕ
sign_more b bs = cond (is_neck b bs) 1 0

-- a token with these bytes
pub data Seen (x : Bytes) : Mark → T.Mark → Type 0 where
  seen_name : is_name x ≡ leb (length x) 16 → Seen x Name (name x)
  seen_variable : is_variable x ≡ leb (length x) 16 → is_lone x ≡ false → Seen x Variable (variable x)
  seen_lone : Seen x Lone (variable (bytes "_"))
  seen_sign : {k : Mark} {m : T.Mark} → Sign k m → Seen x k m

-- a run from one place to another, whatever stands before it
pub record RunSeen (text : Bytes) (start end : ℕ) (k : Mark) : Type 0 where
  pub seen : (apart : Bool) → Seen (part text start end) k (mark_of apart (get_or text start 0) (drop (start + 1) text))

-- the first token from a place on, or none
pub data NextToken (text : Bytes) (from : ℕ) : Option Found → Type 0 where
  none_left : tokens_at text from ≡ [] → NextToken text from None
  one_found : {r : Found} (m : T.Mark) → Seen (part text r.start r.end) r.mark m → from ≤ r.start → r.start < r.end → r.end ≤ length text
      → tokens_at text from ≡ token m r.start ∷ tokens_at text r.end → NextToken text from (Some r)

-- whether a token ends a clause
abbrev pub is_stop_mark : Mark → Bool
is_stop_mark k = sameb the_type k Stop
