-- How far the tokens from a place on make a clause.
use Rattle.std.specs.Prelude.{◌≡◌, false, List, [], ◌∷◌, ℕ, ◌≤◌, ◌<◌, length, Result, Ok, Err}
use Rattle.theory.specs.Text.{Bytes}
use Rattle.clause_theory.specs.ClauseTokens.{Token}
use Rattle.clause_theory.specs.Clauses.{Clause, State, begin, is_begin, refuses, goes, ends, step}
use Rattle.clause_tokens.specs.NextTokens.{tokens_at}

-- from a state the reader comes to the end of a clause, before these tokens
pub data Reaches : State → List Token → Clause → List Token → Type 0 where
  reaches_here : {s : State} {t : Token} {rest : List Token} {c : Clause} → step s t.mark ≡ ends c → Reaches s (t ∷ rest) c rest
  reaches_on : {s next : State} {t : Token} {ts rest : List Token} {c : Clause} → step s t.mark ≡ goes next → Reaches next ts c rest → Reaches s (t ∷ ts) c rest

-- from a state the reader comes to a token that can't stand there, or to the end of a text of so many bytes
pub data Fails (size : ℕ) : State → List Token → ℕ → Type 0 where
  fails_here : {s : State} {t : Token} {ts : List Token} → step s t.mark ≡ refuses → Fails size s (t ∷ ts) t.place
  fails_on : {s next : State} {t : Token} {ts : List Token} {place : ℕ} → step s t.mark ≡ goes next → Fails size next ts place → Fails size s (t ∷ ts) place
  fails_end : {s : State} → is_begin s ≡ false → Fails size s [] size

-- the place after a clause, or the place where none goes on
pub data EndFound (text : Bytes) (from : ℕ) : Result ℕ ℕ → Type 0 where
  found_clause : {place : ℕ} (c : Clause) → from < place → place ≤ length text → Reaches begin (tokens_at text from) c (tokens_at text place) → EndFound text from (Ok place)
  found_none : {place : ℕ} → Fails (length text) begin (tokens_at text from) place → EndFound text from (Err place)
