-- Document 01, "Terms and their size": terms, how they are written and read, ground terms, substitutions. Their sizes are in Sizes.
use Rattle.std.specs.Prelude.{◌≡◌, true, cond, List, [], ◌∷◌, ◌++◌, ℕ, zero, suc, ◌≤◌}
use Rattle.std.proofs.Math.Option.{Option, some, none, map}
use Prim.Native.Char.{code}
use Rattle.theory.specs.Text.{Bytes, parts_at, joined, is_name, is_variable, natural, decimal}

-- A term: a variable by its name, or a symbol by its name with its arguments. A symbol's arity is their number.
mutual
  pub data Term : Type 0 where
    variable : Bytes → Term
    symbol : Bytes → Terms → Term

  pub data Terms : Type 0 where
    nil : Terms
    cons : Term → Terms → Terms

unfoldable pub arity : Terms → ℕ
arity nil = 0
arity (cons t ts) = suc (arity ts)

-- ## How a term is written: its tokens in prefix order, parted by one space

-- a symbol's token: its name, `/` and its arity
unfoldable pub symbol_token : Bytes → ℕ → Bytes
symbol_token name k = name ++ code "/" ∷ decimal k

unfoldable mutual
  pub tokens : Term → List Bytes
  tokens (variable x) = x ∷ []
  tokens (symbol f ts) = symbol_token f (arity ts) ∷ all_tokens ts

  pub all_tokens : Terms → List Bytes
  all_tokens nil = []
  all_tokens (cons t ts) = tokens t ++ all_tokens ts

unfoldable pub written_term : Term → Bytes
written_term t = joined (code " ") (tokens t)

-- what may stand in a term: names that are names, variables that are variables, arities of one digit
abbrev mutual
  pub WellFormed : Term → Type 0
  WellFormed (variable x) = is_variable x ≡ true
  WellFormed (symbol f ts) = (is_name f ≡ true) × (arity ts ≤ 9) × AllWellFormed ts

  pub AllWellFormed : Terms → Type 0
  AllWellFormed nil = Unit {0}
  AllWellFormed (cons t ts) = WellFormed t × AllWellFormed ts

-- the bytes are such a term, written
pub record WrittenAs (t : Term) (bs : Bytes) : Type 0 where
  pub is : bs ≡ written_term t
  pub formed : WellFormed t

-- ## How a field is read: its tokens from the last to the first, where a symbol of arity k takes the k terms after it

pub data Token : Type 0 where
  variable_named : Bytes → Token
  symbol_of : Bytes → ℕ → Token
  no_token : Token

unfoldable pub symbol_from : Bytes → Option ℕ → Token
symbol_from name none = no_token
symbol_from name (some k) = symbol_of name k

-- of the parts at each `/`: two of them, a name and one digit
unfoldable pub symbol_in : List Bytes → Token
symbol_in [] = no_token
symbol_in (name ∷ []) = no_token
symbol_in (name ∷ digit ∷ []) = cond (is_name name) (symbol_from name (natural 9 digit)) no_token
symbol_in (name ∷ digit ∷ next ∷ rest) = no_token

unfoldable pub token_of : Bytes → Token
token_of bs = cond (is_variable bs) (variable_named bs) (symbol_in (parts_at (code "/") bs))

-- the first k of some terms, and the others
unfoldable pub first_terms : ℕ → Terms → Option (Terms × Terms)
first_terms zero ts = some (nil, ts)
first_terms (suc k) nil = none
first_terms (suc k) (cons t ts) = map (λ (p : Terms × Terms). (cons t p.0, p.1)) (first_terms k ts)

-- the terms that a token and the terms after it make
unfoldable pub after : Token → Terms → Option Terms
after (variable_named x) ts = some (cons (variable x) ts)
after (symbol_of f k) ts = map (λ (p : Terms × Terms). cons (symbol f p.0) p.1) (first_terms k ts)
after no_token ts = none

unfoldable pub after_all : Token → Option Terms → Option Terms
after_all token none = none
after_all token (some ts) = after token ts

-- the terms that tokens write, one after another
unfoldable pub terms_of : List Bytes → Option Terms
terms_of [] = some nil
terms_of (w ∷ ws) = after_all (token_of w) (terms_of ws)

unfoldable pub the_only : Option Terms → Option Term
the_only none = none
the_only (some nil) = none
the_only (some (cons t nil)) = some t
the_only (some (cons t (cons u ts))) = none

-- The term that a field writes, nothing left over; or the field is no term.
unfoldable pub read_term : Bytes → Option Term
read_term field = the_only (terms_of (parts_at (code " ") field))

-- ## Variables, ground terms, substitutions

-- The variables of a term as they occur, from left to right.
unfoldable mutual
  pub variables : Term → List Bytes
  variables (variable x) = x ∷ []
  variables (symbol f ts) = all_variables ts

  pub all_variables : Terms → List Bytes
  all_variables nil = []
  all_variables (cons t ts) = variables t ++ all_variables ts

-- A ground term is one without variables.
abbrev pub IsGround : Term → Type 0
IsGround t = variables t ≡ []

abbrev pub AllGround : Terms → Type 0
AllGround ts = all_variables ts ≡ []

-- A substitution gives a ground term for each variable.
pub record Substitution : Type 0 where
  pub for : Bytes → Term
  pub ground : (x : Bytes) → IsGround (for x)

-- a term under a substitution
unfoldable mutual
  pub under : Substitution → Term → Term
  under σ (variable x) = σ.for x
  under σ (symbol f ts) = symbol f (all_under σ ts)

  pub all_under : Substitution → Terms → Terms
  all_under σ nil = nil
  all_under σ (cons t ts) = cons (under σ t) (all_under σ ts)
