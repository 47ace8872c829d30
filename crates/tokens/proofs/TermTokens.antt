-- The arities and the variables of a term, token by token: those of its symbols, and the tokens spelled as a variable.
use mathlib.Core.Path.{◌≡◌, refl, ◌∙◌, ap}
use mathlib.Core.Bool.{true, false, cond}
use mathlib.Core.List.{List, [], ◌∷◌, append-nil}
use mathlib.Core.Option.{Option, some, none, map, some-injective, none-ne-some}
use Prim.Native.Nat.{ℕ}
use Rattle.theory.specs.Text.{Bytes, parts_at, is_variable}
use Rattle.theory.specs.Terms.{Term, variable, symbol, Terms, nil, cons, Token, variable_named, symbol_of, no_token, token_of, after, after_all, terms_of, the_only, read_term, variables, all_variables}
use Rattle.theory.specs.Sizes.{arities_of, all_arities}
use Rattle.theory.proofs.Reading.Tokens.{ReadAs, as_variable, as_symbol, as_none, read_as}
use Rattle.tokens.proofs.TokenKinds.{symbol_token_lem}
use Rattle.tokens.proofs.FirstTerms.{FirstOf, enough, too_few, first_given_lem}

-- with the arity of a token in front, where it is a symbol
unfoldable pub with_arity : Token → List ℕ → List ℕ
with_arity (variable_named x) later = later
with_arity (symbol_of f k) later = k ∷ later
with_arity no_token later = later

unfoldable pub token_arities : List Bytes → List ℕ
token_arities [] = []
token_arities (w ∷ ws) = with_arity (token_of w) (token_arities ws)

unfoldable pub variable_tokens : List Bytes → List Bytes
variable_tokens [] = []
variable_tokens (w ∷ ws) = cond (is_variable w) (w ∷ variable_tokens ws) (variable_tokens ws)

-- ---- one token more

module _ (w : Bytes) (ws : List Bytes) where
  pub arities_symbol : (f : Bytes) (k : ℕ) → token_of w ≡ symbol_of f k → token_arities (w ∷ ws) ≡ k ∷ token_arities ws
  unfolding token_arities with_arity
  arities_symbol f k e = rw e

  pub arities_variable : token_of w ≡ variable_named w → token_arities (w ∷ ws) ≡ token_arities ws
  unfolding token_arities with_arity
  arities_variable e = rw e

  pub variable_first : is_variable w ≡ true → variable_tokens (w ∷ ws) ≡ w ∷ variable_tokens ws
  unfolding variable_tokens
  variable_first e = rw e

  pub other_first : is_variable w ≡ false → variable_tokens (w ∷ ws) ≡ variable_tokens ws
  unfolding variable_tokens
  other_first e = rw e

-- ---- the tokens and the terms read

-- what tokens are read as, with their arities and variables
data Listed (ws : List Bytes) : Option Terms → Type 0 where
  listed : (ts : Terms) → token_arities ws ≡ all_arities ts → variable_tokens ws ≡ all_variables ts → Listed ws (some ts)
  unread : Listed ws none

listed_in_front : (w : Bytes) (ws : List Bytes) (us : Terms) → token_arities ws ≡ all_arities us → variable_tokens ws ≡ all_variables us → {token : Token} → ReadAs w token → token_of w ≡ token → Listed (w ∷ ws) (after token us)
unfolding after arities_of variables
listed_in_front w ws us numbers names (as_variable h) e =
    listed (cons (variable w) us) (arities_variable w ws e ∙ numbers) (variable_first w ws h ∙ ap (λ l. w ∷ l) names)
listed_in_front w ws us numbers names (as_symbol {f = f} {k = k} is named few) e = with_arguments (first_given_lem k us)
  where
    with_arguments : {o : Option (Terms × Terms)} → FirstOf k us o → Listed (w ∷ ws) (map (λ (p : Terms × Terms). cons (symbol f p.0) p.1) o)
    with_arguments (enough first rest cut) =
        listed
        (cons (symbol f first) rest)
        (rw (arities_symbol w ws f k e, numbers, cut.arities_join, cut.taken))
        (other_first w ws (symbol_token_lem w f k e) ∙ names ∙ cut.variables_join)
    with_arguments (too_few h) = unread
listed_in_front w ws us numbers names as_none e = unread

terms_listed : (ws : List Bytes) → Listed ws (terms_of ws)
unfolding terms_of after_all token_arities variable_tokens all_arities all_variables
terms_listed [] = listed nil refl refl
terms_listed (w ∷ ws) = in_front_lem (terms_listed ws)
  where
    in_front_lem : {o : Option Terms} → Listed ws o → Listed (w ∷ ws) (after_all (token_of w) o)
    in_front_lem (listed us numbers names) = listed_in_front w ws us numbers names (read_as w) refl
    in_front_lem unread = unread

-- ---- a field that is a term

pub record TermTokens (field : Bytes) (t : Term) : Type 0 where
  pub numbers : token_arities (parts_at 32 field) ≡ arities_of t
  pub names : variable_tokens (parts_at 32 field) ≡ variables t

pub term_tokens : (field : Bytes) (t : Term) → read_term field ≡ some t → TermTokens field t
unfolding read_term the_only all_arities all_variables
term_tokens field t e = only (terms_listed (parts_at 32 field)) e
  where
    only : {o : Option Terms} → Listed (parts_at 32 field) o → the_only o ≡ some t → TermTokens field t
    only (listed nil numbers names) e = absurd (none-ne-some t e)
    only (listed (cons u nil) numbers names) e =
        let same : u ≡ t = some-injective u t e in
        record { numbers = numbers ∙ append-nil (arities_of u) ∙ ap arities_of same; names = names ∙ append-nil (variables u) ∙ ap variables same }
    only (listed (cons u (cons v ts)) numbers names) e = absurd (none-ne-some t e)
    only unread e = absurd (none-ne-some t e)
