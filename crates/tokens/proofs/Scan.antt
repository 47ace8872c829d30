-- The tokens of a field, scanned from the left with the number of terms still wanted: all is well exactly if the field is a term.
use mathlib.Core.Path.{◌≡◌, refl, sym, ◌∙◌, ap, fun_ext}
use mathlib.Core.Bool.{Bool, false}
use mathlib.Core.List.{List, [], ◌∷◌}
use mathlib.Core.Option.{Option, some, none, map}
use Prim.Native.Nat.{ℕ, zero, suc, ◌+◌, ◌-◌, ◌<◌}
use native.Mathlib.Omega.{arith}
use lib.Dec.{eqb, eqb-zero-suc, eqb-suc-suc}
use Rattle.groundwork.proofs.Truth.{by_truth, eqb-equal, eqb-unequal, equal-eqb, eqb-different}
use Rattle.theory.specs.Lists.{is_some}
use Rattle.theory.specs.Text.{Bytes, parts_at}
use Rattle.theory.specs.Terms.{Terms, nil, cons, symbol, arity, Token, variable_named, symbol_of, no_token, token_of, after, after_all, terms_of, the_only, read_term}
use Rattle.theory.specs.Faults.{is_term}
use Rattle.tokens.proofs.FirstTerms.{FirstOf, enough, too_few, first_given_lem}

-- one token, where some terms are wanted, and the rest of the scan by what is wanted then
unfoldable pub scan_token : ℕ → Token → (ℕ → Bool) → Bool
scan_token zero token rest = false
scan_token (suc p) (variable_named x) rest = rest p
scan_token (suc p) (symbol_of f k) rest = rest (p + k)
scan_token (suc p) no_token rest = false

-- A variable takes a term that is wanted; a symbol takes one and asks as many as its arity; at the end none may be wanted.
unfoldable pub scan : ℕ → List Bytes → Bool
scan wanted [] = eqb wanted 0
scan wanted (w ∷ ws) = scan_token wanted (token_of w) (λ (p : ℕ). scan p ws)

-- ---- a step of the scan

module _ (w : Bytes) (ws : List Bytes) where
  pub scan_unwanted : scan 0 (w ∷ ws) ≡ false
  unfolding scan scan_token
  scan_unwanted = refl

  scan_variable : (p : ℕ) → token_of w ≡ variable_named w → scan (suc p) (w ∷ ws) ≡ scan p ws
  unfolding scan scan_token
  scan_variable p e = rw e

  scan_symbol : (p : ℕ) (f : Bytes) (k : ℕ) → token_of w ≡ symbol_of f k → scan (suc p) (w ∷ ws) ≡ scan (p + k) ws
  unfolding scan scan_token
  scan_symbol p f k e = rw e

  -- the same, with what is wanted before as a number above 0
  pub scan_takes_variable : (p : ℕ) → 0 < p → token_of w ≡ variable_named w → scan p (w ∷ ws) ≡ scan (p - 1) ws
  scan_takes_variable zero wanted e = absurd (omega arith)
  scan_takes_variable (suc p) wanted e = scan_variable p e ∙ ap (λ q. scan q ws) (omega arith)

  pub scan_takes_symbol : (p : ℕ) (f : Bytes) (k : ℕ) → 0 < p → token_of w ≡ symbol_of f k → scan p (w ∷ ws) ≡ scan (p - 1 + k) ws
  scan_takes_symbol zero f k wanted e = absurd (omega arith)
  scan_takes_symbol (suc p) f k wanted e = scan_symbol p f k e ∙ ap (λ q. scan q ws) (omega arith)

  pub scan_no_token : (p : ℕ) → token_of w ≡ no_token → scan p (w ∷ ws) ≡ false
  unfolding scan scan_token
  scan_no_token zero e = refl
  scan_no_token (suc p) e = rw e

pub scan_end : (p : ℕ) → scan p [] ≡ eqb p 0
unfolding scan
scan_end p = refl

-- ---- the scan and the terms read

-- there are as many terms as are wanted
as_many : ℕ → Option Terms → Bool
as_many wanted none = false
as_many wanted (some ts) = eqb wanted (arity ts)

-- two tests that decide the same
same_test : (i j k l : ℕ) → (i ≡ j → k ≡ l) → (k ≡ l → i ≡ j) → eqb i j ≡ eqb k l
same_test i j k l f g =
    by_truth (λ b. b ≡ eqb k l) (eqb i j) (λ e. sym (equal-eqb k l (f (eqb-equal i j e)))) (λ e. sym (eqb-different k l (λ h. eqb-unequal i j e (g h))))

scan_in_front : (p : ℕ) (token : Token) (ts : Terms) → scan_token p token (λ (q : ℕ). eqb q (arity ts)) ≡ as_many p (after token ts)
unfolding scan_token as_many after arity
scan_in_front zero (variable_named x) ts = sym (eqb-zero-suc (arity ts))
scan_in_front zero (symbol_of f k) ts = none_wanted (first_given_lem k ts)
  where
    none_wanted : {o : Option (Terms × Terms)} → FirstOf k ts o → false ≡ as_many zero (map (λ (p : Terms × Terms). cons (symbol f p.0) p.1) o)
    none_wanted (enough first rest cut) = sym (eqb-zero-suc (arity rest))
    none_wanted (too_few h) = refl
scan_in_front zero no_token ts = refl
scan_in_front (suc p) (variable_named x) ts = sym (eqb-suc-suc p (arity ts))
scan_in_front (suc p) (symbol_of f k) ts = some_wanted (first_given_lem k ts)
  where
    some_wanted : {o : Option (Terms × Terms)} → FirstOf k ts o → eqb (p + k) (arity ts) ≡ as_many (suc p) (map (λ (p : Terms × Terms). cons (symbol f p.0) p.1) o)
    some_wanted (enough first rest cut) = same_test (p + k) (arity ts) (suc p) (suc (arity rest)) (λ e. omega arith) (λ e. omega arith)
    some_wanted (too_few h) = eqb-different (p + k) (arity ts) (λ e. omega arith)
scan_in_front (suc p) no_token ts = refl

scan_in_front_of_all : (p : ℕ) (token : Token) (o : Option Terms) → scan_token p token (λ (q : ℕ). as_many q o) ≡ as_many p (after_all token o)
unfolding scan_token as_many after_all
scan_in_front_of_all zero token none = refl
scan_in_front_of_all (suc p) (variable_named x) none = refl
scan_in_front_of_all (suc p) (symbol_of f k) none = refl
scan_in_front_of_all (suc p) no_token none = refl
scan_in_front_of_all p token (some ts) = scan_in_front p token ts

scan_counts : (ws : List Bytes) (p : ℕ) → scan p ws ≡ as_many p (terms_of ws)
unfolding scan as_many terms_of arity
scan_counts [] p = refl
scan_counts (w ∷ ws) p = ap (scan_token p (token_of w)) (fun_ext (scan_counts ws)) ∙ scan_in_front_of_all p (token_of w) (terms_of ws)

one_term : (o : Option Terms) → as_many 1 o ≡ is_some (the_only o)
unfolding as_many the_only is_some arity
one_term none = refl
one_term (some nil) = refl
one_term (some (cons t nil)) = refl
one_term (some (cons t (cons u ts))) = eqb-different 1 (suc (suc (arity ts))) (λ e. omega arith)

pub scan_is_term : (field : Bytes) → scan 1 (parts_at 32 field) ≡ is_term field
unfolding read_term
scan_is_term field = scan_counts (parts_at 32 field) 1 ∙ one_term (terms_of (parts_at 32 field))
