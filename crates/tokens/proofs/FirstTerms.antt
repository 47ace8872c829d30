-- Terms cut after the first k: how many they are, their arities and their variables, before the cut and after it.
use mathlib.Core.Path.{◌≡◌, refl, sym, ◌∙◌, ap}
use mathlib.Core.List.{◌++◌, append_assoc}
use mathlib.Core.Option.{Option, some, none, map}
use Prim.Native.Nat.{ℕ, zero, suc, ◌+◌, ◌<◌}
use native.Mathlib.Omega.{arith}
use Rattle.theory.specs.Terms.{Terms, nil, cons, arity, first_terms, variables, all_variables}
use Rattle.theory.specs.Sizes.{arities_of, all_arities}

pub record CutAt (k : ℕ) (ts first rest : Terms) : Type 0 where
  pub taken : arity first ≡ k
  pub count : arity ts ≡ k + arity rest
  pub arities_join : all_arities ts ≡ all_arities first ++ all_arities rest
  pub variables_join : all_variables ts ≡ all_variables first ++ all_variables rest

-- the first k of some terms with the others, or none because there are fewer
pub data FirstOf (k : ℕ) (ts : Terms) : Option (Terms × Terms) → Type 0 where
  enough : (first rest : Terms) → CutAt k ts first rest → FirstOf k ts (some (first, rest))
  too_few : arity ts < k → FirstOf k ts none

pub first_given_lem : (k : ℕ) (ts : Terms) → FirstOf k ts (first_terms k ts)
unfolding first_terms arity all_arities all_variables
first_given_lem zero ts = enough nil ts (record { taken = refl; count = omega arith; arities_join = refl; variables_join = refl })
first_given_lem (suc k) nil = too_few (omega arith)
first_given_lem (suc k) (cons t ts) = one_more_lem (first_given_lem k ts)
  where
    one_more_lem : {o : Option (Terms × Terms)} → FirstOf k ts o → FirstOf (suc k) (cons t ts) (map (λ (p : Terms × Terms). (cons t p.0, p.1)) o)
    one_more_lem (enough first rest cut) =
        enough (cons t first) rest
        (record {
          taken = ap suc cut.taken;
          count = omega arith;
          arities_join = ap (λ ns. arities_of t ++ ns) cut.arities_join ∙ sym (append_assoc (arities_of t) (all_arities first) (all_arities rest));
          variables_join = ap (λ vs. variables t ++ vs) cut.variables_join ∙ sym (append_assoc (variables t) (all_variables first) (all_variables rest));
        })
    one_more_lem (too_few h) = too_few (omega arith)
