-- The test of a clause says what 01's limits are.
use mathlib.Core.Path.{◌≡◌, refl}
use mathlib.Core.Logic.{◌⊎◌, inl, inr, ⊎_elim}
use mathlib.Core.Bool.{Bool, true, cond, ◌&&◌}
use mathlib.Core.List.Memᴰ
use mathlib.Core.List.{List, [], ◌∷◌, ◌++◌}
use Prim.Native.Nat.{◌≤◌}
use native.Mathlib.Omega.{arith}
use lib.Dec.{leb}
use lib.ListN.{length}
use Rattle.groundwork.proofs.Lists.{end_cases}
use Rattle.groundwork.proofs.Truth.{by_truth, and_left, and_right, and_both, leb-le, le-leb}
use Rattle.theory.specs.Lists.{◌∈◌, every}
use Rattle.theory.specs.Text.{Bytes, among, is_name}
use Rattle.theory.specs.Terms.{Term, Terms, variable, symbol, nil, cons, arity, WellFormed, AllWellFormed}
use Rattle.theory.specs.Packs.{Atom, line_limit, subgoal_limit, variable_limit}
use Rattle.theory.specs.Residuals.{numbered, rule_variables}
use Rattle.clause_theory.specs.Clauses.{Clause}
use Rattle.clause_theory.specs.Import.{clause_variables, clause_lines, term_fits, terms_fit, atom_fits, line_fits, clause_fits}
use Rattle.clause_theory.specs.Imported.{AtomWithin, FewVariables, ClauseWithin, LimitsKept}
use Rattle.clause_theory.proofs.Distinct.{once_few}
use Rattle.clause_theory.proofs.Freshness.{stands_from, from_stands}
use Rattle.theory.proofs.Judging.Variables.{member_numbered, rule_variables_once}
use Rattle.theory.proofs.Reading.Every.{every_member, members_every}

mutual
  unfolding term_fits

  fit_formed : (t : Term) → term_fits t ≡ true → WellFormed t
  fit_formed (variable x) h = h
  fit_formed (symbol f ts) h =
      let front = and_left (is_name f && leb (arity ts) 9) (terms_fit ts) h in
      (and_left (is_name f) (leb (arity ts) 9) front, leb-le (arity ts) 9 (and_right (is_name f) (leb (arity ts) 9) front), fit_all_formed ts (and_right (is_name f && leb (arity ts) 9) (terms_fit ts) h))

  fit_all_formed : (ts : Terms) → terms_fit ts ≡ true → AllWellFormed ts
  fit_all_formed nil h = tt
  fit_all_formed (cons t ts) h = (fit_formed t (and_left (term_fits t) (terms_fit ts) h), fit_all_formed ts (and_right (term_fits t) (terms_fit ts) h))

mutual
  unfolding term_fits

  formed_fits : (t : Term) → WellFormed t → term_fits t ≡ true
  formed_fits (variable x) h = h
  formed_fits (symbol f ts) h = and_both (is_name f && leb (arity ts) 9) (terms_fit ts) (and_both (is_name f) (leb (arity ts) 9) h.0 (le-leb (arity ts) 9 h.1)) (all_formed_fit ts h.2)

  all_formed_fit : (ts : Terms) → AllWellFormed ts → terms_fit ts ≡ true
  all_formed_fit nil h = refl
  all_formed_fit (cons t ts) h = and_both (term_fits t) (terms_fit ts) (formed_fits t h.0) (all_formed_fit ts h.1)

module _ (a : Atom) where
  front : Bool
  front = is_name a.name && leb (arity a.terms) 8

  fit_within : atom_fits a ≡ true → AtomWithin a
  unfolding atom_fits front
  fit_within h =
      let both = and_left front (terms_fit a.terms) h in
      record {
        named = and_left (is_name a.name) (leb (arity a.terms) 8) both;
        few = leb-le (arity a.terms) 8 (and_right (is_name a.name) (leb (arity a.terms) 8) both);
        formed = fit_all_formed a.terms (and_right front (terms_fit a.terms) h);
      }

  within_fits : AtomWithin a → atom_fits a ≡ true
  unfolding atom_fits front
  within_fits w = and_both front (terms_fit a.terms) (and_both (is_name a.name) (leb (arity a.terms) 8) w.named (le-leb (arity a.terms) 8 w.few)) (all_formed_fit a.terms w.formed)

-- ---- variables

-- what is numbered was seen or is one of them
numbered_from_lem : (seen ys : List Bytes) {x : Bytes} → x ∈ numbered seen ys → (x ∈ seen) ⊎ (x ∈ ys)
unfolding numbered
numbered_from_lem seen [] m = inl m
numbered_from_lem seen (y ∷ ys) {x} m = ⊎_elim (by_truth (λ b. x ∈ cond b seen (seen ++ (y ∷ [])) → (x ∈ seen) ⊎ (x ∈ (y ∷ ys))) (among y seen) (λ _ n. inl n) (λ _ n. ⊎_elim inl (λ e. inr (Memᴰ.head e)) (end_cases seen n)))
    (λ n. inr (Memᴰ.tail n)) (numbered_from_lem (cond (among y seen) seen (seen ++ (y ∷ []))) ys m)

pub variables_few : (c : Clause) → FewVariables c → length (rule_variables c.head c.subgoals) ≤ variable_limit
unfolding rule_variables
variables_few c few =
    omega (
      arith,
      few.few,
      once_few (rule_variables_once c.head c.subgoals) few.variables
          (λ x m. ⊎_elim (λ none. absurd (Memᴰ.not-nil none)) (λ n. few.all x (stands_from c x n)) (numbered_from_lem [] (clause_variables c) m)),
    )

few_variables_lem : (c : Clause) → length (rule_variables c.head c.subgoals) ≤ variable_limit → FewVariables c
unfolding rule_variables
few_variables_lem c few = record { variables = rule_variables c.head c.subgoals; few = few; all = λ x s. member_numbered [] (clause_variables c) (from_stands c x s) }

-- ---- all of it

pub limits_kept : (c : Clause) → LimitsKept c
unfolding clause_fits
limits_kept c = record { fits = (from, to) }
  where
    atoms : Bool
    atoms = every atom_fits (c.head ∷ c.subgoals)

    subgoals : Bool
    subgoals = leb (length c.subgoals) subgoal_limit

    variables : Bool
    variables = leb (length (rule_variables c.head c.subgoals)) variable_limit

    lines : Bool
    lines = every line_fits (clause_lines c)

    from : clause_fits c ≡ true → ClauseWithin c
    from h =
        let three = and_left (atoms && subgoals && variables) lines h in
        let two = and_left (atoms && subgoals) variables three in
        record {
          atoms = λ a m. fit_within a (every_member atom_fits (and_left atoms subgoals two) m);
          subgoals = leb-le (length c.subgoals) subgoal_limit (and_right atoms subgoals two);
          variables = few_variables_lem c (leb-le (length (rule_variables c.head c.subgoals)) variable_limit (and_right (atoms && subgoals) variables three));
          lines = λ l m. leb-le (length l) line_limit (every_member line_fits (and_right (atoms && subgoals && variables) lines h) m);
        }

    to : ClauseWithin c → clause_fits c ≡ true
    to w =
        and_both (atoms && subgoals && variables) lines
        (and_both (atoms && subgoals) variables
        (and_both atoms subgoals (members_every atom_fits (c.head ∷ c.subgoals) (λ a m. within_fits a (w.atoms a m))) (le-leb (length c.subgoals) subgoal_limit w.subgoals))
        (le-leb (length (rule_variables c.head c.subgoals)) variable_limit (variables_few c w.variables)))
        (members_every line_fits (clause_lines c) (λ l m. le-leb (length l) line_limit (w.lines l m)))
