-- A clause within the limits has variables within the limits: few, and none too long.
use mathlib.Core.Path.{◌≡◌, refl, sym, ◌∙◌, ap, subst}
use mathlib.Core.Logic.{⊎_elim}
use mathlib.Core.Bool.{true, false, cond, ◌&&◌}
use mathlib.Core.List.Memᴰ
use mathlib.Core.List.{List, [], ◌∷◌}
use Prim.Native.Nat.{ℕ, suc, ◌+◌, ◌≤◌, ◌<◌}
use native.Mathlib.Omega.{arith}
use lib.Dec.{leb}
use lib.ListN.{length}
use Rattle.groundwork.proofs.Truth.{by_truth, never_both, and_left, and_right, leb-le}
use Rattle.theory.specs.Lists.{◌∈◌, every}
use Rattle.theory.specs.Text.{Bytes, is_name, is_variable}
use Rattle.theory.specs.Terms.{Term, Terms, symbol, nil, cons, arity, variables, all_variables}
use Rattle.theory.specs.Terms as T
use Rattle.theory.specs.Packs.{Atom, subgoal_limit, variable_limit}
use Rattle.theory.specs.Residuals.{numbered, atoms_variables, rule_variables}
use Rattle.clause_theory.specs.ClauseTokens.{Mark, name, variable, opens, closes, comma, neck, stop, stray}
use Rattle.clause_theory.specs.Clauses.{Clause, clause_marks}
use Rattle.clause_theory.specs.Import.{clause_variables, is_lone, lones, nth, fresh_of, filled, clause_lines, term_fits, terms_fit, atom_fits, line_fits, clause_fits}
use Rattle.clause_theory.proofs.Filling.{mark_variables, filled_marks, clause_variables_lem, filled_marks_lem}
use Rattle.clause_theory.proofs.FilledVariables.{named, filled_count}

-- ---- none is too long

mutual
  unfolding term_fits variables

  term_fits_variable : (t : Term) → term_fits t ≡ true → (x : Bytes) → x ∈ variables t → is_variable x ≡ true
  term_fits_variable (T.variable y) fits x (Memᴰ.head e) = ap is_variable e ∙ fits
  term_fits_variable (T.variable y) fits x (Memᴰ.tail m) = absurd (Memᴰ.not-nil m)
  term_fits_variable (symbol f ts) fits x m = terms_fit_variable ts (and_right (is_name f && leb (arity ts) 9) (terms_fit ts) fits) x m

  terms_fit_variable : (ts : Terms) → terms_fit ts ≡ true → (x : Bytes) → x ∈ all_variables ts → is_variable x ≡ true
  terms_fit_variable nil fits x m = absurd (Memᴰ.not-nil m)
  terms_fit_variable (cons t ts) fits x m =
      ⊎_elim (λ n. term_fits_variable t (and_left (term_fits t) (terms_fit ts) fits) x n) (λ n. terms_fit_variable ts (and_right (term_fits t) (terms_fit ts) fits) x n) (Memᴰ.append_cases (variables t) m)

atoms_fit_variable : (atoms : List Atom) → every atom_fits atoms ≡ true → (x : Bytes) → x ∈ atoms_variables atoms → is_variable x ≡ true
unfolding every atom_fits atoms_variables
atoms_fit_variable [] fits x m = absurd (Memᴰ.not-nil m)
atoms_fit_variable (a ∷ atoms) fits x m =
    ⊎_elim
    (terms_fit_variable a.terms (and_right (is_name a.name && leb (arity a.terms) 8) (terms_fit a.terms) (and_left (atom_fits a) (every atom_fits atoms) fits)) x)
    (atoms_fit_variable atoms (and_right (atom_fits a) (every atom_fits atoms) fits) x)
    (Memᴰ.append_cases (all_variables a.terms) m)

module _ (c : Clause) (fits : clause_fits c ≡ true) where
  -- all but the lines
  before_lines : ((every atom_fits (c.head ∷ c.subgoals) && leb (length c.subgoals) subgoal_limit) && leb (length (rule_variables c.head c.subgoals)) variable_limit) ≡ true
  unfolding clause_fits
  before_lines = and_left _ (every line_fits (clause_lines c)) fits

  pub fits_variable : (x : Bytes) → x ∈ clause_variables c → is_variable x ≡ true
  fits_variable =
      let atoms = every atom_fits (c.head ∷ c.subgoals) in
      let few = leb (length c.subgoals) subgoal_limit in
      atoms_fit_variable (c.head ∷ c.subgoals)
      (and_left atoms few (and_left (atoms && few) (leb (length (rule_variables c.head c.subgoals)) variable_limit) before_lines))

  pub fits_few : length (rule_variables c.head c.subgoals) ≤ variable_limit
  fits_few =
      let variables = length (rule_variables c.head c.subgoals) in
      leb-le variables variable_limit (and_right (every atom_fits (c.head ∷ c.subgoals) && leb (length c.subgoals) subgoal_limit) (leb variables variable_limit) before_lines)

-- ---- a variable that is named stays in the filled clause

module _ (fresh : List Bytes) (x : Bytes) (written : is_lone x ≡ false) where
  named_stays : (i : ℕ) (ms : List Mark) → x ∈ mark_variables ms → x ∈ mark_variables (filled_marks fresh i ms)
  unfolding mark_variables filled_marks
  named_stays i [] m = m
  named_stays i (name f ∷ ms) m = named_stays i ms m
  named_stays i (variable y ∷ ms) m =
      by_truth (λ b. is_lone y ≡ b → x ∈ mark_variables (cond b (variable (nth fresh i) ∷ filled_marks fresh (suc i) ms) (variable y ∷ filled_marks fresh i ms))) (is_lone y)
      (λ e lone. Memᴰ.tail (other lone (named_stays (suc i) ms) m))
      (λ e lone. same_place (named_stays i ms) m) refl
    where
      other : is_lone y ≡ true → (x ∈ mark_variables ms → x ∈ mark_variables (filled_marks fresh (suc i) ms)) → x ∈ (y ∷ mark_variables ms) → x ∈ mark_variables (filled_marks fresh (suc i) ms)
      other lone later (Memᴰ.head e) = never_both (ap is_lone e ∙ lone) written
      other lone later (Memᴰ.tail n) = later n

      same_place : (x ∈ mark_variables ms → x ∈ mark_variables (filled_marks fresh i ms)) → x ∈ (y ∷ mark_variables ms) → x ∈ (y ∷ mark_variables (filled_marks fresh i ms))
      same_place later (Memᴰ.head e) = Memᴰ.head e
      same_place later (Memᴰ.tail n) = Memᴰ.tail (later n)
  named_stays i (opens ∷ ms) m = named_stays i ms m
  named_stays i (closes ∷ ms) m = named_stays i ms m
  named_stays i (comma ∷ ms) m = named_stays i ms m
  named_stays i (neck ∷ ms) m = named_stays i ms m
  named_stays i (stop ∷ ms) m = named_stays i ms m
  named_stays i (stray s ∷ ms) m = named_stays i ms m

pub filled_named : (c : Clause) (x : Bytes) → is_lone x ≡ false → x ∈ clause_variables c → x ∈ clause_variables (filled c)
filled_named c x written m =
    subst (λ (xs : List Bytes). x ∈ xs) (ap mark_variables (filled_marks_lem c) ∙ clause_variables_lem (filled c))
    (named_stays (fresh_of c) x written 0 (clause_marks c) (subst (λ (xs : List Bytes). x ∈ xs) (sym (clause_variables_lem c)) m))

-- ---- so a clause with too many variables, or one that is too long, is past the limits when filled

module _ (c : Clause) where
  pub many_unfit : variable_limit < length (numbered [] (named (clause_variables c))) + lones (clause_variables c) → clause_fits (filled c) ≡ false
  many_unfit many = by_truth (λ b. b ≡ false) (clause_fits (filled c)) (λ fits. absurd (omega (arith, many, filled_count c, fits_few (filled c) fits))) (λ e. refl)

  pub long_unfit : (x : Bytes) → x ∈ clause_variables c → is_lone x ≡ false → is_variable x ≡ false → clause_fits (filled c) ≡ false
  long_unfit x m written long =
      by_truth (λ b. b ≡ false) (clause_fits (filled c)) (λ fits. never_both (fits_variable (filled c) fits x (filled_named c x written m)) long) (λ e. refl)
