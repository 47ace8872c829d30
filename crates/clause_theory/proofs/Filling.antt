-- The marks of a clause: its variables stand among them in their order, and filling its `_` is filling theirs.
use mathlib.Core.Path.{◌≡◌, refl, sym, ◌∙◌, ap}
use mathlib.Core.Bool.{cond}
use mathlib.Core.List.{List, [], ◌∷◌, ◌++◌, append_assoc}
use Prim.Native.Nat.{ℕ, suc, ◌+◌}
use native.Mathlib.Nat.{zero-add}
use native.Mathlib.Omega.{arith}
use Rattle.groundwork.proofs.Truth.{by_truth}
use Rattle.theory.specs.Text.{Bytes}
use Rattle.theory.specs.Terms.{Term, Terms, symbol, nil, cons, variables, all_variables}
use Rattle.theory.specs.Terms as T
use Rattle.theory.specs.Packs.{Atom}
use Rattle.theory.specs.Residuals.{atoms_variables}
use Rattle.clause_theory.specs.ClauseTokens.{Mark, name, variable, opens, closes, comma, neck, stop, stray}
use Rattle.clause_theory.specs.Clauses.{Clause, term_marks, argument_marks, later_marks, atom_marks, body_marks, clause_marks}
use Rattle.clause_theory.specs.Import.{clause_variables, is_lone, lones, nth, fresh_of, filled_term, filled_terms, filled_atom, filled_atoms, filled}

-- ---- the variables among marks

unfoldable pub mark_variables : List Mark → List Bytes
mark_variables [] = []
mark_variables (name f ∷ ms) = mark_variables ms
mark_variables (variable x ∷ ms) = x ∷ mark_variables ms
mark_variables (opens ∷ ms) = mark_variables ms
mark_variables (closes ∷ ms) = mark_variables ms
mark_variables (comma ∷ ms) = mark_variables ms
mark_variables (neck ∷ ms) = mark_variables ms
mark_variables (stop ∷ ms) = mark_variables ms
mark_variables (stray s ∷ ms) = mark_variables ms

-- an argument and those after it
arguments_variables : (t : Term) (ts : Terms) (rest : List Mark) → mark_variables (term_marks t ++ (later_marks ts ++ rest)) ≡ variables t ++ mark_variables (later_marks ts ++ rest)
    → mark_variables (later_marks ts ++ rest) ≡ all_variables ts ++ mark_variables rest → mark_variables ((term_marks t ++ later_marks ts) ++ rest) ≡ (variables t ++ all_variables ts) ++ mark_variables rest
arguments_variables t ts rest first later = ap mark_variables (append_assoc (term_marks t) (later_marks ts) rest) ∙ first ∙ ap (λ (xs : List Bytes). variables t ++ xs) later ∙ sym (append_assoc (variables t) (all_variables ts) (mark_variables rest))

mutual
  unfolding mark_variables term_marks variables

  term_variables : (t : Term) (rest : List Mark) → mark_variables (term_marks t ++ rest) ≡ variables t ++ mark_variables rest
  term_variables (T.variable x) rest = refl
  term_variables (symbol f ts) rest = argument_variables ts rest

  argument_variables : (ts : Terms) (rest : List Mark) → mark_variables (argument_marks ts ++ rest) ≡ all_variables ts ++ mark_variables rest
  argument_variables nil rest = refl
  argument_variables (cons t ts) rest = arguments_variables t ts rest (term_variables t (later_marks ts ++ rest)) (later_variables ts rest)

  later_variables : (ts : Terms) (rest : List Mark) → mark_variables (later_marks ts ++ rest) ≡ all_variables ts ++ mark_variables rest
  later_variables nil rest = refl
  later_variables (cons t ts) rest = arguments_variables t ts rest (term_variables t (later_marks ts ++ rest)) (later_variables ts rest)

body_variables : (m : Mark) → ((ms : List Mark) → mark_variables (m ∷ ms) ≡ mark_variables ms) → (atoms : List Atom) → mark_variables (body_marks m atoms) ≡ atoms_variables atoms
unfolding mark_variables body_marks atoms_variables variables
body_variables m plain [] = refl
body_variables m plain (a ∷ atoms) = plain (atom_marks a ++ body_marks comma atoms) ∙ term_variables (symbol a.name a.terms) (body_marks comma atoms) ∙ ap (λ (xs : List Bytes). all_variables a.terms ++ xs) (body_variables comma (λ ms. refl) atoms)

pub clause_variables_lem : (c : Clause) → mark_variables (clause_marks c) ≡ clause_variables c
unfolding mark_variables clause_marks atoms_variables variables
clause_variables_lem c = term_variables (symbol c.head.name c.head.terms) (body_marks neck c.subgoals) ∙ ap (λ (xs : List Bytes). all_variables c.head.terms ++ xs) (body_variables neck (λ ms. refl) c.subgoals)

-- ---- marks with fresh variables for their `_`, from the ith of them on

unfoldable pub filled_marks : List Bytes → ℕ → List Mark → List Mark
filled_marks fresh i [] = []
filled_marks fresh i (name f ∷ ms) = name f ∷ filled_marks fresh i ms
filled_marks fresh i (variable x ∷ ms) = cond (is_lone x) (variable (nth fresh i) ∷ filled_marks fresh (suc i) ms) (variable x ∷ filled_marks fresh i ms)
filled_marks fresh i (opens ∷ ms) = opens ∷ filled_marks fresh i ms
filled_marks fresh i (closes ∷ ms) = closes ∷ filled_marks fresh i ms
filled_marks fresh i (comma ∷ ms) = comma ∷ filled_marks fresh i ms
filled_marks fresh i (neck ∷ ms) = neck ∷ filled_marks fresh i ms
filled_marks fresh i (stop ∷ ms) = stop ∷ filled_marks fresh i ms
filled_marks fresh i (stray s ∷ ms) = stray s ∷ filled_marks fresh i ms

pub lones_append : (xs ys : List Bytes) → lones (xs ++ ys) ≡ lones xs + lones ys
unfolding lones
lones_append [] ys = omega arith
lones_append (x ∷ xs) ys = by_truth (λ b. cond b (suc (lones (xs ++ ys))) (lones (xs ++ ys)) ≡ cond b (suc (lones xs)) (lones xs) + lones ys) (is_lone x) (λ e. omega (arith, lones_append xs ys)) (λ e. lones_append xs ys)

module _ (fresh : List Bytes) where
  -- an argument and those after it
  argument_filled : (i : ℕ) (t : Term) (ts : Terms) (rest : List Mark) → (let j = i + lones (variables t) in
      filled_marks fresh i (term_marks t ++ (later_marks ts ++ rest)) ≡ term_marks (filled_term fresh i t) ++ filled_marks fresh j (later_marks ts ++ rest)
      → filled_marks fresh j (later_marks ts ++ rest) ≡ later_marks (filled_terms fresh j ts) ++ filled_marks fresh (j + lones (all_variables ts)) rest
      → filled_marks fresh i ((term_marks t ++ later_marks ts) ++ rest) ≡ (term_marks (filled_term fresh i t) ++ later_marks (filled_terms fresh j ts)) ++ filled_marks fresh (i + lones (variables t ++ all_variables ts)) rest)
  argument_filled i t ts rest first later =
      let j = i + lones (variables t) in
      let count : j + lones (all_variables ts) ≡ i + lones (variables t ++ all_variables ts) = omega (arith, lones_append (variables t) (all_variables ts)) in
      ap (filled_marks fresh i) (append_assoc (term_marks t) (later_marks ts) rest)
      ∙ first
      ∙ ap (λ (ms : List Mark). term_marks (filled_term fresh i t) ++ ms) (later ∙ ap (λ (k : ℕ). later_marks (filled_terms fresh j ts) ++ filled_marks fresh k rest) count)
      ∙ sym (append_assoc (term_marks (filled_term fresh i t)) (later_marks (filled_terms fresh j ts)) (filled_marks fresh (i + lones (variables t ++ all_variables ts)) rest))

  mutual
    unfolding filled_marks term_marks filled_term variables lones

    term_filled : (i : ℕ) (t : Term) (rest : List Mark) → filled_marks fresh i (term_marks t ++ rest) ≡ term_marks (filled_term fresh i t) ++ filled_marks fresh (i + lones (variables t)) rest
    term_filled i (T.variable x) rest =
        by_truth (λ b. cond b (variable (nth fresh i) ∷ filled_marks fresh (suc i) rest) (variable x ∷ filled_marks fresh i rest)
        ≡ term_marks (cond b (T.variable (nth fresh i)) (T.variable x)) ++ filled_marks fresh (i + cond b 1 0) rest)
        (is_lone x)
        (λ e. ap (λ (j : ℕ). variable (nth fresh i) ∷ filled_marks fresh j rest) (omega arith))
        (λ e. ap (λ (j : ℕ). variable x ∷ filled_marks fresh j rest) (omega arith))
    term_filled i (symbol f ts) rest = ap (λ (ms : List Mark). name f ∷ ms) (arguments_filled i ts rest)

    arguments_filled : (i : ℕ) (ts : Terms) (rest : List Mark) → filled_marks fresh i (argument_marks ts ++ rest) ≡ argument_marks (filled_terms fresh i ts) ++ filled_marks fresh (i + lones (all_variables ts)) rest
    arguments_filled i nil rest = ap (λ (j : ℕ). filled_marks fresh j rest) (omega arith)
    arguments_filled i (cons t ts) rest = ap (λ (ms : List Mark). opens ∷ ms) (argument_filled i t ts rest (term_filled i t (later_marks ts ++ rest)) (later_filled (i + lones (variables t)) ts rest))

    later_filled : (i : ℕ) (ts : Terms) (rest : List Mark) → filled_marks fresh i (later_marks ts ++ rest) ≡ later_marks (filled_terms fresh i ts) ++ filled_marks fresh (i + lones (all_variables ts)) rest
    later_filled i nil rest = ap (λ (j : ℕ). closes ∷ filled_marks fresh j rest) (omega arith)
    later_filled i (cons t ts) rest = ap (λ (ms : List Mark). comma ∷ ms) (argument_filled i t ts rest (term_filled i t (later_marks ts ++ rest)) (later_filled (i + lones (variables t)) ts rest))

  body_filled : (m : Mark) → ((i : ℕ) (ms : List Mark) → filled_marks fresh i (m ∷ ms) ≡ m ∷ filled_marks fresh i ms) → (i : ℕ) (atoms : List Atom) → filled_marks fresh i (body_marks m atoms) ≡ body_marks m (filled_atoms fresh i atoms)
  unfolding filled_marks body_marks filled_atoms filled_atom filled_term variables
  body_filled m plain i [] = refl
  body_filled m plain i (a ∷ atoms) =
      plain i (atom_marks a ++ body_marks comma atoms)
      ∙ ap (λ (ms : List Mark). m ∷ ms) (term_filled i (symbol a.name a.terms) (body_marks comma atoms))
      ∙ ap (λ (ms : List Mark). m ∷ (atom_marks (filled_atom fresh i a) ++ ms)) (body_filled comma (λ j ms. refl) (i + lones (all_variables a.terms)) atoms)

pub filled_marks_lem : (c : Clause) → filled_marks (fresh_of c) 0 (clause_marks c) ≡ clause_marks (filled c)
unfolding filled_marks clause_marks filled filled_atom filled_term variables
filled_marks_lem c =
    let lone = lones (all_variables c.head.terms) in
    term_filled (fresh_of c) 0 (symbol c.head.name c.head.terms) (body_marks neck c.subgoals)
    ∙ ap (λ (i : ℕ). atom_marks (filled c).head ++ filled_marks (fresh_of c) i (body_marks neck c.subgoals)) (zero-add lone)
    ∙ ap (λ (ms : List Mark). atom_marks (filled c).head ++ ms) (body_filled (fresh_of c) neck (λ i ms. refl) lone c.subgoals)
