-- A filled clause is the clause with its fresh variables for its `_`, in their order, each for one.
use mathlib.Core.Path.{◌≡◌, refl, sym, ◌∙◌, ap, subst}
use mathlib.Core.Bool.{cond}
use mathlib.Core.List.{List, [], ◌∷◌, ◌++◌}
use Prim.Native.Nat.{ℕ, zero, suc, ◌+◌}
use native.Mathlib.Nat.{zero-add, add-zero, suc-add}
use native.Mathlib.Omega.{arith}
use lib.ListN.{length}
use Rattle.groundwork.proofs.Truth.{by_truth}
use Rattle.theory.specs.Text.{Bytes, bytes}
use Rattle.theory.specs.Terms.{Term, Terms, variable, symbol, nil, cons, variables, all_variables}
use Rattle.theory.specs.Packs.{Atom}
use Rattle.theory.specs.Residuals.{atoms_variables}
use Rattle.clause_theory.specs.Clauses.{Clause}
use Rattle.clause_theory.specs.Import.{clause_variables, is_lone, lones, nth, fresh_of, filled_term, filled_terms, filled_atom, filled_atoms, filled}
use Rattle.clause_theory.specs.Imported.{Fills, lone, written, within, FillsAll, no_terms, a_term, FillsAtoms, no_atoms, an_atom}
use Rattle.clause_theory.proofs.Filling.{lones_append}
use Rattle.clause_theory.proofs.FreshVariables.{fresh_length}
use Rattle.theory.proofs.Reading.Bytes.{same_equal, same_unequal}

-- ---- so many of them, from the ith on

stretch : List Bytes → ℕ → ℕ → List Bytes
stretch fresh i zero = []
stretch fresh i (suc n) = nth fresh i ∷ stretch fresh (suc i) n

stretch_append : (fresh : List Bytes) (i n m : ℕ) → stretch fresh i (n + m) ≡ stretch fresh i n ++ stretch fresh (i + n) m
unfolding stretch
stretch_append fresh i zero m = rw (zero-add m, add-zero i)
stretch_append fresh i (suc n) m =
    ap (stretch fresh i) (suc-add n m) ∙ ap (λ (vs : List Bytes). nth fresh i ∷ vs) (stretch_append fresh (suc i) n m ∙ ap (λ (j : ℕ). stretch fresh (suc i) n ++ stretch fresh j m) (omega arith))

stretch_later : (x : Bytes) (fresh : List Bytes) (i n : ℕ) → stretch (x ∷ fresh) (suc i) n ≡ stretch fresh i n
unfolding stretch
stretch_later x fresh i zero = refl
stretch_later x fresh i (suc n) = ap (λ (vs : List Bytes). nth fresh i ∷ vs) (stretch_later x fresh (suc i) n)

stretch_all : (fresh : List Bytes) → stretch fresh 0 (length fresh) ≡ fresh
unfolding stretch
stretch_all [] = refl
stretch_all (x ∷ fresh) = ap (λ (vs : List Bytes). x ∷ vs) (stretch_later x fresh 0 (length fresh) ∙ stretch_all fresh)

-- ---- terms and atoms

module _ (fresh : List Bytes) where
  -- the stretch for variables, and then for others
  both : (i : ℕ) (xs ys : List Bytes) → stretch fresh i (lones xs) ++ stretch fresh (i + lones xs) (lones ys) ≡ stretch fresh i (lones (xs ++ ys))
  both i xs ys = sym (stretch_append fresh i (lones xs) (lones ys)) ∙ ap (stretch fresh i) (sym (lones_append xs ys))

  variable_fills : (i : ℕ) (x : Bytes) → Fills (stretch fresh i (lones (x ∷ []))) (variable x) (cond (is_lone x) (variable (nth fresh i)) (variable x))
  unfolding stretch lones
  variable_fills i x =
      by_truth (λ b. Fills (stretch fresh i (cond b 1 0)) (variable x) (cond b (variable (nth fresh i)) (variable x))) (is_lone x)
      (λ e. subst (λ (y : Bytes). Fills (nth fresh i ∷ []) (variable y) (variable (nth fresh i))) (sym (same_equal x (bytes "_") e)) lone)
      (λ e. written (same_unequal x (bytes "_") e))

  mutual
    unfolding filled_term variables lones stretch

    term_fills : (i : ℕ) (t : Term) → Fills (stretch fresh i (lones (variables t))) t (filled_term fresh i t)
    term_fills i (variable x) = variable_fills i x
    term_fills i (symbol f ts) = within (terms_fill i ts)

    terms_fill : (i : ℕ) (ts : Terms) → FillsAll (stretch fresh i (lones (all_variables ts))) ts (filled_terms fresh i ts)
    terms_fill i nil = no_terms
    terms_fill i (cons t ts) =
        subst (λ (vs : List Bytes). FillsAll vs (cons t ts) (filled_terms fresh i (cons t ts))) (both i (variables t) (all_variables ts)) (a_term (term_fills i t) (terms_fill (i + lones (variables t)) ts))

  atoms_fill : (i : ℕ) (atoms : List Atom) → FillsAtoms (stretch fresh i (lones (atoms_variables atoms))) atoms (filled_atoms fresh i atoms)
  unfolding filled_atoms filled_atom atoms_variables lones stretch
  atoms_fill i [] = no_atoms
  atoms_fill i (a ∷ atoms) =
      subst (λ (vs : List Bytes). FillsAtoms vs (a ∷ atoms) (filled_atoms fresh i (a ∷ atoms))) (both i (all_variables a.terms) (atoms_variables atoms))
      (an_atom (terms_fill i a.terms) (atoms_fill (i + lones (all_variables a.terms)) atoms))

pub clause_fills : (c : Clause) → FillsAtoms (fresh_of c) (c.head ∷ c.subgoals) ((filled c).head ∷ (filled c).subgoals)
unfolding filled filled_atoms
clause_fills c =
    let n = lones (clause_variables c) in
    let all : stretch (fresh_of c) 0 n ≡ fresh_of c = ap (stretch (fresh_of c) 0) (sym (fresh_length n (clause_variables c))) ∙ stretch_all (fresh_of c) in
    subst (λ (vs : List Bytes). FillsAtoms vs (c.head ∷ c.subgoals) ((filled c).head ∷ (filled c).subgoals)) all
    (subst (λ (i : ℕ). FillsAtoms (stretch (fresh_of c) 0 n) (c.head ∷ c.subgoals) ((filled c).head ∷ filled_atoms (fresh_of c) i c.subgoals)) (zero-add (lones (all_variables c.head.terms)))
    (atoms_fill (fresh_of c) 0 (c.head ∷ c.subgoals)))
