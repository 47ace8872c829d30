-- Document 02, 4/14: by the structural measure the two parts of a term's size are those of 000, section 1.4. Proves
-- SectionForm of specs/Promises.
use mathlib.Core.Path.{◌≡◌, refl, ap, ap₂}
use mathlib.Core.Bool.{true}
use mathlib.Core.List.{List, [], ◌∷◌, ◌++◌, flatten}
use Prim.Native.Nat.{ℕ, suc, ◌+◌}
use native.Mathlib.Omega.{arith}
use lib.IntN.{pos}
use lib.ListN.{length, replicate}
use Rattle.theory.specs.Lists.{total}
use Rattle.theory.specs.Text.{Bytes}
use Rattle.theory.specs.Terms.{Term, Terms, variable, symbol, nil, cons, arity, variables, all_variables}
use Rattle.theory.specs.Sizes.{arities_of, all_arities, sum_of_arities, occurrences, occurrences_in, structural, flagged, constant_of, constants_of, counted, arguments_counted, coefficient_of}
use Rattle.theory.specs.Forms.{form_of}
use Rattle.theory.specs.Promises.{SectionForm}
use Rattle.theory.proofs.Soundness.FormValues.{form_path}
use Rattle.theory.proofs.Soundness.Sizes.{length_sizes}

-- the structural measure flags every argument
flagged_all : {A : Type 0} (values : List A) → flagged (replicate (length values) true) values ≡ values
unfolding flagged
flagged_all [] = refl
flagged_all (v ∷ values) = ap (λ rest. v ∷ rest) (flagged_all values)

-- ---- the first part

total_append : (ms ns : List ℕ) → total (ms ++ ns) ≡ total ms + total ns
unfolding total
total_append [] ns = omega arith
total_append (m ∷ ms) ns = omega (arith, total_append ms ns)

mutual
  unfolding constant_of structural sum_of_arities arities_of total

  structural_constant : (t : Term) → constant_of structural t ≡ sum_of_arities t
  structural_constant (variable x) = refl
  structural_constant (symbol f ts) = rw (← length_sizes structural ts, flagged_all (constants_of structural ts), all_constants ts)

  all_constants : (ts : Terms) → total (constants_of structural ts) ≡ total (all_arities ts)
  all_constants nil = refl
  all_constants (cons t ts) = omega (arith, structural_constant t, all_constants ts, total_append (arities_of t) (all_arities ts))

-- ---- the second part

length_counted : (ts : Terms) → length (arguments_counted structural ts) ≡ arity ts
unfolding counted arity
length_counted nil = refl
length_counted (cons t ts) = ap suc (length_counted ts)

mutual
  unfolding counted structural variables flatten

  structural_counted : (t : Term) → counted structural t ≡ variables t
  structural_counted (variable x) = refl
  structural_counted (symbol f ts) = rw (← length_counted ts, flagged_all (arguments_counted structural ts)) (all_counted ts)

  all_counted : (ts : Terms) → flatten (arguments_counted structural ts) ≡ all_variables ts
  all_counted nil = refl
  all_counted (cons t ts) = ap₂ (λ xs ys. xs ++ ys) (structural_counted t) (all_counted ts)

structural_coefficient : (t : Term) (x : Bytes) → coefficient_of structural t x ≡ occurrences_in t x
unfolding occurrences_in
structural_coefficient t x = ap (occurrences x) (structural_counted t)

-- ---- both together

pub section_form : (t : Term) → SectionForm t
unfolding form_of
section_form t = record {
  first = structural_constant t;
  second = structural_coefficient t;
  both = form_path (ap pos (structural_constant t)) (λ x. ap pos (structural_coefficient t x));
}
