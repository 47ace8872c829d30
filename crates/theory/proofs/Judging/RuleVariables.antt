-- The variables of a rule with more subgoals: those of the rule with fewer, and then the others. So they are no fewer.
use mathlib.Core.Path.{◌≡◌, refl, sym, ◌∙◌, ap, subst}
use mathlib.Core.Bool.{Bool, true, false, cond}
use mathlib.Core.List.{List, [], ◌∷◌, ◌++◌, append_assoc}
use Prim.Native.Nat.{◌≤◌}
use native.Mathlib.Omega.{arith}
use native.Mathlib.Nat.{le_refl, le_trans}
use lib.ListN.{length}
use Rattle.theory.specs.Text.{Bytes, among}
use Rattle.theory.specs.Terms.{all_variables}
use Rattle.theory.specs.Packs.{Atom}
use Rattle.theory.specs.Residuals.{numbered, atoms_variables, rule_variables}
use Rattle.groundwork.proofs.Lists.{length_end}

pub numbered_length : (seen xs : List Bytes) → length seen ≤ length (numbered seen xs)
unfolding numbered
numbered_length seen [] = le_refl _
numbered_length seen (x ∷ xs) = le_trans (more (among x seen)) (numbered_length (cond (among x seen) seen (seen ++ (x ∷ []))) xs)
  where
    more : (b : Bool) → length seen ≤ length (cond b seen (seen ++ (x ∷ [])))
    more true = le_refl _
    more false = omega (arith, length_end seen x)

pub numbered_append : (seen xs ys : List Bytes) → numbered seen (xs ++ ys) ≡ numbered (numbered seen xs) ys
unfolding numbered
numbered_append seen [] ys = refl
numbered_append seen (x ∷ xs) ys = numbered_append (cond (among x seen) seen (seen ++ (x ∷ []))) xs ys

atoms_variables_append : (first rest : List Atom) → atoms_variables (first ++ rest) ≡ atoms_variables first ++ atoms_variables rest
unfolding atoms_variables
atoms_variables_append [] rest = refl
atoms_variables_append (a ∷ first) rest = ap (λ (l : List Bytes). all_variables a.terms ++ l) (atoms_variables_append first rest) ∙ sym (append_assoc (all_variables a.terms) (atoms_variables first) (atoms_variables rest))

pub variables_of_more : (head : Atom) (before after : List Atom) → rule_variables head (before ++ after) ≡ numbered (rule_variables head before) (atoms_variables after)
unfolding rule_variables
variables_of_more head before after = ap (numbered []) (atoms_variables_append (head ∷ before) after) ∙ numbered_append [] (atoms_variables (head ∷ before)) (atoms_variables after)

pub variables_of_fewer : (head : Atom) (before after : List Atom) → length (rule_variables head before) ≤ length (rule_variables head (before ++ after))
variables_of_fewer head before after =
    subst (λ (l : List Bytes). length (rule_variables head before) ≤ length l) (sym (variables_of_more head before after)) (numbered_length (rule_variables head before) (atoms_variables after))
