-- How many rules and `M` lines there are, with one rule more or the last one changed.
use mathlib.Core.Path.{◌≡◌, refl, ap}
use mathlib.Core.List.{List, [], ◌∷◌, ◌++◌, map}
use Prim.Native.Nat.{suc, ◌+◌}
use native.Mathlib.Omega.{arith}
use lib.ListN.{length}
use Rattle.theory.specs.Lists.{ending, total}
use Rattle.theory.specs.Packs.{Atom, Rule, on_subgoals}
use Rattle.theory.specs.Written.{on_last}
use Rattle.theory.specs.Check.{multiplier_lines}

pub multiplier_lines_end : (rs : List Rule) (r : Rule) → multiplier_lines (rs ++ (r ∷ [])) ≡ multiplier_lines rs + length r.multipliers
unfolding multiplier_lines
multiplier_lines_end [] r = omega arith
multiplier_lines_end (s ∷ rs) r = omega (arith, multiplier_lines_end rs r)

pub multiplier_lines_total : (rs : List Rule) → multiplier_lines rs ≡ total (map (λ (r : Rule). length r.multipliers) rs)
unfolding multiplier_lines total
multiplier_lines_total [] = refl
multiplier_lines_total (r ∷ rs) = ap (λ n. length r.multipliers + n) (multiplier_lines_total rs)

pub length_on_last : (change : Rule → Rule) (rs : List Rule) → length (on_last change rs) ≡ length rs
unfolding on_last
length_on_last change [] = refl
length_on_last change (r ∷ []) = refl
length_on_last change (r ∷ s ∷ rs) = ap suc (length_on_last change (s ∷ rs))

pub multiplier_lines_subgoal : (a : Atom) (rs : List Rule) → multiplier_lines (on_last (on_subgoals (ending a)) rs) ≡ multiplier_lines rs
unfolding multiplier_lines on_last
multiplier_lines_subgoal a [] = refl
multiplier_lines_subgoal a (r ∷ []) = refl
multiplier_lines_subgoal a (r ∷ s ∷ rs) = ap (λ n. length r.multipliers + n) (multiplier_lines_subgoal a (s ∷ rs))
