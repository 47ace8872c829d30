-- How much room the lines of a clause within the limits take: at most nine lines of 1,024 bytes, each with its byte 10.
use mathlib.Core.Path.{◌≡◌, refl}
use mathlib.Core.Bool.{true}
use mathlib.Core.List.Memᴰ
use mathlib.Core.List.{List, [], ◌∷◌, map}
use Prim.Native.Nat.{◌*◌, ◌≤◌}
use native.Mathlib.Omega.{arith}
use lib.ListN.{length, length-append, length-map}
use Rattle.theory.specs.Lists.{◌∈◌}
use Rattle.theory.specs.Text.{Bytes}
use Rattle.theory.specs.Packs.{text_of, head_line, subgoal_line, line}
use Rattle.clause_theory.specs.Clauses.{Clause}
use Rattle.clause_theory.specs.Import.{clause_lines, clause_fits}
use Rattle.clause_theory.proofs.ClauseLimits.{limits_kept}

text_length_lem : (ls : List Bytes) → ((l : Bytes) → l ∈ ls → length l ≤ 1024) → length (text_of ls) ≤ 1025 * length ls
unfolding text_of
text_length_lem [] short = omega arith
text_length_lem (l ∷ ls) short = omega (arith, length-append l (10 ∷ text_of ls), short l (Memᴰ.head refl), text_length_lem ls (λ k m. short k (Memᴰ.tail m)))

pub clause_room : (c : Clause) → clause_fits c ≡ true → length (text_of (clause_lines c)) ≤ 9225
unfolding clause_lines
clause_room c fits =
    let within = (limits_kept c).fits.0 fits in
    omega (arith, text_length_lem (clause_lines c) within.lines, within.subgoals, length-map (head_line c.head ∷ map subgoal_line c.subgoals) line, length-map c.subgoals subgoal_line)
