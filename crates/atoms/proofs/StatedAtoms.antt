-- Which atom of its rule a line states.
use mathlib.Core.Path.{◌≡◌, sym, ◌∙◌}
use mathlib.Core.Bool.{Bool, cond}
use Prim.Native.Nat.{ℕ, suc, ◌+◌, ◌≤◌, ◌<◌}
use native.Mathlib.Numerals.{add-one}
use native.Mathlib.Omega.{arith}
use lib.Dec.{ltb}
use Rattle.groundwork.proofs.Truth.{by_truth, ltb-lt, lt-ltb, ge-ltb}
use Rattle.theory.specs.declared.Letter.{Letter}
use Rattle.theory.specs.declared.Letter.TheVariants.{P, C, G, H, B, M, E, NoLetter}
use Rattle.atoms.specs.Fields.{subgoal_atom, atom_of}

pub subgoal_next : (subgoals : ℕ) → subgoals < 8 → subgoal_atom subgoals ≡ suc subgoals
unfolding subgoal_atom
subgoal_next subgoals room = rw (lt-ltb subgoals 8 room)

pub subgoal_room : (subgoals : ℕ) → subgoals < 8 → subgoals + 1 ≡ subgoal_atom subgoals
subgoal_room subgoals room = add-one subgoals ∙ sym (subgoal_next subgoals room)

pub subgoal_full : (subgoals : ℕ) → 8 ≤ subgoals → 8 ≡ subgoal_atom subgoals
unfolding subgoal_atom
subgoal_full subgoals full = rw (ge-ltb subgoals 8 full)

pub atom_high : (letter : Letter) (subgoals : ℕ) → atom_of letter subgoals ≤ 8
unfolding subgoal_atom
atom_high P subgoals = omega arith
atom_high C subgoals = omega arith
atom_high G subgoals = omega arith
atom_high H subgoals = omega arith
atom_high B subgoals = by_truth (λ (b : Bool). cond b (suc subgoals) 8 ≤ 8) (ltb subgoals 8) (λ less. omega (arith, ltb-lt subgoals 8 less)) (λ more. omega arith)
atom_high M subgoals = omega arith
atom_high E subgoals = omega arith
atom_high NoLetter subgoals = omega arith
