-- `atoms::subgoal_atom` meets its contract. Assumes nothing.
use borrow.Author.Rules.{rules}
use Rattle.atoms.proofs.StatedAtoms.{subgoal_room, subgoal_full}
use Rattle.atoms.proofs.subgoal_atom.Goals as goal

pub returns-then-subgoals-lt8 : goal.returns-then-subgoals-lt8
returns-then-subgoals-lt8 c = search (rules, subgoal_room)

pub returns-else-subgoals-lt8 : goal.returns-else-subgoals-lt8
returns-else-subgoals-lt8 c = search (rules, subgoal_full)
