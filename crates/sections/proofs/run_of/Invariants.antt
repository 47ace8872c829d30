use Prim.Native.Nat.{◌-◌}
use lib.ListN.{length}
use Rattle.sections.proofs.Walks.{Walked}
use Rattle.sections.proofs.run_of.Given as goal

abbrev pub invariant-loop-at : goal.invariant-loop-at
invariant-loop-at l = Walked l.text l.letter l.from l.lines l.at

abbrev pub decreases-loop-at : goal.decreases-loop-at
decreases-loop-at l = length l.text - l.at
