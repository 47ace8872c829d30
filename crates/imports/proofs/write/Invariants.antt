use Prim.Native.Nat.{◌-◌}
use lib.ListN.{length}
use Rattle.imports.proofs.Loops.{Written}
use Rattle.imports.proofs.write.Given as goal

abbrev pub invariant-loop-variables : goal.invariant-loop-variables
invariant-loop-variables l = Written l.text l.initial.buffer l.buffer l.clauses l.to l.at

abbrev pub decreases-loop-variables : goal.decreases-loop-variables
decreases-loop-variables l = length l.text - l.at
