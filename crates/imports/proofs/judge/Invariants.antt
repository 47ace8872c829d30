use Prim.Native.Nat.{◌-◌}
use lib.ListN.{length}
use Rattle.imports.proofs.Loops.{Judged}
use Rattle.imports.proofs.judge.Given as goal

abbrev pub invariant-loop-variables : goal.invariant-loop-variables
invariant-loop-variables l = Judged l.text l.room l.page l.clauses l.bytes l.at

abbrev pub decreases-loop-variables : goal.decreases-loop-variables
decreases-loop-variables l = length l.text - l.at
