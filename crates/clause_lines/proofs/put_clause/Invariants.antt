use Prim.Native.Nat.{◌-◌}
use lib.ListN.{length}
use Rattle.clause_lines.proofs.ClauseDrawing.{Progress}
use Rattle.clause_lines.proofs.put_clause.Given as goal

abbrev pub invariant-loop-token : goal.invariant-loop-token
invariant-loop-token l = Progress l.text l.from l.variables l.initial.page l.page l.pen l.number l.at

abbrev pub decreases-loop-token : goal.decreases-loop-token
decreases-loop-token l = length l.text - l.at
