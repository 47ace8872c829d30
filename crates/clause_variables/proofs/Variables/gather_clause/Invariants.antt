use Prim.Native.Nat.{◌-◌}
use lib.ListN.{length}
use Rattle.clause_variables.proofs.ClauseLoop.{Gathering}
use Rattle.clause_variables.proofs.Variables.gather_clause.Given as goal

abbrev pub invariant-loop-token : goal.invariant-loop-token
invariant-loop-token l = Gathering l.text l.from l.self l.at

abbrev pub decreases-loop-token : goal.decreases-loop-token
decreases-loop-token l = length l.text - l.at
